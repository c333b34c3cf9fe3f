use Rattle.std.proofs.Common.{◌≡◌, ◌≤◌, sym, subst, ◌∙◌, arith}
use Rattle.history.specs.Holds.{lent, Holds}
use Rattle.session.specs.Desks.{memory_of}
use Rattle.session.proofs.Keeping.{whole, desk_holds, kept_in, memory_back}
use Rattle.session.proofs.desk.Desk.take_back.Goals as goal
use Rattle.session.proofs.desk.Desk.take_back.Goals.{After-deref_mut-4, After-take_back}

-- what is lent is what the desk holds
lent-now : (c : After-deref_mut-4) →
    lent c.deref_mut.result.now c.deref_mut-2.result.now c.deref_mut-3.result.now c.deref_mut-4.result.now ≡ memory_of c.args.self.now
lent-now c = λ i. lent (c.deref_mut.ensures.value i) (c.deref_mut-2.ensures.value i) (c.deref_mut-3.ensures.value i) (c.deref_mut-4.ensures.value i)

pub take_back-requires : goal.take_back-requires
take_back-requires c = subst (Holds c.args.self.now.game) (sym (lent-now c)) (desk_holds c.args.self.now)

-- and what it holds afterwards is what was left
left-now : (c : After-take_back) →
    let d = c.args.self.now in
    lent c.take_back.new.stones c.take_back.new.log c.take_back.new.parents c.take_back.new.borders
    ≡ lent (whole c.take_back.new.stones d.stones.items d.stones.len) (whole c.take_back.new.log d.log.items d.log.len)
    (whole c.take_back.new.parents d.parents.items d.parents.len) (whole c.take_back.new.borders d.borders.items d.borders.len)
left-now c =
    memory_back _ _ _ _ _ _ _ _ _ _ _ _
    (omega (arith, c.take_back.auto.stones, c.deref_mut.ensures.len)) (omega (arith, c.take_back.auto.log, c.deref_mut-2.ensures.len))
    (omega (arith, c.take_back.auto.parents, c.deref_mut-3.ensures.len)) (omega (arith, c.take_back.auto.borders, c.deref_mut-4.ensures.len))

pub invariant_of-self : goal.invariant_of-self
invariant_of-self c =
    let d = c.args.self.now in
    let before = goal.at.invariant_of-self c in
    let same = sym (c.in_err-self.ensures.unchanged ∙ lent-now before.After-deref_mut-4) ∙ left-now before.After-take_back in
    let kept = kept_in d.game _ (subst (Holds d.game) same (desk_holds d)) in
    record { within = d.within; roomy = d.roomy; owned = d.owned; fair = kept.0; written = kept.1.0; grouped = kept.1.1.0 }

pub invariant_of-self-2 : goal.invariant_of-self-2
invariant_of-self-2 c =
    let d = c.args.self.now in
    let game = c.in_ok-self.field-0 in
    let kept = kept_in game _ (subst (Holds game) (left-now (goal.at.invariant_of-self-2 c).After-take_back) c.in_ok-self.ensures.holds) in
    record {
      within = subst (λ z. z.n ≤ d.largest.n) (sym c.in_ok-self.ensures.same_size) d.within;
      roomy = d.roomy;
      owned = d.owned;
      fair = kept.0;
      written = kept.1.0;
      grouped = kept.1.1.0;
    }
