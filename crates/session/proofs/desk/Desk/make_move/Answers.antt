use Rattle.std.proofs.Common.{◌≡◌, ◌≤◌, sym, subst, ◌∙◌, arith}
use Rattle.history.specs.Holds.{lent, Holds}
use Rattle.session.specs.Desks.{memory_of}
use Rattle.session.proofs.Keeping.{whole, desk_holds, kept_in, memory_back}
use Rattle.session.proofs.desk.Desk.make_move.Goals as goal
use Rattle.session.proofs.desk.Desk.make_move.Goals.{After-deref_mut-4, After-make_move}

-- what is lent is what the desk holds
lent-now : (c : After-deref_mut-4) →
    lent c.deref_mut.result.now c.deref_mut-2.result.now c.deref_mut-3.result.now c.deref_mut-4.result.now ≡ memory_of c.args.self.now
lent-now c = λ i. lent (c.deref_mut.ensures.value i) (c.deref_mut-2.ensures.value i) (c.deref_mut-3.ensures.value i) (c.deref_mut-4.ensures.value i)

pub make_move-requires : goal.make_move-requires
make_move-requires c = subst (Holds c.args.self.now.game) (sym (lent-now c)) (desk_holds c.args.self.now)

-- and what it holds afterwards is what was left
left-now : (c : After-make_move) →
    let d = c.args.self.now in
    lent c.make_move.new.stones c.make_move.new.log c.make_move.new.parents c.make_move.new.borders
    ≡ lent (whole c.make_move.new.stones d.stones.items d.stones.len) (whole c.make_move.new.log d.log.items d.log.len)
    (whole c.make_move.new.parents d.parents.items d.parents.len) (whole c.make_move.new.borders d.borders.items d.borders.len)
left-now c =
    memory_back _ _ _ _ _ _ _ _ _ _ _ _
    (omega (arith, c.make_move.auto.stones, c.deref_mut.ensures.len)) (omega (arith, c.make_move.auto.log, c.deref_mut-2.ensures.len))
    (omega (arith, c.make_move.auto.parents, c.deref_mut-3.ensures.len)) (omega (arith, c.make_move.auto.borders, c.deref_mut-4.ensures.len))

pub invariant_of-self : goal.invariant_of-self
invariant_of-self c =
    let d = c.args.self.now in
    let before = goal.at.invariant_of-self c in
    let same = sym (c.in_err-self.ensures.unchanged ∙ lent-now before.After-deref_mut-4) ∙ left-now before.After-make_move in
    let kept = kept_in d.game _ (subst (Holds d.game) same (desk_holds d)) in
    record { within = d.within; roomy = d.roomy; owned = d.owned; fair = kept.0; written = kept.1.0; grouped = kept.1.1.0 }

pub invariant_of-self-2 : goal.invariant_of-self-2
invariant_of-self-2 c =
    let d = c.args.self.now in
    let game = c.in_ok-self.field-0 in
    let kept = kept_in game _ (subst (Holds game) (left-now (goal.at.invariant_of-self-2 c).After-make_move) c.in_ok-self.ensures.holds) in
    record {
      within = subst (λ z. z.n ≤ d.largest.n) (sym c.in_ok-self.ensures.same_size) d.within;
      roomy = d.roomy;
      owned = d.owned;
      fair = kept.0;
      written = kept.1.0;
      grouped = kept.1.1.0;
    }
