use Rattle.std.proofs.Common.{◌≡◌, ◌≤◌, sym, subst, arith}
use Rattle.history.specs.Holds.{lent, Holds}
use Rattle.session.specs.Desks.{memory_of}
use Rattle.session.proofs.Keeping.{whole, desk_holds, kept_in, memory_back}
use Rattle.session.proofs.desk.Desk.serve.Goals as goal
use Rattle.session.proofs.desk.Desk.serve.Goals.{After-deref_mut-6, After-serve-reply}

-- what is lent is what the desk holds
lent-now : (c : After-deref_mut-6) →
    lent c.deref_mut.result.now c.deref_mut-2.result.now c.deref_mut-3.result.now c.deref_mut-4.result.now ≡ memory_of c.args.self.now
lent-now c = λ i. lent (c.deref_mut.ensures.value i) (c.deref_mut-2.ensures.value i) (c.deref_mut-3.ensures.value i) (c.deref_mut-4.ensures.value i)

pub serve-reply-requires-clause-holds : goal.serve-reply-requires-clause-holds
serve-reply-requires-clause-holds c = subst (Holds c.args.self.now.game) (sym (lent-now c)) (desk_holds c.args.self.now)

-- and what it holds afterwards is what was left
left-now : (c : After-serve-reply) →
    let d = c.args.self.now in
    lent c.serve-reply.new.stones c.serve-reply.new.log c.serve-reply.new.parents c.serve-reply.new.borders
    ≡ lent (whole c.serve-reply.new.stones d.stones.items d.stones.len) (whole c.serve-reply.new.log d.log.items d.log.len)
    (whole c.serve-reply.new.parents d.parents.items d.parents.len) (whole c.serve-reply.new.borders d.borders.items d.borders.len)
left-now c =
    memory_back _ _ _ _ _ _ _ _ _ _ _ _
    (omega (arith, c.serve-reply.auto.stones, c.deref_mut.ensures.len)) (omega (arith, c.serve-reply.auto.log, c.deref_mut-2.ensures.len))
    (omega (arith, c.serve-reply.auto.parents, c.deref_mut-3.ensures.len)) (omega (arith, c.serve-reply.auto.borders, c.deref_mut-4.ensures.len))

pub invariant_of-self : goal.invariant_of-self
invariant_of-self c =
    let d = c.args.self.now in
    let game = c.serve-reply.result.0 in
    let kept = kept_in game _ (subst (Holds game) (left-now (goal.at.invariant_of-self c).After-serve-reply) c.serve-reply.ensures.holds) in
    record {
      within = subst (λ z. z.n ≤ d.largest.n) (sym c.serve-reply.ensures.same_size) d.within;
      roomy = d.roomy;
      owned = d.owned;
      fair = kept.0;
      written = kept.1.0;
      grouped = kept.1.1.0;
    }
