use Rattle.std.proofs.Common.{◌≡◌, Some, sym, refl, ◌∙◌, arith}
use Rattle.std.proofs.lemmas.Bool.{eq-eqb, ne_eqb}
use Rattle.hexboard.specs.Board.{at}
use Rattle.hexboard.specs.Sides.{number}
use Rattle.hexboard.proofs.Given.{upto_start, upto_next, upto_end, over_none, over_end, over_met}
use Rattle.hexboard.proofs.Reading.{stone_read, stone_other}
use Rattle.endgame.specs.Grouped.{board}
use Rattle.endgame.proofs.grouped.Grouped.enter_all.Goals as goal

pub loop-near-init : goal.loop-near-init
loop-near-init c = upto_start _ _ _ (c.into_iter-near-iterator.ensures.into_iter_gives ∙ c.of-near-items.ensures.value) (over_none _ _ _)

pub loop-near-preserved-then-eq : goal.loop-near-preserved-then-eq
loop-near-preserved-then-eq c =
    let is : Some c.args.side ≡ c.stone.result = grind arith in
    let there = upto_next (over_end _ (λ s. refl) _ _ _) c.in-Some.ensures.steps c.loop-near.invariant in
    let same = eq-eqb (at (board c.args.self.now) c.in-Some.near) (number c.args.side) (stone_read c.stone.ensures.value is) in
    (_, there.3, over_met _ _ _ _ _ _ _ there.1 there.2 (rw (same, sym c.root.ensures.value) c.enter-then-eq.ensures))

pub loop-near-preserved : goal.loop-near-preserved
loop-near-preserved c =
    let isnt : Some c.args.side ≡ c.stone.result → ⊥ = λ e. grind arith in
    let there = upto_next (over_end _ (λ s. refl) _ _ _) c.in-Some.ensures.steps c.loop-near.invariant in
    let apart = ne_eqb (at (board c.args.self.now) c.in-Some.near) (number c.args.side) (stone_other c.stone.ensures.value isnt) in
    (_, there.3, over_met _ _ _ _ _ _ _ there.1 there.2 (rw apart refl))

pub returns : goal.returns
returns c =
    let all = upto_end (over_end _ (λ s. refl) _ _ _) c.in-None.ensures.steps.0 c.loop-near.invariant in
    grind arith
