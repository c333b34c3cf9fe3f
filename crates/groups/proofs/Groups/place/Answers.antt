use Rattle.std.proofs.Common.{◌≡◌, Some, sym, refl, ◌∙◌, arith}
use Rattle.hexboard.specs.Geometry.{laid}
use Rattle.hexboard.specs.Sides.{number}
use Rattle.hexboard.proofs.Given.{upto_start, upto_next, upto_end, over_none}
use Rattle.hexboard.proofs.Reading.{stone_read, stone_other}
use Rattle.groups.specs.Forest.{held}
use Rattle.groups.specs.Lent.{before}
use Rattle.groups.proofs.Placing.{adopt_end, adopt_stone, adopt_other}
use Rattle.groups.proofs.Theorems.{memory_grows}
use Rattle.groups.proofs.Groups.place.Goals as goal

pub loop-near-init : goal.loop-near-init
loop-near-init c = (upto_start _ _ _ (c.into_iter-near-iterator.ensures.into_iter_gives ∙ c.of-near-items.ensures.value) (over_none _ _ _), refl)

pub loop-near-preserved-then-eq : goal.loop-near-preserved-then-eq
loop-near-preserved-then-eq c =
    let is : Some c.args.side ≡ c.stone.result = grind arith in
    let there = upto_next (adopt_end (laid c.args.size.n c.args.cells.now) _ _ _ _ _) c.in-Some.ensures.steps c.loop-near.invariant.0 in (
      (_, there.3, adopt_stone (laid c.args.size.n c.args.cells.now) _ _ _ _ _ _ _ there.1 there.2 _ _ (stone_read c.stone.ensures.value is) c.root-top.ensures.value c.join.ensures.value),
      c.join.ensures.behind ∙ c.loop-near.invariant.1,
    )

pub loop-near-preserved : goal.loop-near-preserved
loop-near-preserved c =
    let isnt : Some c.args.side ≡ c.stone.result → ⊥ = λ e. grind arith in
    let there = upto_next (adopt_end (laid c.args.size.n c.args.cells.now) _ _ _ _ _) c.in-Some.ensures.steps c.loop-near.invariant.0 in
    ((_, there.3, adopt_other (laid c.args.size.n c.args.cells.now) _ _ _ _ _ _ _ there.1 there.2 (stone_other c.stone.ensures.value isnt)), c.loop-near.invariant.1)

pub returns-clause-value : goal.returns-clause-value
returns-clause-value c =
    rw (sym c.borders.ensures.value, sym c.write.ensures)
    (upto_end (adopt_end (laid c.args.size.n c.args.cells.now) _ _ _ _ _) c.in-None.ensures.steps.0 c.loop-near.invariant.0)

pub returns-clause-grows : goal.returns-clause-grows
returns-clause-grows c =
    memory_grows c.args.size.n c.args.cells.now (number c.args.side) c.args.cell (before c.args.self) (held c.loop-near.parents c.loop-near.borders) (returns-clause-value c)
