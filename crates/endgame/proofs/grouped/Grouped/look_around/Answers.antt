use Rattle.std.proofs.Common.{◌≡◌, Some, sym, ◌∙◌, arith}
use Rattle.hexboard.proofs.Given.{upto_start, upto_next, upto_end, over_none}
use Rattle.hexboard.proofs.Reading.{stone_read, stone_other}
use Rattle.endgame.proofs.Gathered.{looked_end, looked_theirs, looked_ours}
use Rattle.endgame.proofs.grouped.Grouped.look_around.Goals as goal

pub loop-near-init : goal.loop-near-init
loop-near-init c =
    upto_start _ _ _ (c.into_iter-near-iterator.ensures.into_iter_gives ∙ c.of-near-items.ensures.value)
    (record { joined = over_none _ _ _; touched = c.borders.ensures.value ∙ over_none _ _ _ })

pub loop-near-preserved-then-ne : goal.loop-near-preserved-then-ne
loop-near-preserved-then-ne c =
    let isnt : Some c.opponent.result ≡ c.stone.result → ⊥ = λ e. grind arith in
    let there = upto_next looked_end c.in-Some.ensures.steps c.loop-near.invariant in
    let ours = looked_ours there.1 there.2 (λ e. stone_other c.stone.ensures.value isnt (e ∙ sym c.opponent.ensures)) in
    (_, there.3, rw (c.read.ensures, c.touched.ensures, c.root-root.ensures.value) ours)

pub loop-near-preserved : goal.loop-near-preserved
loop-near-preserved c =
    let is : Some c.opponent.result ≡ c.stone.result = grind arith in
    let there = upto_next looked_end c.in-Some.ensures.steps c.loop-near.invariant in
    (_, there.3, looked_theirs there.1 there.2 (stone_read c.stone.ensures.value is ∙ c.opponent.ensures))

pub returns-clause-near : goal.returns-clause-near
returns-clause-near c = (upto_end looked_end c.in-None.ensures.steps.0 c.loop-near.invariant).joined

pub returns-clause-borders : goal.returns-clause-borders
returns-clause-borders c = (upto_end looked_end c.in-None.ensures.steps.0 c.loop-near.invariant).touched
