use Rattle.std.proofs.Common.{◌≡◌, ℕ, ◌*◌, ◌/◌, ◌<◌, true, length, replicate, sym, ap, ◌∙◌, subst, arith, if◌then◌else◌}
use Rattle.std.proofs.lemmas.List.{length-replicate}
use Rattle.hexboard.specs.Geometry.{laid}
use Rattle.hexboard.specs.Sides.{number}
use Rattle.hexboard.specs.Words.{words}
use Rattle.hexboard.proofs.TwoBytes.{words_length, words_cleared}
use Rattle.paths.specs.Grounds.{ground_of}
use Rattle.paths.proofs.Grounds.{own_inside}
use Rattle.paths.proofs.Sources.{sow_none, sow_past, sow_met, sow_more}
use Rattle.paths.proofs.search.sow.Goals as goal

pub loop-cell-init : goal.loop-cell-init
loop-cell-init c =
    let ground = c.args.ground.now in
    let n = ground.size.n in
    let g = ground_of ground in
    let queue = words c.args.frontier.now.queue.now in
    let from = c.args.frontier.now.from.now in
    let half : length from / 2 ≡ n * n = omega (arith, words_length from, c.requires.marked) in
    let cleared = ap words (c.fill.ensures.after (λ y e. e)) ∙ (words_cleared (length from) ∙ ap (λ k. replicate k 0) half) in
    let inside = λ (x : ℕ) (own : g.own x ≡ true). subst (λ m. x < m) ground.whole (own_inside (laid n ground.cells.now) (number ground.side) x own) in
    record {
      sown = rw cleared (sow_none g queue (n * n) c.requires.queued inside);
      room = record { queued = c.requires.queued; marked = ap length cleared ∙ length-replicate (n * n) 0 };
    }

pub loop-cell-preserved-then-not-is_source : goal.loop-cell-preserved-then-not-is_source
loop-cell-preserved-then-not-is_source c =
    record { sown = sow_past c.loop-cell.invariant.sown (sym c.if-not-is_source.ensures); room = c.loop-cell.invariant.room }

pub returns-then-is_first-clause-sown : goal.returns-then-is_first-clause-sown
returns-then-is_first-clause-sown c =
    rw (c.enlist.ensures.listed, c.enlist.ensures.reached)
    (sow_met c.loop-cell.invariant.sown (sym c.if-not-is_source.ensures) (sym c.if-is_first.ensures))

pub loop-cell-preserved : goal.loop-cell-preserved
loop-cell-preserved c =
    record {
      sown = rw (c.enlist.ensures.listed, c.enlist.ensures.reached, c.enlist.ensures.count)
          (sow_more c.loop-cell.invariant.sown (sym c.if-not-is_source.ensures) (sym c.if-is_first.ensures));
      room = c.enlist.ensures.room _ c.loop-cell.invariant.room;
    }
