use Rattle.std.proofs.Common.{◌≡◌, ◌+◌, get_or, sym, refl, ◌∙◌, arith, length-set}
use Rattle.std.proofs.lemmas.List.Edits.{fill_by_more}
use Rattle.ranking.specs.Positions.{start}
use Rattle.ranking.proofs.Counting.{start_small, start_none, start_next}
use Rattle.ranking.proofs.positions.Ranking.new.Goals as goal

pub loop-m-init : goal.loop-m-init
loop-m-init c = (refl, λ m h. let first : m ≡ 0 = omega arith in rw first (sym (start_none c.args.cells)))

pub overflow_add-starts : goal.overflow_add-starts
overflow_add-starts c =
    let m = c.loop-m.m in
    omega (arith, c.loop-m.invariant.1 m (omega arith), c.ways.ensures, start_next c.args.cells m, start_small c.args.cells (m + 1) c.requires (omega arith))

pub loop-m-preserved : goal.loop-m-preserved
loop-m-preserved c =
    let m = c.loop-m.m in
    let starts = c.loop-m.starts in
    let value : get_or starts m 0 + c.ways.result ≡ start c.args.cells (m + 1) = omega (arith, c.loop-m.invariant.1 m (omega arith), c.ways.ensures, start_next c.args.cells m) in
    (length-set starts (m + 1) _ ∙ c.loop-m.invariant.0, rw value (fill_by_more (start c.args.cells) starts (m + 1) 0 (omega arith) c.loop-m.invariant.1))
