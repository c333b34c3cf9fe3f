use Rattle.std.proofs.Common.{◌≡◌, length, ap, ◌∙◌}
use Rattle.hexboard.specs.Board.{all_cells}
use Rattle.hexboard.specs.Geometry.{laid}
use Rattle.hexboard.proofs.Boards.{all_cells_replicate, good_empty}
use Rattle.hexboard.proofs.stones.clear.Goals as goal

pub returns : goal.returns
returns c =
    let m = length c.args.cells.now in
    let v : c.fill.new.self ≡ all_cells m = c.fill.ensures.after (λ y e. e) ∙ all_cells_replicate m in
    record {
      after = v;
      board = λ n e. ap (laid n) (v ∙ ap all_cells e);
      good = λ n h e. simp (v, e) (good_empty n h);
    }
