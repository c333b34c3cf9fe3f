use Rattle.std.proofs.Common.{lit<}
use Rattle.hexboard.specs.Geometry.{laid}
use Rattle.hexboard.proofs.Boards.{good_set}
use Rattle.hexboard.proofs.stones.lift.Goals as goal

pub returns-clause-good : goal.returns-clause-good
returns-clause-good c = λ n. good_set (laid n c.args.cells.now) 0 c.from-index.result (lit< tt)
