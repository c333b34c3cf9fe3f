-- What stands in the memory of a position. Definitions only.
use Rattle.std.specs.Prelude.{ℕ, List}
use Rattle.hexboard.specs.Board.{Board}
use Rattle.hexboard.specs.Geometry.{laid}
use Rattle.hexboard.specs.Words.{words}
use Rattle.endgame.specs.declared.grouped.Grouped.{Grouped}

-- the board of its stones
abbrev pub board : Grouped → Board
board g = laid g.size.n g.stones.now

-- the parents of its cells
abbrev pub parents : Grouped → List ℕ
parents g = words g.parents.now
