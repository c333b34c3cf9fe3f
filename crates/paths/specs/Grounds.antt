-- The ground of the code as the ways of a side see it, and the room that a search over it needs.
use Rattle.std.specs.Prelude.{◌≡◌, ℕ, ◌*◌, length}
use Rattle.hexboard.specs.Geometry.{laid}
use Rattle.hexboard.specs.Sides.{number}
use Rattle.hexboard.specs.Words.{words}
use Rattle.paths.specs.Ways.{Ground, ground}
use Rattle.paths.specs.declared.ground.Ground as code
use Rattle.paths.specs.declared.frontier.Frontier.{Frontier}

-- the stones of its side on its board, and that side's borders
abbrev pub ground_of : code.Ground → Ground
ground_of g = ground (laid g.size.n g.cells.now) (number g.side)

-- the queue and `from` have a number for each cell of a board n wide
pub record HasRoom (f : Frontier) (n : ℕ) : Type 0 where
  pub queued : length (words f.queue.now) ≡ n * n
  pub marked : length (words f.from.now) ≡ n * n
