-- What is known once an end has been looked through. Definitions only.
use Rattle.std.specs.Prelude.{ℕ, ◌-◌, ◌^◌, List}
use Rattle.hexboard.specs.Board.{Board}
use Rattle.endgame.specs.declared.links.Links.{Links}
use Rattle.endgame.specs.declared.search.Found.{Found}
use Rattle.endgame.specs.Ends.{Ending, IsTold}

-- For every end with e empty cells that has these links: the side to move wins, by the step, or the
-- other does.
abbrev pub TellsWinner : ℕ → Links → Links → Found → Type 0
TellsWinner e mine theirs f =
    (b : Board) (es : List ℕ) (s : ℕ) → Ending e b es s mine theirs →
    IsTold b es s 0 0 (2 ^ e - 1) f
