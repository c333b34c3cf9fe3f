-- What a desk keeps between calls, as a fact that holds in at most one way, so that it can stand in
-- the desk's type.
use Rattle.std.specs.Prelude.{◌≡◌, ℕ, ◌-◌, ◌*◌, ◌<◌, ◌≤◌, ◌++◌, length, take}
use Rattle.hexboard.specs.Board.{all_cells, Connects}
use Rattle.hexboard.specs.Words.{words}
use Rattle.groups.specs.Forest.{held}
use Rattle.groups.specs.Moves.{board_of, forest_of, Legal}
use Rattle.endgame.specs.Verdicts.{bytes_of_table}
use Rattle.history.specs.Played.{winner_of}
use Rattle.history.specs.Holds.{won_by, Memory, moves_in}
use Rattle.history.specs.declared.game.Game.{Game}

-- Scratch and bytes for a way, for boards up to n wide: as long as the table of an end, which is
-- enough for both searches, and two bytes a cell.
abbrev pub Roomy : ℕ → ℕ → ℕ → Type 0
Roomy n scratch way = (4 * (n * n) ≤ scratch) × (way ≡ 2 * (n * n)) × (scratch ≡ bytes_of_table n)

-- The capacities of the six vectors of a desk for boards up to n wide: a byte for each stone, two
-- for each move, two for each cell's parent and one for its borders; the table of an end; and two
-- for each cell of a way.
abbrev pub HasRoom : ℕ → ℕ → ℕ → ℕ → ℕ → ℕ → ℕ → Type 0
HasRoom n stones log parents borders scratch way =
    (stones ≡ n * n) × (log ≡ n * n * 2) × (parents ≡ n * n * 2) × (borders ≡ n * n)
    × (scratch ≡ bytes_of_table n) × (way ≡ n * n * 2)

-- the moves that are in memory can be made
abbrev pub Fair : Game → Memory → Type 0
Fair g m =
    (length (moves_in g m) ≡ g.count) × Legal g.size.n (moves_in g m)
    × ((k : ℕ) → k < length (moves_in g m) →
    Connects (board_of g.size.n (take k (moves_in g m))) 1 → ⊥)
    × ((k : ℕ) → k < length (moves_in g m) →
    Connects (board_of g.size.n (take k (moves_in g m))) 2 → ⊥)

-- the stones and the log are those of the moves
abbrev pub Written : Game → Memory → Type 0
Written g m =
    (m.stones ≡ (board_of g.size.n (moves_in g m)).cells)
    × (words m.log ≡ moves_in g m ++ all_cells (g.size.n * g.size.n - length (moves_in g m)))
    × (length m.log ≡ g.size.n * g.size.n * 2)

-- and so are the groups and the winner
abbrev pub Grouped : Game → Memory → Type 0
Grouped g m =
    ((held m.parents m.borders).parents ≡ (forest_of g.size.n (moves_in g m)).parents)
    × (m.borders ≡ (forest_of g.size.n (moves_in g m)).borders)
    × (length m.parents ≡ g.size.n * g.size.n * 2)
    × (won_by g.winner ≡ winner_of g.size.n (moves_in g m))
