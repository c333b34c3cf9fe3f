-- Games as they are played: a list of moves, each to an empty cell, none after somebody has won;
-- and what memory holds of them.
use Rattle.std.specs.Prelude.{◌≡◌, ℕ, ◌-◌, ◌*◌, ◌%◌, ◌<◌, List, ◌++◌, length, take, ◌==◌}
use Rattle.std.specs.Prelude.{slice_index, if◌then◌else◌}
use Rattle.hexboard.specs.Board.{all_cells, other}
use Rattle.hexboard.specs.Games as games
use Rattle.hexboard.specs.Words.{words}
use Rattle.groups.specs.Stones.{KeepsGroups}
use Rattle.groups.specs.Moves.{stones_of, board_of, turn_of, forest_of, Legal}
use Rattle.groups.specs.Meaning.{Open}

-- the game that a list of moves leads to from the empty board
abbrev pub game_of : ℕ → List ℕ → games.Game
game_of n ms = record { board = board_of n ms; turn = turn_of ms; moves = ms }

-- moves that can be made: each to an empty cell, and before each of them nobody had connected
pub record Played (n : ℕ) (ms : List ℕ) : Type 0 where
  pub legal : Legal n ms
  pub before : (k : ℕ) → k < length ms → Open (board_of n (take k ms))

-- who has won by the last of the moves, 0 for nobody: the side that made it, if the stone's group
-- touches both borders. That is the side that has connected, as `winner_has_connected` promises.
abbrev pub winner_of : ℕ → List ℕ → ℕ
winner_of n ms =
    if length ms == 0 then 0
    else if slice_index (forest_of n ms).borders (games.last_of 0 ms) % 4 == 3 then other
    (turn_of ms) else 0

-- What memory holds of these moves, byte for byte: the stones, the moves themselves with zeros
-- behind them, and the groups. The moves and the parents are numbers of two bytes, low byte first.
pub record Kept (n : ℕ) (ms stones log parents borders : List ℕ) : Type 0 where
  pub stones_are : stones ≡ (board_of n ms).cells
  pub log_is : words log ≡ ms ++ all_cells (n * n - length ms)
  pub log_long : length log ≡ n * n * 2
  pub groups_are : KeepsGroups n (stones_of ms) parents borders
  pub parents_long : length parents ≡ n * n * 2
