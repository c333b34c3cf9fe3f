-- The moves tell every byte of the memory, and who has won is who has connected: statements. A
-- function's contract asks for each.
use Rattle.std.specs.Prelude.{◌≡◌, ℕ, ◌<◌, ◌⊎◌, ◌↔◌, List, slice_index}
use Rattle.hexboard.specs.Board.{Connects}
use Rattle.hexboard.specs.Games as games
use Rattle.groups.specs.Moves.{board_of}
use Rattle.groups.specs.Meaning.{Open}
use Rattle.history.specs.Played.{Played, winner_of}
use Rattle.history.specs.Holds.{Memory, formal, Holds, Served}
use Rattle.history.specs.declared.game.Game.{Game}

-- what stands in memory are bytes
pub record InBytes (m : Memory) : Type 0 where
  pub log : (i : ℕ) → slice_index m.log i < 256
  pub parents : (i : ℕ) → slice_index m.parents i < 256

-- Two memories that hold the same game are the same, byte for byte, however they came about.
abbrev pub MovesTell : Type 0
MovesTell = (g h : Game) (m k : Memory) → InBytes m → InBytes k → Holds g m → Holds h k →
    formal g m ≡ formal h k → m ≡ k

-- So a move that is made and taken back leaves every byte as it was.
abbrev pub BackToTheByte : Type 0
BackToTheByte =
    (g h j : Game) (m k l : Memory) (x a b : ℕ) → InBytes m → InBytes l → Holds g m →
    Served g m (games.moves x) (games.number a) h k →
    Served h k games.back (games.number b) j l → l ≡ m

-- A side has won, by the byte of the last stone, exactly when it has connected on the board,
abbrev pub WinnerConnects : Type 0
WinnerConnects = (n s : ℕ) (ms : List ℕ) → Played n ms → (s ≡ 1) ⊎ (s ≡ 2) →
    ((winner_of n ms ≡ s) ↔ Connects (board_of n ms) s)

-- and nobody has won exactly when nobody has connected.
abbrev pub NobodyConnects : Type 0
NobodyConnects = (n : ℕ) (ms : List ℕ) → Played n ms → ((winner_of n ms ≡ 0) ↔ Open (board_of n ms))
