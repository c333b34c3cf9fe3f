-- What is answered of a position with few empty cells, and when it is right. Definitions only.
use Rattle.std.specs.Prelude.{◌≡◌, ℕ, ◌<◌, List, length, drop, nat_lt, if◌then◌else◌}
use Rattle.std.specs.Int.{div_ceil}
use Rattle.hexboard.specs.Board.{Board, at, empties, put, other}
use Rattle.hexboard.specs.Games.{Forces}
use Rattle.groups.specs.Meaning.{Open}
use Rattle.groups.specs.Stones.{Placement, board_of}
use Rattle.ranking.specs.Positions.{total}
use Rattle.endgame.specs.Prepared.{LeadTo}
use Rattle.endgame.specs.declared.verdict.Verdict.{Verdict}
use Rattle.endgame.specs.declared.verdict.Verdict.TheVariants.{Yes, No, TooMany}

-- how many bytes of table are enough on a board n wide: two bits for each position with at most 16
-- empty cells, or 9 on the boards that have no more
abbrev pub bytes_of_table : ℕ → ℕ
bytes_of_table n = if nat_lt n 4 then 1512 else 2541445

-- Behind the bytes that the positions of an end with e cells take, four to a byte, table u is table
-- t.
abbrev pub IsSameBehind : ℕ → List ℕ → List ℕ → Type 0
IsSameBehind e t u = drop (div_ceil (total e) 4) u ≡ drop (div_ceil (total e) 4) t

-- The answer is right on board b, with side s to move: s can force that it connects, and still can
-- after a move to an empty cell; or it cannot; or more than 16 cells are empty.
abbrev pub Right : Board → ℕ → Verdict → Type 0
Right b s (Yes i) = (i < length b.cells) × (at b i ≡ 0) × Forces s (put b s i) (other s)
Right b s No = Forces s b s → ⊥
Right b s TooMany = 16 < empties b.cells

-- It is right whatever stones lead to what is in memory, if nobody has connected.
abbrev pub Judges : ℕ → ℕ → List ℕ → List ℕ → List ℕ → Verdict → Type 0
Judges n s stones parents borders v =
    (laid : List Placement) → LeadTo n laid stones parents borders → Open (board_of n laid) →
    Right (board_of n laid) s v
