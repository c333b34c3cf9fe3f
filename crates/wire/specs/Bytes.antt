-- Calls and answers as bytes, and what it is to write them.
use Rattle.std.specs.Prelude.{◌≡◌, ℕ, ◌+◌, ◌*◌, ◌/◌, ◌%◌, ◌<◌, ◌≤◌, List, [], ◌∷◌, ◌++◌, length}
use Rattle.std.specs.Prelude.{take, drop, Some, None, Ok, Err, Option, Result}
use Rattle.std.specs.Borrow.{Bor}
use Rattle.std.specs.List.{flat_map}
use Rattle.hexboard.specs.Games as games
use Rattle.hexboard.specs.Sides as sides
use Rattle.hexboard.specs.declared.side.Side.{Side}
use Rattle.wire.specs.declared.answer.Answer.TheVariants.{Way}
use Rattle.wire.specs.declared.answer.Unwritten.{Unwritten}
use Rattle.wire.specs.declared.answer.Unwritten.TheVariants.{Short, NotCells}
use Rattle.wire.specs.declared.call.Call.{Call}
use Rattle.wire.specs.Formal.{told}
use Rattle.wire.specs.Numbers.{Numbered, call_numbers, way_numbers, InBytes, answer_numbers, Sound}

-- a number in two bytes, low byte first; the high one is a byte for every number below 65,536
abbrev pub two : ℕ → List ℕ
two n = n % 256 ∷ (n / 256 ∷ [])

-- a byte for the number of the case, and two for each value
abbrev pub in_bytes : Numbered → List ℕ
in_bytes c = c.number ∷ flat_map two c.values

abbrev pub call_bytes : Call → List ℕ
call_bytes c = in_bytes (call_numbers c)

-- an answer of the rules, and one of the code
abbrev pub shown : games.Answer → List ℕ
shown a = in_bytes (answer_numbers a)

abbrev pub answer_bytes : InBytes → List ℕ
answer_bytes a = shown (told a)

-- the head of a way, which its cells follow
abbrev pub way_head : Side → ℕ → List ℕ
way_head side count = in_bytes (way_numbers (sides.number side) count [])

-- The bytes bs are put at the front of old: it becomes new, which has the rest as it was, and size
-- is how many they are. If there is no room for them, nothing is written.
abbrev pub Written : List ℕ → List ℕ → List ℕ → Option ℕ → Type 0
Written bs old new (Some size) = (size ≡ length bs) × (length bs ≤ length old)
    × (new ≡ bs ++ drop (length bs) old)
Written bs old new None = (length old < length bs) × (new ≡ old)

-- the same of an answer, unless it has no bytes
abbrev pub Wrote : InBytes → List ℕ → List ℕ → Result ℕ Unwritten → Type 0
Wrote a old new (Ok size) = Sound a × Written (answer_bytes a) old new (Some size)
Wrote a old new (Err Short) = Sound a × Written (answer_bytes a) old new None
Wrote a old new (Err NotCells) = (Sound a → ⊥) × (new ≡ old)

-- These bytes have the head of a way in front of so many cells: they are that way's bytes, and what
-- may follow.
abbrev pub Headed : Side → ℕ → List ℕ → Type 0
Headed side count bs = (cells : Bor (List ℕ)) → length cells.now ≡ 2 * count →
    cells.now ≡ take (2 * count) (drop 5 bs) →
    take (5 + 2 * count) bs ≡ answer_bytes (Way side cells)
