-- Laws of calls, answers and their bytes, each a statement. A function's contract asks for each.
use Rattle.std.specs.Prelude.{◌≡◌, ℕ, ◌+◌, ◌*◌, ◌%◌, ◌<◌, ◌≤◌, List, length, Some, Ok, Option}
use Rattle.std.specs.Prelude.{slice_index}
use Rattle.std.specs.List.{flat_map}
use Rattle.wire.specs.declared.call.Call.{Call}
use Rattle.hexboard.specs.Words.{words}
use Rattle.wire.specs.Numbers.{InBytes}
use Rattle.wire.specs.Bytes.{two, call_bytes, answer_bytes}
use Rattle.wire.specs.Reading.{read, Understood}
use Rattle.wire.specs.Formal.{told, shown_by}

-- Reading what a call is written as gives that call.
unfoldable pub CallComesBack : Type 0
CallComesBack = (c : Call) → read (call_bytes c) ≡ Ok c

-- Two calls have the same bytes only if they are the same.
unfoldable pub OneCall : Type 0
OneCall = (c d : Call) → call_bytes c ≡ call_bytes d → c ≡ d

-- What is understood of an answer's bytes is that answer.
unfoldable pub AnswerComesBack : Type 0
AnswerComesBack = (a : InBytes) (r : Option InBytes) → Understood (answer_bytes a) r → (b : InBytes)
    × (r ≡ Some b) × (told b ≡ told a)

-- Two answers have the same bytes exactly if they tell the same.
unfoldable pub OneAnswer : Type 0
OneAnswer = (a b : InBytes) → (answer_bytes a ≡ answer_bytes b → told a ≡ told b)
    × (told a ≡ told b → answer_bytes a ≡ answer_bytes b)

-- Two bytes for each cell of a board and 8 more have room for every answer, if a way has no more
-- cells than the board.
unfoldable pub RoomEnough : Type 0
RoomEnough = (a : InBytes) (cells : ℕ) → length (shown_by (told a)) ≤ cells →
    length (answer_bytes a) ≤ 2 * cells + 8

-- Cells that are written in two bytes each are read again, and the bytes that cells are read from
-- are those that they are written in.
unfoldable pub CellsComeBack : Type 0
CellsComeBack =
    ((cells : List ℕ) → words (flat_map two cells) ≡ cells)
    × ((bs : List ℕ) → ((i : ℕ) → slice_index bs i < 256) → length bs % 2 ≡ 0 →
    flat_map two (words bs) ≡ bs)
