-- The numbers of calls, answers and refusals, and the values that each case holds: what code, bytes
-- and promises have them from.
use Rattle.std.specs.Prelude.{◌≡◌, ℕ, ◌+◌, ◌%◌, ◌^◌, ◌<◌, List, [], ◌∷◌, length, Some, None, Option}
use Rattle.std.specs.Prelude.{Result, MatchResult, ◌≢◌}
use Rattle.std.specs.Borrow.{Bor}
use Rattle.hexboard.specs.Games as games
use Rattle.wire.specs.declared.answer.Answer.{Answer}
use Rattle.wire.specs.declared.answer.Answer.TheVariants.{Refused, Number, Way, Yes, No, TooMany}
use Rattle.wire.specs.declared.call.Call.{Call}
use Rattle.wire.specs.declared.call.Call.TheVariants.{Move, Back, Who, CanForce}
use Rattle.wire.specs.declared.refusal.NoRefusal.{NoRefusal}
use Rattle.wire.specs.declared.refusal.Refusal.{Refusal}
use Rattle.wire.specs.declared.refusal.Refusal.TheVariants.{Unreadable, NoCell, BadSize}
use Rattle.wire.specs.declared.refusal.Refusal.TheVariants.{SmallMemory, Over, Taken, NoMove}

-- A call or an answer in numbers: the number of the case, and the values that the case holds.
pub record Numbered : Type 0 where
  pub number : ℕ
  pub values : List ℕ

-- why a call, or opening, is refused: the number of the reason, and the place
pub record Reason : Type 0 where
  pub number : ℕ
  pub place : ℕ

abbrev pub reason : Refusal → Reason
reason (Unreadable byte) = record { number = 1; place = byte }
reason NoCell = record { number = 2; place = 0 }
reason BadSize = record { number = 3; place = 0 }
reason SmallMemory = record { number = 3; place = 1 }
reason Over = record { number = 4; place = 0 }
reason Taken = record { number = 5; place = 0 }
reason NoMove = record { number = 6; place = 0 }

-- the refusal of a number and a place, or an error that carries them
abbrev pub ByReason : ℕ × ℕ → Result Refusal NoRefusal → Type 0
ByReason p r =
    MatchResult r (λ x. ((reason x).number ≡ p.0) × ((reason x).place ≡ p.1))
    (λ e. (e.number ≡ p.0) × (e.place ≡ p.1)
    × ((x : Refusal) → (reason x).number ≡ p.0 → (reason x).place ≢ p.1))

-- a move holds its cell
abbrev pub call_numbers : Call → Numbered
call_numbers (Move cell) = record { number = 0; values = cell ∷ [] }
call_numbers Back = record { number = 1; values = [] }
call_numbers Who = record { number = 2; values = [] }
call_numbers CanForce = record { number = 3; values = [] }

-- a way: its side, how many cells, and the cells
abbrev pub way_numbers : ℕ → ℕ → List ℕ → Numbered
way_numbers s count w = record { number = 2; values = s ∷ (count ∷ w) }

-- an answer of the rules: the one after a yes is one more than a cell, or 0
abbrev pub answer_numbers : games.Answer → Numbered
answer_numbers (games.refused r p) = record { number = 0; values = r ∷ (p ∷ []) }
answer_numbers (games.number n) = record { number = 1; values = n ∷ [] }
answer_numbers (games.way s w) = way_numbers s (length w) w
answer_numbers (games.yes next) = record { number = 3; values = next ∷ [] }
answer_numbers games.no = record { number = 4; values = [] }
answer_numbers games.too_many = record { number = 5; values = [] }

-- one more than a cell; 0 for none
abbrev pub next_of : Option ℕ → ℕ
next_of None = 0
next_of (Some cell) = cell + 1

-- an answer whose cells of a way are bytes, two a cell
abbrev pub InBytes : Type 0
InBytes = Answer (Bor (List ℕ))

-- bytes that can be a way's cells: two a cell, and no more cells than two bytes can count
pub record Row (bs : List ℕ) : Type 0 where
  pub even : length bs % 2 ≡ 0
  pub few : length bs < 2 ^ 17

-- an answer that has bytes: if it is a way, its bytes are a row of cells, and one more than the
-- cell of a yes is a number of two bytes
abbrev pub Sound : InBytes → Type 0
Sound (Refused why) = Unit {0}
Sound (Number n) = Unit {0}
Sound (Way side cells) = Row cells.now
Sound (Yes cell) = next_of cell < 2 ^ 16
Sound No = Unit {0}
Sound TooMany = Unit {0}
