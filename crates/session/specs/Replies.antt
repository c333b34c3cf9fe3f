-- Replies as answers of the rules.
use Rattle.std.specs.Prelude.{ℕ, ◌*◌, ◌^◌, ◌<◌, List, [], take}
use Rattle.hexboard.specs.Games as games
use Rattle.hexboard.specs.Sides.{number}
use Rattle.hexboard.specs.Words.{words}
use Rattle.wire.specs.Numbers.{InBytes, reason, next_of}
use Rattle.wire.specs.declared.answer.Answer.{Answer}
use Rattle.wire.specs.declared.answer.Answer.TheVariants.{Refused, Number, Way, Yes, No, TooMany}

-- an answer that tells how many cells its way has
abbrev pub Reply : Type 0
Reply = Answer ℕ

-- the answer of the rules that a reply is, with the way, if it has one, at the front of these bytes
abbrev pub replied : Reply → List ℕ → games.Answer
replied (Refused why) way = games.refused (reason why).number (reason why).place
replied (Number n) way = games.number n
replied (Way side count) way = games.way (number side) (words (take (2 * count) way))
replied (Yes cell) way = games.yes (next_of cell)
replied No way = games.no
replied TooMany way = games.too_many

-- how many cells of a way it has
abbrev pub way_cells : Reply → ℕ
way_cells (Refused why) = 0
way_cells (Number n) = 0
way_cells (Way side count) = count
way_cells (Yes cell) = 0
way_cells No = 0
way_cells TooMany = 0

-- the bytes of the cells that an answer shows as a way
abbrev pub way_bytes : InBytes → List ℕ
way_bytes (Refused why) = []
way_bytes (Number n) = []
way_bytes (Way side cells) = cells.now
way_bytes (Yes cell) = []
way_bytes No = []
way_bytes TooMany = []

-- a reply that has bytes: one more than the cell of a yes is a number of two bytes
abbrev pub HasBytes : Reply → Type 0
HasBytes (Refused why) = Unit {0}
HasBytes (Number n) = Unit {0}
HasBytes (Way side count) = Unit {0}
HasBytes (Yes cell) = next_of cell < 2 ^ 16
HasBytes No = Unit {0}
HasBytes TooMany = Unit {0}
