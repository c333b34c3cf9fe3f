-- What a move, a take-back and who has connected are answered by, as answers of the rules.
use Rattle.std.specs.Prelude.{ℕ, ◌*◌, List, take, Some, None, Ok, Err, Option, Result}
use Rattle.hexboard.specs.Games as games
use Rattle.hexboard.specs.Sides.{number}
use Rattle.hexboard.specs.declared.side.Side.{Side}
use Rattle.hexboard.specs.Words.{words}
use Rattle.wire.specs.Numbers.{reason}
use Rattle.wire.specs.declared.refusal.Refusal.{Refusal}

-- the answer of the rules: a number, or a refusal with its number and place
abbrev pub told : Result ℕ Refusal → games.Answer
told (Ok n) = games.number n
told (Err why) = games.refused (reason why).number (reason why).place

-- the answer of the rules to who has connected: nobody, or a side and its way, whose cells stand at
-- the front of the bytes
abbrev pub told_who : Option (Side × ℕ) → List ℕ → games.Answer
told_who None bytes = games.number 0
told_who (Some found) bytes = games.way (number found.0) (words (take (2 * found.1) bytes))

-- how many cells its way has
abbrev pub found_cells : Option (Side × ℕ) → ℕ
found_cells None = 0
found_cells (Some found) = found.1
