-- The calls and answers of the code as those that the promises of the game speak of.
use Rattle.std.specs.Prelude.{ℕ, List, []}
use Rattle.hexboard.specs.Games as games
use Rattle.hexboard.specs.Sides as sides
use Rattle.hexboard.specs.Words.{words}
use Rattle.wire.specs.declared.answer.Answer.TheVariants.{Refused, Number, Way, Yes, No, TooMany}
use Rattle.wire.specs.declared.call.Call.{Call}
use Rattle.wire.specs.declared.call.Call.TheVariants.{Move, Back, Who, CanForce}
use Rattle.wire.specs.Numbers.{reason, next_of, InBytes}

-- the call of the game that a call is
abbrev pub asked : Call → games.Call
asked (Move cell) = games.moves cell
asked Back = games.back
asked Who = games.who
asked CanForce = games.can_force

-- the answer of the game that an answer is; the cells of a way are those that its bytes give
abbrev pub told : InBytes → games.Answer
told (Refused why) = games.refused (reason why).number (reason why).place
told (Number n) = games.number n
told (Way side cells) = games.way (sides.number side) (words cells.now)
told (Yes cell) = games.yes (next_of cell)
told No = games.no
told TooMany = games.too_many

-- the cells that an answer shows: those of its way, if it has one
abbrev pub shown_by : games.Answer → List ℕ
shown_by (games.refused r p) = []
shown_by (games.number n) = []
shown_by (games.way s w) = w
shown_by (games.yes next) = []
shown_by games.no = []
shown_by games.too_many = []
