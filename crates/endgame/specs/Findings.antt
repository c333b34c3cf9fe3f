-- What the search finds: its parts. Definitions only.
use Rattle.std.specs.Prelude.{◌≡◌, ◌≢◌, ℕ, ⊤, None, Option, IfSome, IsSome, MatchOption}
use Rattle.ranking.specs.Sets.{bit}
use Rattle.endgame.specs.declared.search.Found.{Found}
use Rattle.endgame.specs.declared.search.Found.TheVariants.{Won, Lost}
use Rattle.endgame.specs.declared.winner.Winner.{Winner}
use Rattle.endgame.specs.declared.winner.Winner.TheVariants.{Mover, Other}
use Rattle.endgame.specs.Winners.{entry_of}

-- the cells that what is found rests on
abbrev pub carrier_of : Found → ℕ
carrier_of (Won carrier step) = carrier
carrier_of (Lost carrier) = carrier

-- the step, if there is one, is a cell of this set
abbrev pub StepsInto : Found → ℕ → Type 0
StepsInto (Won carrier step) cells = IfSome step (λ k. bit k cells ≡ 1)
StepsInto (Lost carrier) cells = ⊤

-- if the side to move wins, a step is named
abbrev pub NamesStep : Found → Type 0
NamesStep (Won carrier step) = IsSome step
NamesStep (Lost carrier) = ⊤

-- what is found where the winner is known: it rests on all the free cells, and no step is known
abbrev pub found_of : Winner → ℕ → Found
found_of Mover free = Won free None
found_of Other free = Lost free

-- what is found from an entry, with these cells free, or none where the entry stands for no winner
abbrev pub TellsKnown : ℕ → ℕ → Option Found → Type 0
TellsKnown entry free r =
    MatchOption r ((entry ≢ 1) × (entry ≢ 2))
    (λ found. (winner : Winner) × (entry ≡ entry_of winner) × (found ≡ found_of winner free))
