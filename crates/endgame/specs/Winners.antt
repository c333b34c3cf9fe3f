-- The entries of the table that say who wins. Definitions only.
use Rattle.std.specs.Prelude.{◌≡◌, ℕ, ◌≢◌, Option, MatchOption}
use Rattle.endgame.specs.declared.winner.Winner.{Winner}
use Rattle.endgame.specs.declared.winner.Winner.TheVariants.{Mover, Other}

-- what the table keeps of a winner; 0 says nothing
abbrev pub entry_of : Winner → ℕ
entry_of Mover = 1
entry_of Other = 2

-- the result is the winner that the entry stands for, or none where it stands for none
abbrev pub Reads : ℕ → Option Winner → Type 0
Reads entry r = MatchOption r ((entry ≢ 1) × (entry ≢ 2)) (λ winner. entry ≡ entry_of winner)
