-- How much was done. Definitions only.
use Rattle.std.specs.Prelude.{◌+◌}
use Rattle.endgame.specs.declared.search.Effort.{Effort}

-- nothing was done
abbrev pub nothing_done : Effort
nothing_done = record { searched = 0; looks = 0 }

-- one more position was searched
abbrev pub one_more_searched : Effort → Effort
one_more_searched done = record done { searched = done.searched + 1 }
