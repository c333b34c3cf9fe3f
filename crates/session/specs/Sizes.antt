-- How much memory a game asks for.
use Rattle.std.specs.Prelude.{ℕ, ◌+◌, ◌*◌, nat_le, if◌then◌else◌}
use Rattle.endgame.specs.Verdicts.{bytes_of_table}

-- The memory that a game on a board n wide asks for: six bytes for each cell, and the table of an
-- end, which serves the search for a way as scratch, too.
abbrev pub asked : ℕ → ℕ
asked n = 6 * (n * n) + bytes_of_table n

-- at most 24 bytes for each cell, and 4,194,304 more for boards of more than 9 cells, 16,384 more
-- for smaller ones
abbrev pub within : ℕ → ℕ
within n = 24 * (n * n) + (if nat_le (n * n) 9 then 16384 else 4194304)
