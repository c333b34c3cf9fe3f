-- The sides of the code, by the numbers that a board's cells hold.
use Rattle.std.specs.Prelude.{ℕ, Some, None, Option, Ok, Err, Result, ◌==◌, if◌then◌else◌}
use Rattle.hexboard.specs.declared.side.Side.{Side}
use Rattle.hexboard.specs.declared.side.Side.TheVariants.{One, Two}
use Rattle.hexboard.specs.declared.side.NoSide.{NoSide}

-- the number of a side
abbrev pub number : Side → ℕ
number One = 1
number Two = 2

-- the side of a number, where there is one
abbrev pub by_number : ℕ → Option Side
by_number s = if s == 1 then Some One else if s == 2 then Some Two else None

-- the same with an error that carries the number
abbrev pub side_numbered : ℕ → Result Side NoSide
side_numbered s = if s == 1 then Ok One else if s == 2 then Ok Two else Err (record { 0 = s })
