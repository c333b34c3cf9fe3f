-- What --help tells of a program. Definitions only.
use Rattle.std.specs.Prelude.{ℕ, List, ◌++◌, codes, decimal}
use Rattle.arguments.specs.declared.help.Help.{Help}
use Rattle.arguments.specs.declared.help.TheConstants.{LINES}

-- how large its boards are, and how long an end it looks through:
-- `Limits: boards from 1 by 1 to 7 by 7; can force with at most 10 empty cells.`
abbrev pub limits_line : ℕ → ℕ → List ℕ
limits_line largest ends =
    codes "Limits: boards from 1 by 1 to "
    ++ (decimal largest ++ (codes " by " ++ (decimal largest ++
    (codes "; can force with at most " ++ (decimal ends ++ codes " empty cells.\n")))))

-- what it tells of itself, the lines that every program reads, and how far it goes
abbrev pub help_lines : Help → List ℕ
help_lines help = help.about.now ++ (LINES.now ++ limits_line help.largest help.ends)
