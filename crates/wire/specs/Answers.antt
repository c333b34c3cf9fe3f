-- Answers as lines of text. Definitions only.
use Rattle.std.specs.Prelude.{ℕ, zero, suc, List, ◌++◌, codes, decimal}
use Rattle.std.specs.List.{flat_map}
use Rattle.hexboard.specs.Games as games

-- a cell, with a space before it
abbrev pub spaced : ℕ → List ℕ
spaced cell = codes " " ++ decimal cell

-- the line of a refusal, by the number of its reason and its place
abbrev pub refused_line : ℕ → ℕ → List ℕ
refused_line reason place = codes "refused " ++ (decimal reason ++ (codes " at " ++ decimal place))

-- what is said of a number and a place that no refusal has
abbrev pub unknown_line : ℕ → ℕ → List ℕ
unknown_line number place = codes "no refusal has number "
    ++ (decimal number ++ (codes " and place " ++ decimal place))

-- the line of an answer, without its end: `way 2: 0 1 2`, `yes 1`, `yes` where the side to move has
-- connected, `refused 4 at 0`
abbrev pub line_of : games.Answer → List ℕ
line_of (games.refused reason place) = refused_line reason place
line_of (games.number n) = decimal n
line_of (games.way side cells) = codes "way "
    ++ (decimal side ++ (codes ":" ++ flat_map spaced cells))
line_of (games.yes zero) = codes "yes"
line_of (games.yes (suc cell)) = codes "yes " ++ decimal cell
line_of games.no = codes "no"
line_of games.too_many = codes "too many"
