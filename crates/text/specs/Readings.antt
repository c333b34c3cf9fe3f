-- What reading answers, and the laws of reading and writing lines. Definitions only.
use Rattle.std.specs.Prelude.{◌≡◌, ℕ, List, Ok, Result, MatchResult}
use Rattle.text.specs.declared.reading.Line.{Line}
use Rattle.text.specs.Lines.{Asks, Readable, asked_by, Small}
use Rattle.text.specs.Places.{Stops}

-- the answer to a line: what it asks for, or the place of its first byte that does not fit
abbrev pub Reads : List ℕ → Result Line ℕ → Type 0
Reads bytes r = MatchResult r (Asks bytes) (Stops Readable bytes)

-- a line asks for one thing only
abbrev pub OneThing : Type 0
OneThing = (bytes : List ℕ) (l k : Line) → Asks bytes l → Asks bytes k → l ≡ k

-- a line has one answer only
abbrev pub OneAnswer : Type 0
OneAnswer = (bytes : List ℕ) (r s : Result Line ℕ) → Reads bytes r → Reads bytes s → r ≡ s

-- what is written is read again: every answer to the line that is written for l is l
abbrev pub ReadBack : Type 0
ReadBack = (l : Line) → Small l → Asks (asked_by l) l
    × ((r : Result Line ℕ) → Reads (asked_by l) r → r ≡ Ok l)
