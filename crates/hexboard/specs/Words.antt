-- Numbers of two bytes each, low byte first. Definitions only.
use Rattle.std.specs.Prelude.{ℕ, ◌+◌, ◌*◌, List, [], ◌∷◌, length, Some, None, Option, nat_lt}
use Rattle.std.specs.Prelude.{slice_index, if◌then◌else◌}

-- the numbers that bytes give, two by two; a byte that is left over gives none
abbrev pub words : List ℕ → List ℕ
words [] = []
words (low ∷ []) = []
words (low ∷ (high ∷ bytes)) = (low + high * 256) ∷ words bytes

-- the number at a place, where there is one
abbrev pub word_of : List ℕ → ℕ → Option ℕ
word_of bytes i = if nat_lt i (length (words bytes)) then Some (slice_index (words bytes) i)
    else None

-- whether there is a number at a place to write
abbrev pub room_at : List ℕ → ℕ → Option (Unit {0})
room_at bytes i = if nat_lt i (length (words bytes)) then Some tt else None
