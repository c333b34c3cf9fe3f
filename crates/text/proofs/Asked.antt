-- The forms of the lines that can be read, put together from words and numbers.
use Rattle.std.proofs.Common.{◌≡◌, ℕ, ◌+◌, ◌-◌, ◌<◌, max, ◌⊎◌, List, length, take, drop, codes, Ok, Err, Result, MatchResult, refl, subst, inl, inr}
use Rattle.std.specs.Result.{IsErrAnd}
use Rattle.std.specs.Str.Parse.{IsNumeral}
use Rattle.std.proofs.lemmas.List.{take_rest}
use Rattle.wire.specs.declared.call.Call.TheVariants.{Move, Back, Who, CanForce}
use Rattle.text.specs.declared.reading.Line.TheVariants as line
use Rattle.text.specs.Lines.{ReadsAs, Numbered, SomeNumbered, SomeWord, Asks, Readable}
use Rattle.text.specs.Places.{Agree, Stops}
use Rattle.text.proofs.Numbers.{zero_numeral}
use Rattle.text.proofs.Words.{early_stops, late_stops, found_behind, either_stops, stops_as}

module _ (word bytes : List ℕ) (p : ℕ) (a : Agree word bytes p) where
  -- the line leaves the word before its end
  pub short_word : p < length word → Stops (SomeNumbered word) bytes p
  short_word = early_stops word bytes p a (IsNumeral 10) (codes "0") zero_numeral

  -- where the whole word is there, what is read behind it tells what is read of the line
  pub behind : p ≡ length word → (Q : ℕ → ℕ → Type 0) → ((q place : ℕ) → Q q place → place ≡ p + q) → (number read : Result ℕ ℕ) →
      MatchResult number (ReadsAs (take (length bytes - p) (drop p bytes))) (Stops (IsNumeral 10) (take (length bytes - p) (drop p bytes))) →
      MatchResult number (λ n. read ≡ Ok n) (λ q. IsErrAnd read (Q q)) → MatchResult read (λ n. Numbered word n bytes) (Stops (SomeNumbered word) bytes)
  behind whole Q on (Ok n) read is told =
      rw told (found_behind word bytes p a whole (λ cs. ReadsAs cs n) (subst (λ cs. ReadsAs cs n) (take_rest bytes p) is))
  behind whole Q on (Err q) (Ok n) is told = absurd told
  behind whole Q on (Err q) (Err place) is told =
      rw (on q place told) (late_stops word bytes p a whole (IsNumeral 10) q (subst (λ cs. Stops (IsNumeral 10) cs q) (take_rest bytes p) is))

-- the lines that can be read, one form after the other
abbrev Forms : List ℕ → Type 0
Forms cs = (SomeWord cs ⊎ SomeNumbered (codes "board ") cs) ⊎ SomeNumbered (codes "move ") cs

readable : (cs : List ℕ) → Forms cs → Readable cs
readable cs (inl (inl (inl (inl e)))) = (line.Call CanForce, e)
readable cs (inl (inl (inl (inr e)))) = (line.Call Back, e)
readable cs (inl (inl (inr e))) = (line.Call Who, e)
readable cs (inl (inr f)) = (line.Board _, (f.0, f.1, record { numeral = f.2; number = refl }))
readable cs (inr f) = (line.Call (Move _), (f.0, f.1, record { numeral = f.2; number = refl }))

of_a_form : (cs : List ℕ) → Readable cs → Forms cs
of_a_form cs r = by_line r.0 r.1
  where
    by_line : (l : _) → Asks cs l → Forms cs
    by_line (line.Board n) f = inl (inr (f.0, f.1, f.2.numeral))
    by_line (line.Call (Move c)) f = inr (f.0, f.1, f.2.numeral)
    by_line (line.Call Back) e = inl (inl (inl (inr e)))
    by_line (line.Call Who) e = inl (inl (inr e))
    by_line (line.Call CanForce) e = inl (inl (inl (inl e)))

-- a line stops where each form has stopped
pub line_stops : (bytes : List ℕ) (word board cell : ℕ) → Stops SomeWord bytes word → Stops (SomeNumbered (codes "board ")) bytes board →
    Stops (SomeNumbered (codes "move ")) bytes cell → Stops Readable bytes (max (max word board) cell)
line_stops bytes word board cell w b c =
    stops_as Forms Readable readable of_a_form bytes _
    (either_stops _ _ bytes (max word board) cell (either_stops SomeWord (SomeNumbered (codes "board ")) bytes word board w b) c)
