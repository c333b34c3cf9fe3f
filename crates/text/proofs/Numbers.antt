-- Decimal numbers, read digit by digit.
use Rattle.std.proofs.Common.{◌≡◌, ℕ, ◌+◌, ◌*◌, ◌<◌, ◌≤◌, codes, min, List, [], ◌++◌, length, get_or, take, sym, ap, ◌∙◌, subst, arith}
use Rattle.std.specs.Char.{digit_value}
use Rattle.std.specs.Str.Parse.{AllDigits, IsNumeral, digits_value}
use Rattle.std.proofs.lemmas.Int.Digits.{digits_push, digits_more, digits_value_more}
use Rattle.std.proofs.lemmas.List.{take_all, length-append, length-take-le, get_or-take, get_or_append_left, append-nil}
use Rattle.std.proofs.lemmas.Str.{digit_value_digit}
use Rattle.std.proofs.lemmas.Str.Parse.{digit_at}
use Rattle.text.specs.Lines.{ReadsAs}
use Rattle.text.specs.Places.{Begins, Stops}

-- the first bytes, as many as at, are digits, and what they are read as is v
pub record Sofar (bytes : List ℕ) (at v : ℕ) : Type 0 where
  pub all : AllDigits 10 (take at bytes)
  pub number : v ≡ min (digits_value 10 (take at bytes)) 65535

-- one more digit
pub sofar_more : (bytes : List ℕ) (at v : ℕ) → at < length bytes → Sofar bytes at v → digit_value (get_or bytes at 0) < 10 →
    Sofar bytes (at + 1) (min (v * 10 + digit_value (get_or bytes at 0)) 65535)
sofar_more bytes at v h sofar digit = record {
  all = digits_more 10 bytes at h sofar.all digit;
  number = omega (arith, digits_value_more 10 bytes at h, sofar.number);
}

-- all of them, if there are any
pub sofar_all : (bytes : List ℕ) (at v : ℕ) → at ≡ length bytes → 0 < length bytes → Sofar bytes at v → ReadsAs bytes v
sofar_all bytes at v e some sofar =
    let whole : take at bytes ≡ bytes = take_all at bytes (omega arith) in
    record {
      numeral = (some, subst (AllDigits 10) whole sofar.all);
      number = sofar.number ∙ ap (λ ds. min (digits_value 10 ds) 65535) whole;
    }

pub zero_numeral : IsNumeral 10 (codes "0")
zero_numeral = (omega arith, (omega arith, tt))

-- digits are the beginning of a number, since one more digit may stand behind them
digits_begin : (ds : List ℕ) → AllDigits 10 ds → Begins (IsNumeral 10) ds
digits_begin ds all = (codes "0", (omega (arith, length-append ds (codes "0")), digits_push 10 ds 48 all (omega arith)))

-- a number has a digit at each place
digit_in_front : (bytes : List ℕ) (at q : ℕ) → at < q → q ≤ length bytes → Begins (IsNumeral 10) (take q bytes) → digit_value (get_or bytes at 0) < 10
digit_in_front bytes at q more l b =
    let long = length-take-le q bytes l in
    let digit = digit_at (take q bytes ++ b.0) at b.1.1 (omega (arith, length-append (take q bytes) b.0)) in
    let same : get_or (take q bytes ++ b.0) at 0 ≡ get_or bytes at 0 =
    get_or_append_left (take q bytes) b.0 0 at (omega arith) ∙ get_or-take q bytes at 0 more in
    omega (arith, digit_value_digit (get_or bytes at 0) (omega arith, omega arith))

-- where a byte is no digit, the number stops
pub sofar_stops : (bytes : List ℕ) (at v : ℕ) → at < length bytes → Sofar bytes at v → (digit_value (get_or bytes at 0) < 10 → ⊥) →
    Stops (IsNumeral 10) bytes at
sofar_stops bytes at v h sofar other =
    let whole = take_all (length bytes) bytes (omega arith) in
    record {
      none = λ d. other (digit_in_front bytes at (length bytes) h (omega arith) ([], subst (IsNumeral 10) (sym (append-nil _ ∙ whole)) d));
      within = omega arith;
      begins = digits_begin (take at bytes) sofar.all;
      longest = λ q more l b. other (digit_in_front bytes at q more l b);
    }

-- no digits are no number yet
pub empty_stops : (bytes : List ℕ) → length bytes ≡ 0 → Stops (IsNumeral 10) bytes 0
empty_stops bytes e = record {
  none = λ d. omega (arith, d.0);
  within = omega arith;
  begins = digits_begin [] tt;
  longest = λ q more l. absurd (omega arith);
}
