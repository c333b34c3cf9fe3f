-- A line asks for one thing only and stops at one place only, and what is written is read again.
use Rattle.std.proofs.Common.{◌≡◌, ℕ, ◌<◌, ◌≤◌, min, eqb, List, ◌++◌, get_or, drop, Ok, Err, codes, decimal, sym, refl, ap, ◌∙◌, arith, if◌then◌else◌}
use Rattle.std.specs.Str.Parse.{digits_value}
use Rattle.std.proofs.lemmas.Fmt.{decimal_is_IsNumeral}
use Rattle.wire.specs.declared.call.Call.TheVariants.{Move, Back, Who, CanForce}
use Rattle.text.specs.declared.reading.Line.{Line}
use Rattle.text.specs.declared.reading.Line.TheVariants as line
use Rattle.text.specs.Lines.{ReadsAs, Numbered, Asks, Readable, asked_by, Small}
use Rattle.text.specs.Places.{Stops}
use Rattle.text.specs.Readings.{OneThing, OneAnswer, ReadBack}

-- what a line that can be read asks for, worked out from its bytes: the third one tells the words apart
abbrev meant : List ℕ → Line
meant bytes =
    if eqb (get_or bytes 2 0) 97 then line.Board (min (digits_value 10 (drop 6 bytes)) 65535) else if eqb (get_or bytes 2 0) 118 then line.Call (Move (min (digits_value 10 (drop 5 bytes)) 65535)) else if eqb (get_or bytes 2 0) 99 then line.Call Back else if eqb (get_or bytes 2 0) 111 then line.Call Who else line.Call CanForce

is_meant : (bytes : List ℕ) (l : Line) → Asks bytes l → meant bytes ≡ l
is_meant bytes (line.Board n) f = ap meant f.1 ∙ ap line.Board (sym f.2.number)
is_meant bytes (line.Call (Move c)) f = ap meant f.1 ∙ ap (λ k. line.Call (Move k)) (sym f.2.number)
is_meant bytes (line.Call Back) e = ap meant e
is_meant bytes (line.Call Who) e = ap meant e
is_meant bytes (line.Call CanForce) e = ap meant e

pub one_thing : OneThing
one_thing bytes l k f g = sym (is_meant bytes l f) ∙ is_meant bytes k g

-- bytes stop at one place only, of any form
stops_once : (F : List ℕ → Type 0) (bytes : List ℕ) (p q : ℕ) → Stops F bytes p → Stops F bytes q → p ≡ q
stops_once F bytes p q f g =
    let not-less : (m n : ℕ) → Stops F bytes m → Stops F bytes n → m < n → ⊥ =
    λ m n a b less. a.longest n less b.within b.begins in
    omega (arith, not-less p q f g, not-less q p g f)

pub one_answer : OneAnswer
one_answer bytes (Ok l) (Ok k) f g = ap Ok (one_thing bytes l k f g)
one_answer bytes (Ok l) (Err q) f g = absurd (g.none (l, f))
one_answer bytes (Err p) (Ok k) f g = absurd (f.none (k, g))
one_answer bytes (Err p) (Err q) f g = ap Err (stops_once Readable bytes p q f g)

-- the digits that are written of a number are read as that number
digits_of : (n : ℕ) → n ≤ 65535 → ReadsAs (decimal n) n
digits_of n h =
    let written = decimal_is_IsNumeral n (omega arith) in
    record { numeral = written.0; number = omega (arith, written.1) }

pub numbered : (word : List ℕ) (n : ℕ) → n ≤ 65535 → Numbered word n (word ++ decimal n)
numbered word n h = (decimal n, refl, digits_of n h)

asks : (l : Line) → Small l → Asks (asked_by l) l
asks (line.Board n) h = numbered (codes "board ") n h
asks (line.Call (Move c)) h = numbered (codes "move ") c h
asks (line.Call Back) h = refl
asks (line.Call Who) h = refl
asks (line.Call CanForce) h = refl

pub read_back : ReadBack
read_back l h = (asks l h, λ r f. one_answer (asked_by l) r (Ok l) f (asks l h))
