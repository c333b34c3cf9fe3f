-- The lines of text that can be read, what each asks for, and the one that is written for it.
-- Definitions only.
use Rattle.std.specs.Prelude.{◌≡◌, ℕ, ◌≤◌, min, ◌⊎◌, List, ◌++◌, codes, decimal}
use Rattle.std.specs.Str.Parse.{IsNumeral, digits_value}
use Rattle.wire.specs.declared.call.Call.{Call}
use Rattle.wire.specs.declared.call.Call.TheVariants.{Move, Back, Who, CanForce}
use Rattle.text.specs.declared.reading.Line.{Line}
use Rattle.text.specs.declared.reading.Line.TheVariants as line

-- The digits are one or more, from 0 to 9, zeros in front allowed, and are read as the number n:
-- the one that they write, or 65535 where that is larger. No board has so many cells, or so long a
-- side.
pub record ReadsAs (digits : List ℕ) (n : ℕ) : Type 0 where
  pub numeral : IsNumeral 10 digits
  pub number : n ≡ min (digits_value 10 digits) 65535

-- these bytes and no others
abbrev pub Word : List ℕ → List ℕ → Type 0
Word word bytes = bytes ≡ word

-- one of the calls that are a word alone
abbrev pub SomeWord : List ℕ → Type 0
SomeWord bytes = (Word (codes "can force") bytes ⊎ Word (codes "back") bytes)
    ⊎ Word (codes "who") bytes

-- a word, and behind it digits that are read as n
abbrev pub Numbered : List ℕ → ℕ → List ℕ → Type 0
Numbered word n bytes = (digits : List ℕ) × (bytes ≡ word ++ digits) × ReadsAs digits n

-- a word, and behind it the digits of any number
abbrev pub SomeNumbered : List ℕ → List ℕ → Type 0
SomeNumbered word bytes = (digits : List ℕ) × (bytes ≡ word ++ digits) × IsNumeral 10 digits

-- what the bytes of a call ask for
abbrev pub Says : List ℕ → Call → Type 0
Says bytes (Move c) = Numbered (codes "move ") c bytes
Says bytes Back = Word (codes "back") bytes
Says bytes Who = Word (codes "who") bytes
Says bytes CanForce = Word (codes "can force") bytes

-- what the bytes of a line ask for
abbrev pub Asks : List ℕ → Line → Type 0
Asks bytes (line.Board n) = Numbered (codes "board ") n bytes
Asks bytes (line.Call c) = Says bytes c

-- a line that can be read
abbrev pub Readable : List ℕ → Type 0
Readable bytes = (l : Line) × Asks bytes l

-- the line that is written for a call, without its end: `move 5`
abbrev pub said_by : Call → List ℕ
said_by (Move c) = codes "move " ++ decimal c
said_by Back = codes "back"
said_by Who = codes "who"
said_by CanForce = codes "can force"

-- the line that is written, without its end: `board 3`, or that of a call
abbrev pub asked_by : Line → List ℕ
asked_by (line.Board n) = codes "board " ++ decimal n
asked_by (line.Call c) = said_by c

-- a call whose number has two bytes
abbrev pub SmallCall : Call → Type 0
SmallCall (Move c) = c ≤ 65535
SmallCall Back = Unit {0}
SmallCall Who = Unit {0}
SmallCall CanForce = Unit {0}

-- a line whose number has two bytes, as every line of the code
abbrev pub Small : Line → Type 0
Small (line.Board n) = n ≤ 65535
Small (line.Call c) = SmallCall c
