-- Kinds of lines, how often each came, and how long serving it took. Definitions only.
use Rattle.std.specs.Prelude.{ℕ, ◌+◌, ◌-◌, ◌^◌, min, max, List, [], ◌++◌, codes, decimal, ◌==◌}
use Rattle.std.specs.Prelude.{slice_index_or, slice_set, ◌∷◌, if◌then◌else◌}
use Rattle.std.specs.List.{flat_map}
use Rattle.wire.specs.declared.call.Call.TheVariants as call
use Rattle.text.specs.declared.reading.Line.{Line}
use Rattle.text.specs.declared.reading.Line.TheVariants as line
use Rattle.driver.specs.declared.times.Kind.{Kind}
use Rattle.driver.specs.declared.times.Kind.TheVariants.{Board, Move, Back, Who, CanForce}
use Rattle.driver.specs.declared.times.Tally.{Tally}
use Rattle.driver.specs.declared.times.Times.{Times}

-- the kind of what a line asks for
abbrev pub kind_of_line : Line → Kind
kind_of_line (line.Board n) = Board
kind_of_line (line.Call (call.Move c)) = Move
kind_of_line (line.Call call.Back) = Back
kind_of_line (line.Call call.Who) = Who
kind_of_line (line.Call call.CanForce) = CanForce

-- each kind, in the order of the tallies
abbrev pub all_kinds : List Kind
all_kinds = Board ∷ (Move ∷ (Back ∷ (Who ∷ (CanForce ∷ []))))

-- where the tally of a kind stands
abbrev pub place_of : Kind → ℕ
place_of Board = 0
place_of Move = 1
place_of Back = 2
place_of Who = 3
place_of CanForce = 4

-- what a kind is called
abbrev pub name_of : Kind → List ℕ
name_of Board = codes "board"
name_of Move = codes "move"
name_of Back = codes "back"
name_of Who = codes "who"
name_of CanForce = codes "can force"

-- a sum that stops at what 64 bits hold
abbrev pub capped : ℕ → ℕ
capped n = min n (2 ^ 64 - 1)

-- one line more, which took so many nanoseconds
abbrev pub one_more : Tally → ℕ → Tally
one_more t nanos = record {
  count = capped (t.count + 1);
  total = capped (t.total + nanos);
  longest = max t.longest nanos;
}

-- the tally of a kind of which no line came
abbrev pub no_lines : Tally
no_lines = record { count = 0; total = 0; longest = 0 }

-- the tally of a kind
abbrev pub tally_of : Times → Kind → Tally
tally_of t k = slice_index_or t.tallies (place_of k) no_lines

-- one line more of a kind
abbrev pub noted : Times → Kind → ℕ → Times
noted t k nanos = record {
  tallies =
      slice_set t.tallies (place_of k) (one_more (tally_of t k) nanos);
}

-- the line of a kind, with its end: `can force: 50 calls, 1234567 ns in all, longest 99999 ns`;
-- nothing if no such line came
abbrev pub tally_line : List ℕ → Tally → List ℕ
tally_line name t =
    if t.count == 0 then [] else name ++ (codes ": "
    ++ (decimal t.count ++ (codes " calls, "
    ++ (decimal t.total ++ (codes " ns in all, longest "
    ++ (decimal t.longest ++ codes " ns\n"))))))

-- the lines of all kinds
abbrev pub times_lines : Times → List ℕ
times_lines t = flat_map (λ k. tally_line (name_of k) (tally_of t k)) all_kinds
