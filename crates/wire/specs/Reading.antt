-- What a row of bytes is: a call, or where it ceases to be one; an answer, or none.
use Rattle.std.specs.Prelude.{◌≡◌, ℕ, ◌+◌, ◌*◌, ◌<◌, ◌≤◌, if◌then◌else◌, List, [], ◌∷◌, ◌++◌}
use Rattle.std.specs.Prelude.{length, take}
use Rattle.std.specs.Prelude.{Some, None, Ok, Err, Option, Result, ◌==◌, ◌≢◌}
use Rattle.wire.specs.declared.call.Call.{Call}
use Rattle.wire.specs.declared.call.Call.TheVariants.{Move, Back, Who, CanForce}
use Rattle.wire.specs.declared.refusal.Refusal.{Refusal}
use Rattle.wire.specs.declared.refusal.Refusal.TheVariants.{Unreadable}
use Rattle.wire.specs.Numbers.{InBytes, Sound}
use Rattle.wire.specs.Bytes.{call_bytes, answer_bytes}

-- after the number of a move: its cell, and nothing more
abbrev pub read_cell : List ℕ → Result Call Refusal
read_cell [] = Err (Unreadable 1)
read_cell (low ∷ []) = Err (Unreadable 2)
read_cell (low ∷ (high ∷ [])) = Ok (Move (low + high * 256))
read_cell (low ∷ (high ∷ (b ∷ bs))) = Err (Unreadable 3)

-- after the number of another call: nothing more
abbrev pub read_at_end : Call → List ℕ → Result Call Refusal
read_at_end c [] = Ok c
read_at_end c (b ∷ bs) = Err (Unreadable 1)

-- the call that a row of bytes is, or the first byte that does not fit
abbrev pub read : List ℕ → Result Call Refusal
read [] = Err (Unreadable 0)
read (n ∷ bs) =
    if n == 0 then read_cell bs else if n == 1 then read_at_end Back bs
    else if n == 2 then read_at_end Who bs else if n == 3 then read_at_end CanForce bs
    else Err (Unreadable 0)

-- these bytes are the beginning of some call's bytes
abbrev pub Begins : List ℕ → Type 0
Begins bs = (c : Call) × (more : List ℕ) × (call_bytes c ≡ bs ++ more)

-- The bytes bs are no call, and cease to be one at place p: its longest beginning that is the
-- beginning of some call is p long.
pub record Ceases (bs : List ℕ) (p : ℕ) : Type 0 where
  pub none : (c : Call) → call_bytes c ≢ bs
  pub within : p ≤ length bs
  pub fits : Begins (take p bs)
  pub longest : (q : ℕ) → p < q → q ≤ length bs → Begins (take q bs) → ⊥

-- what read says, in the words of calls alone
abbrev pub Reads : List ℕ → Result Call Refusal → Type 0
Reads bs (Ok c) = call_bytes c ≡ bs
Reads bs (Err why) = (p : ℕ) × (why ≡ Unreadable p) × Ceases bs p

-- an answer is read exactly if the bytes are those of one
abbrev pub Understood : List ℕ → Option InBytes → Type 0
Understood bs (Some a) = Sound a × (answer_bytes a ≡ bs)
Understood bs None = (a : InBytes) → answer_bytes a ≢ bs
