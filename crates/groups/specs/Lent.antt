-- The groups in lent memory, as they are passed and as they are left.
use Rattle.std.specs.Prelude.{◌≡◌, ℕ, ◌*◌, ◌/◌, List, length, drop}
use Rattle.std.specs.Borrow.{MutBor}
use Rattle.groups.specs.Forest.{Forest, held}
use Rattle.groups.specs.declared.Groups.{Groups}

-- the forest that stands in the memory when it is passed,
abbrev pub before : Groups → Forest
before groups = held groups.parents.now groups.borders.now

-- and the one that stands there when the call is over
abbrev pub after : MutBor (List ℕ) × (MutBor (List ℕ) × Unit {0}) → Forest
after (parents, (borders, rest)) = held parents.now borders.now

-- what stands behind the last of the parents: one byte if the bytes are odd in number, else none
abbrev pub rest : List ℕ → List ℕ
rest bytes = drop (2 * (length bytes / 2)) bytes

-- A call leaves that as it was.
abbrev pub RestKept : Groups → MutBor (List ℕ) × (MutBor (List ℕ) × Unit {0}) → Type 0
RestKept groups (parents, (borders, end)) = rest parents.now ≡ rest groups.parents.now
