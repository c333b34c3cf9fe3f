-- What a breadth-first search from the last border knows: which places it has reached, from which,
-- in what order and how deep.
use Rattle.std.specs.Prelude.{◌≡◌, ℕ, ◌+◌, ◌-◌, ◌*◌, ◌<◌, ◌≤◌, true, ◌⊎◌, List, length, count_by}
use Rattle.std.specs.Prelude.{◌≢◌, nat_eq, slice_index, Option, MatchOption}
use Rattle.paths.specs.Ways.{Ground, crosses}

-- The lent memory of a search on a board n wide: a byte for each cell of the board, and two in the
-- queue and in `from`.
pub record Lent (n : ℕ) (cells queue from : List ℕ) : Type 0 where
  pub board : length cells ≡ n * n
  pub queued : length queue ≡ 2 * (n * n)
  pub marked : length from ≡ 2 * (n * n)

-- For each place `from` has one more than the place from which it was reached, and 0 if it was not.
-- The search starts at the last border, and lists a place that it starts from as reached from
-- itself.
abbrev pub Reached : List ℕ → ℕ → Type 0
Reached from x = 0 < slice_index from x

abbrev pub parent : List ℕ → ℕ → ℕ
parent from x = slice_index from x - 1

-- place x was reached from a place near it, one step less deep
pub record Child (g : Ground) (from : List ℕ) (depth : ℕ → ℕ) (x : ℕ) : Type 0 where
  pub reached : Reached from (parent from x)
  pub near : g.near (parent from x) x ≡ true
  pub deeper : depth x ≡ depth (parent from x) + 1

-- The first t places of the queue are those that are reached, each once, in the order in which they
-- were: no place is less deep than one before it. Each is one's own, and at the last border or
-- reached from another, less deep. The queue has room for all of one's own.
pub record Tree (g : Ground) (queue from : List ℕ) (t : ℕ) (depth : ℕ → ℕ) : Type 0 where
  pub whole : length queue ≡ length from
  pub inside : (x : ℕ) → g.own x ≡ true → x < length from
  pub count : t + count_by (nat_eq 0) from ≡ length from
  pub listed : (p : ℕ) → p < t → Reached from (slice_index queue p)
  pub placed : (x : ℕ) → Reached from x → (p : ℕ) × (p < t) × (slice_index queue p ≡ x)
  pub own : (x : ℕ) → Reached from x → g.own x ≡ true
  pub hangs : (x : ℕ) → Reached from x → (g.last x ≡ true) ⊎ Child g from depth x
  pub shallow : (p : ℕ) → p < t → depth (slice_index queue p) ≤ p
  pub sorted : (p q : ℕ) → p ≤ q → q < t → depth (slice_index queue p) ≤ depth (slice_index queue q)

-- none of the reached places is at the first border
abbrev pub Unmet : Ground → List ℕ → Type 0
Unmet g from = (x : ℕ) → Reached from x → g.first x ≢ true

-- each of one's own places near place y is reached, at most one step deeper than y
abbrev pub Spread : Ground → List ℕ → (ℕ → ℕ) → ℕ → Type 0
Spread g from depth y = (x : ℕ) → g.near y x ≡ true → g.own x ≡ true → Reached from x
    × (depth x ≤ depth y + 1)

-- The search has come to place h of the queue: it has looked round every place before it, and every
-- place at the last border was listed at first. No place is more than one step deeper than the one
-- at h.
pub record Front (g : Ground) (queue from : List ℕ) (h t : ℕ) (depth : ℕ → ℕ) : Type 0 where
  pub tree : Tree g queue from t depth
  pub unmet : Unmet g from
  pub sources : (x : ℕ) → g.own x ≡ true → g.last x ≡ true → Reached from x × (depth x ≡ 0)
  pub level : h < t → (p : ℕ) → p < t →
      depth (slice_index queue p) ≤ depth (slice_index queue h) + 1
  pub done : (p : ℕ) → p < h → Spread g from depth (slice_index queue p)

abbrev pub Ahead : Ground → List ℕ → List ℕ → ℕ → ℕ → Type 0
Ahead g queue from h t = (depth : ℕ → ℕ) × Front g queue from h t depth

-- The search has met the first border at place x, and no way is shorter than that to x along the
-- places reached.
pub record Met (g : Ground) (queue from : List ℕ) (x : ℕ) : Type 0 where
  pub t : ℕ
  pub depth : ℕ → ℕ
  pub tree : Tree g queue from t depth
  pub reached : Reached from x
  pub first : g.first x ≡ true
  pub least : (w : List ℕ) → crosses g w ≡ true → depth x < length w

-- What the start of the search has come to: a stone at both borders, or the stones at the last
-- border listed, t of them, with the search about to look round the first.
abbrev pub Sowing : Ground → List ℕ → List ℕ → ℕ → Option ℕ → Type 0
Sowing g queue from t reached = MatchOption reached (Ahead g queue from 0 t) (Met g queue from)
