-- What the links of a side should be on a board: which empty cells its stones tie together, and tie
-- to its borders. Definitions only.
use Rattle.std.specs.Prelude.{◌≡◌, ℕ, ◌<◌, Bool, true, List, length, slice_index}
use Rattle.hexboard.specs.Board.{Board, next_to, begins, ends}
use Rattle.hexboard.specs.Rows.{Row}
use Rattle.ranking.specs.Sets.{bit}
use Rattle.endgame.specs.declared.links.Links.{Links}
use Rattle.endgame.specs.Floods.{Near}

-- cells i and j are next to each other, directly or by a row of stones of side w
pub data Tied (b : Board) (w : ℕ) : ℕ → ℕ → Type 0 where
  direct : {i j : ℕ} → next_to b.wide i j ≡ true → Tied b w i j
  through : {i j p q : ℕ} → next_to b.wide i p ≡ true → Row b w p q → next_to b.wide q j ≡ true →
      Tied b w i j

-- cell i is at a border, or next to a row of stones of side w that leads to one there
pub data Bound (b : Board) (w : ℕ) (border : ℕ → Bool) : ℕ → Type 0 where
  own : {i : ℕ} → border i ≡ true → Bound b w border i
  across : {i p q : ℕ} → next_to b.wide i p ≡ true → Row b w p q → border q ≡ true →
      Bound b w border i

-- r is the set of those of the first e cells of which P holds
pub record Holds (e : ℕ) (r : ℕ) (P : ℕ → Type 0) : Type 0 where
  pub only : (k : ℕ) → bit k r ≡ 1 → (k < e) × P k
  pub all : (k : ℕ) → k < e → P k → bit k r ≡ 1

-- the links of side w tell exactly what its stones tie together, and to its borders
pub record Linked (b : Board) (es : List ℕ) (w : ℕ) (l : Links) : Type 0 where
  pub near : (k : ℕ) → k < length es →
      Holds (length es) (slice_index l.near k) (λ j. Tied b w (slice_index es k) (slice_index es j))
  pub beyond : (k j : ℕ) → Near l.near k j → k < length es
  pub first : Holds (length es) l.first (λ k. Bound b w (begins b.wide w) (slice_index es k))
  pub last : Holds (length es) l.last (λ k. Bound b w (ends b.wide w) (slice_index es k))
