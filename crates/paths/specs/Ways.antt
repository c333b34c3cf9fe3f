-- Ways over any ground: places of one's own, each near the one before, from a first border to a
-- last. A board's side has such a ground.
use Rattle.std.specs.Prelude.{◌≡◌, ℕ, ◌*◌, ◌<◌, ◌≤◌, Bool, true, false, ◌&&◌, ◌≢◌, List, [], ◌∷◌}
use Rattle.std.specs.Prelude.{length, take, drop, Some, None, Option, ◌==◌, nat_lt, slice_index}
use Rattle.hexboard.specs.Board.{Board, next_to, begins, ends, is_way, Connects}
use Rattle.hexboard.specs.Words.{words}

-- what a way is made of: which places are near each other, which are one's own, which are at the
-- first border and which at the last
pub record Ground : Type 0 where
  pub near : ℕ → ℕ → Bool
  pub own : ℕ → Bool
  pub first : ℕ → Bool
  pub last : ℕ → Bool

-- a stone of side s stands on cell i, as a way has it
abbrev pub is_stone : List ℕ → ℕ → ℕ → Bool
is_stone cells s i = nat_lt i (length cells) && slice_index cells i == s

-- the ground of side s on a board: its stones, and its two borders
abbrev pub ground : Board → ℕ → Ground
ground b s = record {
  near = next_to b.wide;
  own = is_stone b.cells s;
  first = begins b.wide s;
  last = ends b.wide s;
}

-- the places js lead on from place i to the last border: each is one's own and near the one before
unfoldable pub leads : Ground → ℕ → List ℕ → Bool
leads g i [] = g.last i
leads g i (j ∷ js) = (g.near i j && g.own j) && leads g j js

-- the places lead from the first border to the last
unfoldable pub crosses : Ground → List ℕ → Bool
crosses g [] = false
crosses g (i ∷ is) = (g.first i && g.own i) && leads g i is

-- A shortest way of side s: no other has fewer cells, so none stands in it twice, and it has no
-- more than the board.
pub record Shortest (b : Board) (s : ℕ) (w : List ℕ) : Type 0 where
  pub way : is_way b s w ≡ true
  pub least : (v : List ℕ) → is_way b s v ≡ true → length w ≤ length v
  pub once : (i j : ℕ) → i < j → j < length w → slice_index w i ≢ slice_index w j
  pub few : length w ≤ length b.cells

-- A shortest way of k cells is written at the front of old, which becomes new; behind it nothing
-- changes.
pub record Written (b : Board) (s : ℕ) (old new : List ℕ) (k : ℕ) : Type 0 where
  pub shortest : Shortest b s (words (take (2 * k) new))
  pub count : length (words (take (2 * k) new)) ≡ k
  pub behind : drop (2 * k) new ≡ drop (2 * k) old

-- The answer to the question for a way: it is written, or there is none and nothing changes.
abbrev pub Answered : Board → ℕ → List ℕ → List ℕ → Option ℕ → Type 0
Answered b s old new None = (Connects b s → ⊥) × (new ≡ old)
Answered b s old new (Some k) = Written b s old new k
