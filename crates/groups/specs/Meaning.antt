-- What the groups mean, for every legal list of stones on boards of every size: who hangs together,
-- and who has connected.
use Rattle.std.specs.Prelude.{◌≡◌, ℕ, ◌*◌, ◌%◌, ◌<◌, Bool, ◌≢◌, ◌↔◌, List, [], ◌∷◌, ◌++◌, length}
use Rattle.std.specs.Prelude.{IsTrue, slice_index}
use Rattle.hexboard.specs.Board.{Board, Connects, other}
use Rattle.hexboard.specs.Rows.{Stone, Row}
use Rattle.groups.specs.Forest.{Forest, parent, root}
use Rattle.groups.specs.Stones.{Placement, stone, board_of, forest_of, AreLegal, KeepsGroups}
use Rattle.groups.specs.Stones.{IsBoardAround}

-- both border bits
abbrev pub Both : ℕ → Type 0
Both bits = bits % 4 ≡ 3

-- Two stones of a side have the same root exactly when a row of its stones leads from one to the
-- other.
abbrev pub Together : Type 0
Together =
    (n : ℕ) (ps : List Placement) (s i j : ℕ) → AreLegal n ps → s ≢ 0 →
    Stone (board_of n ps) s i → Stone (board_of n ps) s j →
    ((root (forest_of n ps).parents i ≡ root (forest_of n ps).parents j)
    ↔ Row (board_of n ps) s i j)

-- some group of side s touches both its borders
pub record Spans (b : Board) (s : ℕ) (f : Forest) : Type 0 where
  pub top : ℕ
  pub stone : Stone b s top
  pub is_root : parent f.parents top ≡ top
  pub touches : Both (slice_index f.borders top)

-- A side has connected exactly when some group of it touches both its borders.
abbrev pub Joined : Type 0
Joined =
    (n : ℕ) (ps : List Placement) (s : ℕ) → AreLegal n ps → s ≢ 0 →
    (Connects (board_of n ps) s ↔ Spans (board_of n ps) s (forest_of n ps))

-- nobody has connected
abbrev pub Open : Board → Type 0
Open b = (Connects b 1 → ⊥) × (Connects b 2 → ⊥)

-- as many bytes as the parents of a board n wide take
pub record Bytes (n : ℕ) (bytes : List ℕ) : Type 0 where
  pub many : length bytes ≡ n * n * 2
  pub small : (i : ℕ) → slice_index bytes i < 256

-- The stones tell every byte: memory that keeps their groups is the same, however it came about.
abbrev pub KeptOnce : Type 0
KeptOnce =
    (n : ℕ) (ps : List Placement) (one borders two others : List ℕ) → Bytes n one → Bytes n two →
    KeepsGroups n ps one borders → KeepsGroups n ps two others → (one ≡ two) × (borders ≡ others)

-- What the functions on lent memory tell. The memory holds forest f, and f' after a call.

-- The memory keeps the groups of the stones with one more, of side s on cell x, if it kept those of
-- the stones. The cells show the board without that stone or with it.
abbrev pub OneMore : ℕ → List ℕ → ℕ → ℕ → Forest → Forest → Type 0
OneMore n cells s x f f' =
    (ps : List Placement) → IsBoardAround n ps (stone s x) cells → f ≡ forest_of n ps →
    f' ≡ forest_of n (ps ++ stone s x ∷ [])

-- The memory keeps the groups of the stones without the last, on cell x, if it kept those of the
-- stones.
abbrev pub OneFewer : ℕ → ℕ → Forest → Forest → Type 0
OneFewer n x f f' =
    (ps : List Placement) (s : ℕ) → AreLegal n (ps ++ stone s x ∷ []) →
    f ≡ forest_of n (ps ++ stone s x ∷ []) → f' ≡ forest_of n ps

-- If nobody had connected before the last stone, of side s on cell x, r says whether its side has
-- connected now; the other side has not.
abbrev pub TellsWinner : List ℕ → ℕ → Bool → Type 0
TellsWinner borders x r =
    (n : ℕ) (ps : List Placement) (s : ℕ) → AreLegal n (ps ++ stone s x ∷ []) →
    Open (board_of n ps) → borders ≡ (forest_of n (ps ++ stone s x ∷ [])).borders →
    (IsTrue r ↔ Connects (board_of n (ps ++ stone s x ∷ [])) s)
    × (Connects (board_of n (ps ++ stone s x ∷ [])) (other s) → ⊥)
