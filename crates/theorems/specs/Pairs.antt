-- Answering in pairs: the cells are paired off, and a move on one cell of a pair is answered on the
-- other. Definitions only.
use Rattle.std.specs.Prelude.{◌≡◌, ℕ, ◌<◌, ◌≢◌, ◌⊎◌, List, length, slice_index, slice_set}
use Rattle.hexboard.specs.Board.{empties, other}
use Rattle.hexboard.specs.Laying.{Rules, HasWon, IsPosition}

-- Each of so many cells has a partner, whose partner it is. A cell that is its own partner is in no
-- pair.
pub record IsPairing (count : ℕ) (partner : ℕ → ℕ) : Type 0 where
  pub on : (i : ℕ) → i < count → partner i < count
  pub back : (i : ℕ) → i < count → partner (partner i) ≡ i

-- Of each pair, side s has one cell or both.
abbrev pub HasOneOfEach : ℕ → (ℕ → ℕ) → List ℕ → Type 0
HasOneOfEach s partner cells =
    (i : ℕ) → i < length cells → partner i ≢ i →
    (slice_index cells i ≡ s) ⊎ (slice_index cells (partner i) ≡ s)

-- Of each pair, side s has one cell or both, or both are empty.
abbrev pub HasOneOrNone : ℕ → (ℕ → ℕ) → List ℕ → Type 0
HasOneOrNone s partner cells =
    (i : ℕ) → i < length cells → partner i ≢ i →
    ((slice_index cells i ≡ s) ⊎ (slice_index cells (partner i) ≡ s))
    ⊎ ((slice_index cells i ≡ 0) × (slice_index cells (partner i) ≡ 0))

-- cells c as they may be after more moves than cells b: no stone is moved
pub record IsLater (b c : List ℕ) : Type 0 where
  pub long : length c ≡ length b
  pub stays : (i : ℕ) → i < length b → slice_index b i ≢ 0 → slice_index c i ≡ slice_index b i

-- In whatever full position play from b ends: if side s has one cell of each pair, it has won.
abbrev pub IsEnough : Rules → ℕ → (ℕ → ℕ) → List ℕ → Type 0
IsEnough g s partner b =
    (c : List ℕ) → IsPosition g c → empties c ≡ 0 → IsLater b c →
    HasOneOfEach s partner c → HasWon g s c

-- WinsAnswering g s answer cells: with the other side to move, side s wins by answering each of its
-- moves on the cell that `answer` gives for it. A value of it says that the answer is always an
-- empty cell, and that side s has won when no cell is left.
pub data WinsAnswering (g : Rules) (s : ℕ) (answer : ℕ → ℕ) : List ℕ → Type 0 where
  won : {cells : List ℕ} → empties cells ≡ 0 → HasWon g s cells → WinsAnswering g s answer cells
  answers : {cells : List ℕ} → 0 < empties cells →
      ((i : ℕ) → i < length cells → slice_index cells i ≡ 0 → answer i < length cells) →
      ((i : ℕ) → i < length cells → slice_index cells i ≡ 0 →
      slice_index (slice_set cells i (other s)) (answer i) ≡ 0) →
      ((i : ℕ) → i < length cells → slice_index cells i ≡ 0 →
      WinsAnswering g s answer (slice_set (slice_set cells i (other s)) (answer i) s)) →
      WinsAnswering g s answer cells

-- Each cell is in a pair; of each pair both cells are empty, or neither is and side s has one.
abbrev pub IsAnswered : ℕ → (ℕ → ℕ) → List ℕ → Type 0
IsAnswered s partner cells =
    (i : ℕ) → i < length cells → (partner i ≢ i)
    × (((slice_index cells i ≡ 0) × (slice_index cells (partner i) ≡ 0))
    ⊎ (((slice_index cells i ≡ s) ⊎ (slice_index cells (partner i) ≡ s))
    × (slice_index cells i ≢ 0) × (slice_index cells (partner i) ≢ 0)))
