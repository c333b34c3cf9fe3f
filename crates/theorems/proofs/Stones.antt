-- Stones on a board: the two sides, one cell changed, and empty cells found and counted.
use Rattle.std.proofs.Common.{◌≡◌, ℕ, zero, suc, ◌<◌, ◌≢◌, ◌⊎◌, List, [], ◌∷◌, length, get_or, set, sym, refl, subst₂, inl, inr, ⊎_elim, arith}
use Rattle.std.proofs.lemmas.List.{get_or-set_same, get_or-set_other}
use Rattle.std.proofs.lemmas.Bool.{cases_eq}
use Rattle.std.proofs.lemmas.Bool.Decides.{nat_tests}
use Rattle.hexboard.specs.Board.{empties, other}
use Rattle.hexboard.specs.Laying.{IsSide}

-- the two that play
abbrev pub Side : ℕ → Type 0
Side s = IsSide s

-- r plays against s
abbrev pub Against : ℕ → ℕ → Type 0
Against s r = ((s ≡ 1) × (r ≡ 2)) ⊎ ((s ≡ 2) × (r ≡ 1))

-- Who plays against somebody is a side.
pub side_of : {s r : ℕ} → Against s r → Side s
side_of (inl a) = inl a.0
side_of (inr a) = inr a.0

-- Against a side plays the other,
pub is_other : {s r : ℕ} → Against s r → r ≡ other s
is_other a = omega arith

pub against_other : (s : ℕ) → Side s → Against s (other s)
against_other s (inl e) = inl (e, omega arith)
against_other s (inr e) = inr (e, omega arith)

-- and it against the other.
pub turned_about : {s r : ℕ} → Against s r → Against r s
turned_about (inl (p, q)) = inr (q, p)
turned_about (inr (p, q)) = inl (q, p)

-- What holds of sides 1 and 2 and of sides 2 and 1 holds of any two that play against each other.
pub either_way : (P : ℕ → ℕ → Type 0) (s r : ℕ) → Against s r → P 1 2 → P 2 1 → P s r
either_way P s r (inl (p, q)) x y = subst₂ P (sym p) (sym q) x
either_way P s r (inr (p, q)) x y = subst₂ P (sym p) (sym q) y

-- What holds of the changed cell and of every other holds of all: the only place that asks whether a cell is the changed one.
pub set_each : (P : ℕ → ℕ → Type 0) (l : List ℕ) (i x : ℕ) → i < length l → P i x → ((k : ℕ) → k ≢ i → P k (get_or l k 0)) → (k : ℕ) → P k (get_or (set l i x) k 0)
set_each P l i x h here others k = go (cases_eq k i)
  where
    go : (k ≡ i) ⊎ (k ≡ i → ⊥) → P k (get_or (set l i x) k 0)
    go (inl e) = rw e (rw get_or-set_same here)
    go (inr n) = rw get_or-set_other (others k n)

-- A place that is empty is counted.
pub empty_counts : (l : List ℕ) (k : ℕ) → k < length l → get_or l k 0 ≡ 0 → 0 < empties l
unfolding empties
empty_counts [] k h e = omega arith
empty_counts (x ∷ l) zero h e = grind (arith, nat_tests)
empty_counts (x ∷ l) (suc k) h e = let r = empty_counts l k (omega arith) e in omega arith

-- a place of the list that is empty
abbrev pub EmptyIn : List ℕ → Type 0
EmptyIn l = (k : ℕ) × (k < length l) × (get_or l k 0 ≡ 0)

-- Either some place is empty, and here is one, or none is.
pub empty_or_full : (l : List ℕ) → EmptyIn l ⊎ (empties l ≡ 0)
unfolding empties
empty_or_full [] = inr refl
empty_or_full (zero ∷ l) = inl (0, omega arith, refl)
empty_or_full (suc x ∷ l) = ⊎_elim (λ s. inl (suc s.0, omega arith, s.2)) (λ e. inr (grind (arith, nat_tests))) (empty_or_full l)

-- Where some are counted, here is one.
pub some_empty : (l : List ℕ) → 0 < empties l → EmptyIn l
some_empty l h = ⊎_elim (λ s. s) (λ e. absurd (omega arith)) (empty_or_full l)
