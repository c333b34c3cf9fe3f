-- Boards stay as they can be under a stone put on or taken off, and the empty board is one of them.
use Rattle.std.proofs.Common.{◌≡◌, ℕ, zero, suc, ◌+◌, ◌*◌, ◌<◌, ◌≤◌, true, eqb, ◌⊎◌, List, [], ◌∷◌, length, get_or, drop, set, replicate, sym, refl, ap, ◌∙◌, inl, inr, arith, lit<, if◌then◌else◌}
use Rattle.std.proofs.lemmas.List.{length-set, set-set, set-get_or, at_drop_more, at_drop_all}
use Rattle.std.proofs.lemmas.Bool.{and_parts, and_from, lt-ltb, ltb-true}
use Rattle.std.proofs.lemmas.Bool.Decides.{nat_tests}
use Rattle.hexboard.specs.Board.{Board, at, all_cells, empty, empties, put, other}
use Rattle.hexboard.specs.Promise.{good_cells, Good}
use Rattle.hexboard.specs.Sides.{number}
use Rattle.hexboard.specs.declared.side.Side.{Side}
use Rattle.hexboard.specs.declared.side.Side.TheVariants.{One, Two}

-- A side's number is 1 or 2.
pub number_few : (s : Side) → (0 < number s) × (number s < 3)
number_few One = (lit< tt, lit< tt)
number_few Two = (lit< tt, lit< tt)

pub side_number : (s : Side) → (number s ≡ 1) ⊎ (number s ≡ 2)
side_number One = inl refl
side_number Two = inr refl

-- Who plays against a side is a side.
pub other_side : (s : ℕ) → (s ≡ 1) ⊎ (s ≡ 2) → (other s ≡ 1) ⊎ (other s ≡ 2)
other_side s (inl e) = inr (omega arith)
other_side s (inr e) = inl (omega arith)

-- Cells that are each empty or of a side stay so with one more set.
pub good_cells_set : (cs : List ℕ) (i s : ℕ) → s < 3 → good_cells cs ≡ true → good_cells (set cs i s) ≡ true
unfolding good_cells
good_cells_set [] i s h g = refl
good_cells_set (c ∷ cs) zero s h g = and_from _ _ (lt-ltb s 3 h) (and_parts _ _ g).1
good_cells_set (c ∷ cs) (suc i) s h g = and_from _ _ (and_parts _ _ g).0 (good_cells_set cs i s h (and_parts _ _ g).1)

-- What stands on such a cell.
pub good_cells_at : (cs : List ℕ) (i : ℕ) → good_cells cs ≡ true → get_or cs i 0 < 3
unfolding good_cells
good_cells_at [] i g = lit< tt
good_cells_at (c ∷ cs) zero g = ltb-true c 3 (and_parts _ _ g).0
good_cells_at (c ∷ cs) (suc i) g = good_cells_at cs i (and_parts _ _ g).1

-- A stone more, or one fewer.
pub good_set : (b : Board) (s i : ℕ) → s < 3 → Good b → Good (put b s i)
good_set b s i h g = (g.0, length-set b.cells i s ∙ g.1, good_cells_set b.cells i s h g.2)

-- A cell holds nothing or a stone of a side.
pub good_at : (b : Board) (i : ℕ) → Good b → at b i < 3
good_at b i g = good_cells_at b.cells i g.2

-- The empty board.
pub length_all_cells : (n : ℕ) → length (all_cells n) ≡ n
unfolding all_cells
length_all_cells zero = refl
length_all_cells (suc n) = ap suc (length_all_cells n)

pub at_all_cells : (n i : ℕ) → get_or (all_cells n) i 0 ≡ 0
unfolding all_cells
at_all_cells zero i = refl
at_all_cells (suc n) zero = refl
at_all_cells (suc n) (suc i) = at_all_cells n i

pub all_cells_replicate : (n : ℕ) → replicate n 0 ≡ all_cells n
unfolding all_cells
all_cells_replicate zero = refl
all_cells_replicate (suc n) = ap (λ cs. 0 ∷ cs) (all_cells_replicate n)

pub good_all_cells : (n : ℕ) → good_cells (all_cells n) ≡ true
unfolding all_cells good_cells
good_all_cells zero = refl
good_all_cells (suc n) = good_all_cells n

pub good_empty : (n : ℕ) → 0 < n → Good (empty n)
good_empty n h = (h, length_all_cells (n * n), good_all_cells (n * n))

-- No more cells are empty than there are.
pub empties_few : (cs : List ℕ) → empties cs ≤ length cs
unfolding empties
empties_few [] = omega arith
empties_few (c ∷ cs) = let h = empties_few cs in grind (arith, nat_tests)

-- A stone on an empty cell leaves one empty cell fewer.
pub empties_set : (cs : List ℕ) (i s : ℕ) → i < length cs → get_or cs i 0 ≡ 0 → 0 < s → empties (set cs i s) + 1 ≡ empties cs
unfolding empties
empties_set [] i s h e p = omega arith
empties_set (c ∷ cs) zero s h e p = grind (arith, nat_tests)
empties_set (c ∷ cs) (suc i) s h e p =
    let g : i < length cs = omega arith in
    let r = empties_set cs i s g e p in
    omega arith

-- With the stone taken off again all is as it was.
pub set_back : (cs : List ℕ) (i s : ℕ) → get_or cs i 0 ≡ 0 → set (set cs i s) i 0 ≡ cs
set_back cs i s e = set-set cs i s 0 ∙ ap (set cs i) (sym e) ∙ set-get_or cs i 0

-- Counted from cell i on: cell i itself, and those from the next on.
pub empties_from : (cs : List ℕ) (i : ℕ) → i < length cs → empties (drop i cs) ≡ (if eqb (get_or cs i 0) 0 then 1 else 0) + empties (drop (i + 1) cs)
unfolding empties
empties_from cs i h = at_drop_more empties cs i 0 h

pub empties_past : (cs : List ℕ) (i : ℕ) → length cs ≤ i → empties (drop i cs) ≡ 0
unfolding empties
empties_past cs i h = at_drop_all empties cs i h
