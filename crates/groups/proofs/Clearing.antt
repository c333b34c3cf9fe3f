-- Memory without stones: each cell its own parent, and no bits.
use Rattle.std.proofs.Common.{◌≡◌, ℕ, ◌+◌, ◌*◌, ◌<◌, ◌≤◌, List, [], length, get_or, set, sym, ◌∙◌, ⊎_elim, arith}
use Rattle.std.proofs.lemmas.List.{get_or-set_same, get_or-set_other, get_or_past, get_or_default, length-set, same_lists}
use Rattle.std.proofs.lemmas.Bool.{cases_eq, cases_lt}
use Rattle.hexboard.specs.Board.{all_cells}
use Rattle.hexboard.specs.Words.{words}
use Rattle.groups.specs.Forest.{parent}
use Rattle.groups.specs.Stones.{count_from, KeepsGroups}
use Rattle.hexboard.proofs.TwoBytes.{words_length}
use Rattle.groups.proofs.Positions.{bare_parent, count_length}

-- the first k cells are their own parents
abbrev pub Cleared : ℕ → List ℕ → Type 0
Cleared k ps = (i : ℕ) → i < k → parent ps i ≡ i

-- What is written is what is read, also where there is nothing, if that is the default.
set_here : (l : List ℕ) (k v : ℕ) → get_or (set l k v) k v ≡ v
set_here l k v =
    ⊎_elim (get_or-set_same l k v v) (λ past. get_or_past (set l k v) k v (rw length-set past)) (cases_lt k (length l))

-- One cell more is cleared.
pub cleared_more : (k : ℕ) (ps : List ℕ) → Cleared k ps → Cleared (k + 1) (set ps k k)
cleared_more k ps h i l =
    ⊎_elim (λ e. rw e (set_here ps k k)) (λ d. get_or-set_other ps k i k i d ∙ h i (omega arith)) (cases_eq i k)

-- When all are cleared there are no stones.
cleared_all : (k m : ℕ) (mem : List ℕ) → length mem ≡ k * 2 → k ≤ m → Cleared m (words mem) → words mem ≡ count_from 0 k
cleared_all k m mem long far h =
    same_lists (words mem) (count_from 0 k) (omega (arith, words_length mem, count_length 0 k))
    (λ i d l.
    let on : i < k = omega (arith, words_length mem) in
    get_or_default (words mem) i d i l
    ∙ h i (omega arith)
    ∙ sym (get_or_default (count_from 0 k) i d i (omega (arith, count_length 0 k)) ∙ bare_parent k i))

pub cleared_kept : (n m : ℕ) (mem bs : List ℕ) → length mem ≡ n * n * 2 → bs ≡ all_cells (n * n) → n * n ≤ m → Cleared m (words mem) → KeepsGroups n [] mem bs
cleared_kept n m mem bs long none far h = λ i. record { parents = cleared_all (n * n) m mem long far h i; borders = none i }
