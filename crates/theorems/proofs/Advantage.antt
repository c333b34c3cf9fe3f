-- Positions that are better for a side: what it can force in one, it can force in every better one.
use Rattle.std.proofs.Common.{◌≡◌, ℕ, ◌<◌, ◌⊎◌, List, length, get_or, set, sym, refl, ◌∙◌, inl, inr, arith}
use Rattle.std.proofs.lemmas.List.{length-set, get_or-set_same, get_or-set_other}
use Rattle.hexboard.specs.Board.{empties, other}
use Rattle.hexboard.specs.Laying.{Rules, HasWon, CanForce, has, mine, theirs, KeepsWins}
use Rattle.theorems.specs.Forcing.{IsAsGood, IsNoWorse}
use Rattle.theorems.proofs.Stones.{Side, EmptyIn, set_each, empty_counts, empty_or_full, some_empty}

-- Every position is as good as itself.
pub no_worse_refl : (s : ℕ) (b : List ℕ) → IsNoWorse s b b
no_worse_refl s b = record { long = refl; cells = λ i _. inl refl }

-- A cell made better in the better position, whatever it was.
set_better : (s : ℕ) (b c : List ℕ) (i y : ℕ) → i < length c → IsNoWorse s b c → IsAsGood s (get_or b i 0) y → IsNoWorse s b (set c i y)
set_better s b c i y h k u = record {
  long = length-set c i y ∙ k.long;
  cells = set_each (λ j v. j < length b → IsAsGood s (get_or b j 0) v) c i y h (λ _. u) (λ j _. k.cells j);
}

-- A cell made worse in the worse position, whatever it was.
set_worse : (s : ℕ) (b c : List ℕ) (i x : ℕ) → i < length b → IsNoWorse s b c → IsAsGood s x (get_or c i 0) → IsNoWorse s (set b i x) c
set_worse s b c i x h k u = record {
  long = k.long ∙ sym (length-set b i x);
  cells = λ j l. set_each (λ j v. j < length b → IsAsGood s v (get_or c j 0)) b i x h (λ _. u) (λ j _. k.cells j) j (simp length-set at l);
}

-- The same change made in both.
set_both : (s : ℕ) (b c : List ℕ) (i x : ℕ) → i < length b → IsNoWorse s b c → IsNoWorse s (set b i x) (set c i x)
set_both s b c i x h k = record {
  long = length-set c i x ∙ (k.long ∙ sym (length-set b i x));
  cells = λ j l. set_each (λ j v. j < length b → IsAsGood s v (get_or (set c i x) j 0)) b i x h
      (λ _. inl (get_or-set_same c i x 0 (omega (arith, k.long))))
      (λ j n m. rw (get_or-set_other c i j x 0 n) (k.cells j m)) j (simp length-set at l);
}

-- With no cell empty, to force that it wins a side must have won.
pub full_won : {g : Rules} {s : ℕ} {b : List ℕ} {t : ℕ} → CanForce g s b t → empties b ≡ 0 → HasWon g s b
full_won (has t w) e = w
full_won {b = b} (mine i h z f) e = absurd (omega (arith, empty_counts b i h z))
full_won (theirs p f) e = absurd (omega arith)

-- a game that keeps wins, and a side of it
module _ {g : Rules} (keeps : KeepsWins g) {s : ℕ} (side : Side s) where
  -- Where a side can force it from every position no worse than b, though the other is to move, it can as the one to move: with a stone
  -- more, on any cell, it is the other's move again. If no cell is empty, it has won.
  any_move : (b c : List ℕ) → IsNoWorse s b c → ((d : List ℕ) → IsNoWorse s b d → CanForce g s d (other s)) → CanForce g s c s
  any_move b c k forces = go (empty_or_full c)
    where
      go : EmptyIn c ⊎ (empties c ≡ 0) → CanForce g s c s
      go (inl (i, h, z)) = mine i h z (forces (set c i s) (set_better s b c i s h k (inr (inl refl))))
      go (inr e) = has s (full_won (forces c k) e)

  -- It is the side's move. In the better position it makes the same move. Where its stone stands there already it makes any other.
  own_move : (b c : List ℕ) (i : ℕ) → i < length b → get_or b i 0 ≡ 0 → IsNoWorse s b c →
      ((d : List ℕ) → IsNoWorse s (set b i s) d → CanForce g s d (other s)) → CanForce g s c s
  own_move b c i h z k forces = go (k.cells i h)
    where
      go : IsAsGood s (get_or b i 0) (get_or c i 0) → CanForce g s c s
      go (inl e) = mine i (omega (arith, k.long)) (e ∙ z) (forces (set c i s) (set_both s b c i s h k))
      go (inr (inl e)) = any_move (set b i s) c (set_worse s b c i s h k (inr (inl e))) forces
      go (inr (inr e)) = absurd (omega arith)

  -- It is the other's move, to a cell i of the better position. If i is empty in the worse one too, that was foreseen. If the other's
  -- stone stands there already, what was foreseen for any of its moves is worse still. And if there is no move in the better position,
  -- no cell is empty, and what was foreseen for any move has the side won.
  other_move : (b c : List ℕ) → EmptyIn b → IsNoWorse s b c →
      ((i : ℕ) → i < length b → get_or b i 0 ≡ 0 → (d : List ℕ) → IsNoWorse s (set b i (other s)) d → CanForce g s d s) →
      CanForce g s c (other s)
  other_move b c (m, hm, zm) k forces = go (empty_or_full c)
    where
      any : (d : List ℕ) → IsNoWorse s b d → CanForce g s d s
      any d l = forces m hm zm d (set_worse s b d m (other s) hm l (inr (inr refl)))

      reply : (i : ℕ) → i < length c → get_or c i 0 ≡ 0 → i < length b → IsAsGood s (get_or b i 0) (get_or c i 0) → CanForce g s (set c i (other s)) s
      reply i h z l (inl e) = forces i l (sym e ∙ z) (set c i (other s)) (set_both s b c i (other s) l k)
      reply i h z l (inr (inl e)) = absurd (omega arith)
      reply i h z l (inr (inr e)) = any (set c i (other s)) (set_better s b c i (other s) h k (inr (inr e)))

      go : EmptyIn c ⊎ (empties c ≡ 0) → CanForce g s c (other s)
      go (inl (j, hj, zj)) = theirs (empty_counts c j hj zj) (λ i h z. let l : i < length b = omega (arith, k.long) in reply i h z l (k.cells i l))
      go (inr e) = has (other s) (full_won (any c k) e)

  -- What a side can force, it can force in every better position, whoever is to move.
  pub force_better : {b : List ℕ} {t : ℕ} → CanForce g s b t → (c : List ℕ) → IsNoWorse s b c → CanForce g s c t
  force_better {b} (has t w) c k = has t (keeps s b c side k.long (λ i h e. omega (arith, k.cells i h)) w)
  force_better {b} (mine i h z f) c k = own_move b c i h z k (force_better f)
  force_better {b} (theirs p f) c k = other_move b c (some_empty b p) k (λ i h z. force_better (f i h z))

  -- A stone more is never a loss: the position with it is better.
  pub force_stone : {b : List ℕ} {t : ℕ} (i : ℕ) → i < length b → CanForce g s b t → CanForce g s (set b i s) t
  force_stone {b} i h f = force_better f (set b i s) (set_better s b b i s h (no_worse_refl s b) (inr (inl refl)))

  -- To be to move is never a loss either.
  pub force_move : {b : List ℕ} → CanForce g s b (other s) → CanForce g s b s
  force_move {b} f = any_move b b (no_worse_refl s b) (force_better f)
