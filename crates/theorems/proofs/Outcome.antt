-- How a lawful game comes out: in every position exactly one of the two sides can force that it wins.
use Rattle.std.proofs.Common.{◌≡◌, ℕ, zero, suc, ◌<◌, ◌⊎◌, List, length, get_or, set, sym, refl, ◌∙◌, subst, inl, inr, arith}
use mathlib.Core.Logic.{⊎_map, ⊎_swap}
use Rattle.std.proofs.lemmas.List.{length-set}
use Rattle.std.proofs.lemmas.List.Elements.{All-set}
use Rattle.std.proofs.lemmas.Bool.{cases_eq}
use Rattle.hexboard.specs.Board.{empties, other}
use Rattle.hexboard.specs.Laying.{Rules, HasWon, CanForce, has, mine, theirs, IsPosition, IsLawful}
use Rattle.hexboard.proofs.Boards.{empties_set}
use Rattle.theorems.specs.Forcing.{OneCanForce, BeatenForcesNothing}
use Rattle.theorems.proofs.Numbers.{all_or}
use Rattle.theorems.proofs.Stones.{Side, Against, side_of, against_other, either_way, is_other, turned_about, set_each, some_empty}

-- A stone put on a cell leaves a position.
pub set_position : {g : Rules} {b : List ℕ} (i x : ℕ) → x < 3 → IsPosition g b → IsPosition g (set b i x)
set_position {b = b} i x h p = record { long = length-set b i x ∙ p.long; stones = All-set (λ c. c < 3) b i x h p.stones }

-- a lawful game
module _ {g : Rules} (law : IsLawful g) where
  -- Never both and never neither, for the sides in either order.
  both_won : (b : List ℕ) (s r : ℕ) → Against s r → IsPosition g b → HasWon g s b → HasWon g r b → ⊥
  both_won b s r a p = either_way (λ x y. HasWon g x b → HasWon g y b → ⊥) s r a (law.never_both b p) (λ v w. law.never_both b p w v)

  one_won : (b : List ℕ) (s r : ℕ) → Against s r → IsPosition g b → empties b ≡ 0 → HasWon g s b ⊎ HasWon g r b
  one_won b s r a p e =
      either_way (λ x y. HasWon g x b ⊎ HasWon g y b) s r a (law.never_neither b p e) (⊎_swap (law.never_neither b p e))

  -- Who has won has won for good: no stone is moved.
  still_won : (b : List ℕ) (s i x : ℕ) → Side s → i < length b → get_or b i 0 ≡ 0 → HasWon g s b → HasWon g s (set b i x)
  still_won b s i x side h z =
      law.keeps_wins s b (set b i x) side (length-set b i x)
      (λ k _. set_each (λ k v. get_or b k 0 ≡ s → v ≡ s) b i x h (λ e. absurd (omega arith)) (λ k _ e. e) k)

  -- Against a side that has won nothing can be forced, however long play goes on.
  beaten : {r : ℕ} {b : List ℕ} {t : ℕ} → CanForce g r b t → (s : ℕ) → Against s r → IsPosition g b → HasWon g s b → ⊥
  beaten {r} {b} (has t w) s a p v = both_won b s r a p v w
  beaten {r} {b} (mine i h z f) s a p v = beaten f s a (set_position i r (omega arith) p) (still_won b s i r (side_of a) h z v)
  beaten {r} {b} (theirs q f) s a p v =
      let (i, h, z) = some_empty b q in
      beaten (f i h z) s a (set_position i (other r) (omega arith) p) (still_won b s i (other r) (side_of a) h z v)

  pub beaten_forces_nothing : BeatenForcesNothing g
  beaten_forces_nothing s t b p side w f = beaten f (other s) (turned_about (against_other s side)) p w

  -- Not both sides can force it: play both ways of playing against each other, and at the end both have won.
  pub not_both_forced : {s : ℕ} {b : List ℕ} {t : ℕ} → CanForce g s b t → (r : ℕ) {u : ℕ} → Against s r → IsPosition g b → CanForce g r b u → t ≡ u → ⊥
  not_both_forced {s} (has t w) r a p k e = beaten k s a p w
  not_both_forced f r a p (has u v) e = beaten f r (turned_about a) p v
  not_both_forced {s} {b} (mine i h z f) r a p (theirs q k) e =
      not_both_forced f r a (set_position i s (omega arith) p) (subst (λ x. CanForce g r (set b i x) r) (sym e) (k i h z)) (sym (is_other a))
  not_both_forced {s} {b} (theirs q f) r a p (mine i h z k) e =
      not_both_forced (f i h z) r a (set_position i (other s) (omega arith) p)
      (subst (λ x. CanForce g r (set b i x) (other r)) (sym e) k) (is_other (turned_about a))
  not_both_forced (mine i h z f) r a p (mine j hj zj k) e = omega arith
  not_both_forced (theirs q f) r a p (theirs v k) e = omega arith

  -- The side to move has a move after which it can force it, and so it can now; or it has none, and then the other can after each of
  -- its moves, and so the other can now.
  decided_by_move : (b : List ℕ) (s r : ℕ) → Against s r → 0 < empties b →
      ((i : ℕ) → i < length b → get_or b i 0 ≡ 0 → CanForce g s (set b i s) r ⊎ CanForce g r (set b i s) r) → CanForce g s b s ⊎ CanForce g r b s
  decided_by_move b s r a some each = go (all_or Wins Loses (length b) (λ i h. judged i h (cases_eq (get_or b i 0) 0)))
    where
      Wins : ℕ → Type 0
      Wins i = (get_or b i 0 ≡ 0) × CanForce g s (set b i s) r

      Loses : ℕ → Type 0
      Loses i = get_or b i 0 ≡ 0 → CanForce g r (set b i s) r

      judged : (i : ℕ) → i < length b → (get_or b i 0 ≡ 0) ⊎ (get_or b i 0 ≡ 0 → ⊥) → Wins i ⊎ Loses i
      judged i h (inl z) = ⊎_map (λ f. (z, f)) (λ f _. f) (each i h z)
      judged i h (inr taken) = inr (λ z. absurd (taken z))

      go : ((i : ℕ) × (i < length b) × Wins i) ⊎ ((i : ℕ) → i < length b → Loses i) → CanForce g s b s ⊎ CanForce g r b s
      go (inl (i, h, (z, f))) = inl (mine i h z (subst (CanForce g s (set b i s)) (is_other a) f))
      go (inr all) =
          let own = is_other (turned_about a) in
          inr (subst (CanForce g r b) (sym own) (theirs some (λ i h z. subst (λ x. CanForce g r (set b i x) r) own (all i h z))))

  -- Played to the end: with no cell empty one side has won, and before that each move leaves an empty cell fewer.
  decided : (k : ℕ) (b : List ℕ) (s r : ℕ) → Against s r → IsPosition g b → empties b ≡ k → CanForce g s b s ⊎ CanForce g r b s
  decided zero b s r a p e = ⊎_map (has s) (has s) (one_won b s r a p e)
  decided (suc k) b s r a p e =
      decided_by_move b s r a (omega arith) (λ i h z. ⊎_swap (decided k (set b i s) r s (turned_about a)
      (set_position i s (omega arith) p) (omega (arith, empties_set b i s h z (omega arith)))))

  -- In every position exactly one of the two can force it, whichever of them is to move.
  pub one_can_force_lem : OneCanForce g
  one_can_force_lem s t b p side turn = (go (cases_eq t s), λ f k. not_both_forced f (other s) against p k refl)
    where
      against : Against s (other s)
      against = against_other s side

      go : (t ≡ s) ⊎ (t ≡ s → ⊥) → CanForce g s b t ⊎ CanForce g (other s) b t
      go (inl e) = rw e (decided (empties b) b s (other s) against p refl)
      go (inr n) =
          let e : t ≡ other s = omega arith in
          rw e (⊎_swap (decided (empties b) b (other s) s (turned_about against) p refl))
