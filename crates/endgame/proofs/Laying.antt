-- Boards whose empty cells are laid with stones: what stands where, which is better for a side, and how one stone changes it.
use Rattle.std.proofs.Common.{◌≡◌, ℕ, zero, suc, ◌<◌, ◌≢◌, ◌⊎◌, List, [], ◌∷◌, length, get_or, sym, refl, ◌∙◌, subst, inl, inr, ⊎_elim, arith}
use Rattle.std.proofs.lemmas.List.{length-set, get_or-set_same, get_or-set_other}
use Rattle.std.proofs.lemmas.Bool.{cases_eq}
use Rattle.hexboard.specs.Board.{Board, at, put}
use Rattle.theorems.proofs.Better.{Up, Better}
use Rattle.endgame.specs.Ends.{Numbered}
use Rattle.endgame.specs.Ends.{lay}

-- Board d is board b with f k on the k-th of the cells es.
pub record Laid (b : Board) (es : List ℕ) (f : ℕ → ℕ) (d : Board) : Type 0 where
  pub wide : d.wide ≡ b.wide
  pub long : length d.cells ≡ length b.cells
  pub on : (k : ℕ) → k < length es → at d (get_or es k 0) ≡ f k
  pub off : (i : ℕ) → ((k : ℕ) → k < length es → get_or es k 0 ≢ i) → at d i ≡ at b i

-- what is asked of the cells for that: they are on the board, and each is named once
abbrev Places : Board → List ℕ → Type 0
Places b es =
    ((k : ℕ) → k < length es → get_or es k 0 < length b.cells) × ((j k : ℕ) → j < length es → k < length es → get_or es j 0 ≡ get_or es k 0 → j ≡ k)

lay_laid : (b : Board) (es : List ℕ) (f : ℕ → ℕ) → Places b es → Laid b es f (lay b f es)
unfolding lay
lay_laid b [] f h = record { wide = refl; long = refl; on = λ k l. absurd (omega arith); off = λ i n. refl }
lay_laid b (e ∷ es) f h =
    let rest = lay_laid b es (λ k. f (suc k)) ((λ k l. h.0 (suc k) (omega arith)), (λ j k l m s. omega (arith, h.1 (suc j) (suc k) (omega arith) (omega arith) s))) in
    let cells = (lay b (λ k. f (suc k)) es).cells in
    let inside : e < length cells = omega (arith, rest.long, h.0 0 (omega arith)) in
    record {
      wide = rest.wide;
      long = length-set cells e (f 0) ∙ rest.long;
      on = elim [
        | zero ↦ λ l. get_or-set_same cells e (f 0) 0 inside
        | suc k ↦ λ l. get_or-set_other cells e (get_or es k 0) (f 0) 0 (λ s. let same = h.1 (suc k) 0 l (omega arith) s in absurd (omega arith)) ∙ rest.on k (omega arith)
      ];
      off = λ i n. get_or-set_other cells e i (f 0) 0 (λ s. n 0 (omega arith) (sym s)) ∙ rest.off i (λ k l. n (suc k) (omega arith));
    }

pub laid : {b : Board} {es : List ℕ} → Numbered b es → (f : ℕ → ℕ) → Laid b es f (lay b f es)
laid {b} {es} n f = lay_laid b es f (n.inside, n.once)

-- a cell is one of a list of cells, or it is not
pub where_is : (es : List ℕ) (i : ℕ) → ((k : ℕ) × (k < length es) × (get_or es k 0 ≡ i)) ⊎ ((k : ℕ) → k < length es → get_or es k 0 ≢ i)
where_is [] i = inr (λ k l. absurd (omega arith))
where_is (e ∷ es) i = go (cases_eq e i) (where_is es i)
  where
    go : (e ≡ i) ⊎ (e ≢ i) → ((k : ℕ) × (k < length es) × (get_or es k 0 ≡ i)) ⊎ ((k : ℕ) → k < length es → get_or es k 0 ≢ i) →
        ((k : ℕ) × (k < length (e ∷ es)) × (get_or (e ∷ es) k 0 ≡ i)) ⊎ ((k : ℕ) → k < length (e ∷ es) → get_or (e ∷ es) k 0 ≢ i)
    go (inl same) r = inl (0, omega arith, same)
    go (inr n) (inl (k, l, same)) = inl (suc k, omega arith, same)
    go (inr n) (inr m) = inr (elim [ zero ↦ λ l. n | suc k ↦ λ l. m k (omega arith) ])

-- laid cell by cell at least as well for side s, a board is better for it
pub laid_better : {b c d : Board} {es : List ℕ} {f g : ℕ → ℕ} (s : ℕ) → Laid b es f c → Laid b es g d →
    ((k : ℕ) → k < length es → Up s (f k) (g k)) → Better s c d
laid_better {b} {c} {d} {es} {f} {g} s lc ld up = record {
  wide = ld.wide ∙ sym lc.wide;
  long = ld.long ∙ sym lc.long;
  up = λ i. ⊎_elim
      (λ p. let (k, l, same) = p in subst (λ j. Up s (at c j) (at d j)) same (rw (lc.on k l, ld.on k l) (up k l)))
      (λ n. inl (ld.off i n ∙ sym (lc.off i n)))
      (where_is es i);
}

-- one of the cells laid anew
pub laid_put : {b d : Board} {es : List ℕ} {f : ℕ → ℕ} (g : ℕ → ℕ) (k v : ℕ) → Numbered b es → Laid b es f d → k < length es →
    g k ≡ v → ((j : ℕ) → j ≢ k → g j ≡ f j) → Laid b es g (put d v (get_or es k 0))
laid_put {b} {d} {es} {f} g k v n ld l here else = record {
  wide = ld.wide;
  long = length-set d.cells (get_or es k 0) v ∙ ld.long;
  on = λ j m. ⊎_elim
      (λ same. rw same (get_or-set_same d.cells (get_or es k 0) v 0 (omega (arith, ld.long, n.inside k l)) ∙ sym here))
      (λ apart. get_or-set_other d.cells (get_or es k 0) (get_or es j 0) v 0 (λ s. apart (n.once j k m l s)) ∙ ld.on j m ∙ sym (else j apart))
      (cases_eq j k);
  off = λ i m. get_or-set_other d.cells (get_or es k 0) i v 0 (λ s. m k l (sym s)) ∙ ld.off i m;
}
