-- Wins that rest on a carrier: how they are made of one another.
use Rattle.std.proofs.Common.{◌≡◌, ℕ, ◌+◌, ◌-◌, ◌^◌, ◌<◌, ◌≢◌, ◌⊎◌, List, length, get_or, sym, refl, ap, ◌∙◌, subst, inl, inr, ⊎_elim, arith}
use lib.Bits.{bit_and, bit_or}
use Rattle.std.proofs.lemmas.Bool.Decides.{nat_tests}
use Rattle.hexboard.specs.Board.{Board, at, empties, put, other}
use Rattle.hexboard.specs.Games.{Forces, has, mine, theirs}
use Rattle.ranking.specs.Sets.{bit, Within}
use Rattle.ranking.proofs.Bits.{bit_more, bit_less, bit_none, bit_one, bit_of_and, in_or_out, in_or, or_left, or_right}
use Rattle.theorems.proofs.Stones.{Side, EmptyIn, empty_counts, empty_or_full}
use Rattle.theorems.proofs.Better.{Up, better, full}
use Rattle.endgame.specs.Ends.{Numbered}
use Rattle.endgame.specs.Ends.{mark, board_within, Wins, Stands}
use Rattle.endgame.proofs.Laying.{Laid, laid, where_is, laid_better, laid_put}

-- what stands on a cell: a stone of the winner, nothing, or a stone of the loser
pub mark_stone : (w x c k : ℕ) → bit k x ≡ 1 → mark w x c k ≡ w
unfolding mark
mark_stone w x c k h = grind (arith, nat_tests)

pub mark_empty : (w x c k : ℕ) → bit k x ≡ 0 → bit k c ≡ 1 → mark w x c k ≡ 0
unfolding mark
mark_empty w x c k h i = grind (arith, nat_tests)

pub mark_other : (w x c k : ℕ) → bit k x ≡ 0 → bit k c ≡ 0 → mark w x c k ≡ other w
unfolding mark
mark_other w x c k h i = grind (arith, nat_tests)

mark_same : (w x z c e k : ℕ) → bit k x ≡ bit k z → bit k c ≡ bit k e → mark w x c k ≡ mark w z e k
unfolding mark
mark_same w x z c e k h i = rw (h, i)

-- a larger carrier is better for the winner
pub mark_more : (w x c e k : ℕ) → Within c e → Up w (mark w x c k) (mark w x e k)
mark_more w x c e k h = go (in_or_out k x) (in_or_out k c)
  where
    go : (bit k x ≡ 1) ⊎ (bit k x ≡ 0) → (bit k c ≡ 1) ⊎ (bit k c ≡ 0) → Up w (mark w x c k) (mark w x e k)
    go (inl i) j = inr (inl (mark_stone w x e k i))
    go (inr i) (inl j) = inl (mark_empty w x e k i (h k j) ∙ sym (mark_empty w x c k i j))
    go (inr i) (inr j) = inr (inr (mark_other w x c k i j))

-- a cell outside an intersection is outside one of the two
outside : (k x y : ℕ) → bit k (bit_and x y) ≡ 0 → (bit k x ≡ 0) ⊎ (bit k y ≡ 0)
outside k x y h = ⊎_elim (λ i. inr (omega (arith, bit_of_and k x y))) inl (in_or_out k x)

-- Side w, with stones on x: each of the free cells that need not be tried any more is answered by a win of w that leaves it out,
-- and rests within what is lost. It is the other's turn, and what it must try is cut down so.
pub record Tried (b : Board) (es : List ℕ) (w x free must lost : ℕ) : Type 0 where
  pub inside : Within lost free
  pub answered : (k : ℕ) → bit k free ≡ 1 → bit k must ≡ 0 → (c : ℕ) × (bit k c ≡ 0) × Within c lost × Wins b es w x c

module _ {b : Board} {es : List ℕ} (n : Numbered b es) (w : ℕ) (side : Side w) where
  -- What is forced within a carrier is forced on every board that is laid at least as well.
  pub forced_by : (x c : ℕ) {t : ℕ} {g : ℕ → ℕ} {d : Board} → Forces w (board_within b es w x c) t → Laid b es g d →
      ((k : ℕ) → k < length es → Up w (mark w x c k) (g k)) → Forces w d t
  forced_by x c {d = d} f ld up = better w side f d (laid_better w (laid n (mark w x c)) ld up)

  -- a carrier may be larger than it need be
  pub forced_more : (x c e : ℕ) {t : ℕ} → Within c e → Forces w (board_within b es w x c) t → Forces w (board_within b es w x e) t
  forced_more x c e h f = forced_by x c f (laid n (mark w x e)) (λ k _. mark_more w x c e k h)

  -- A win by a move after which the winner stands: the carrier is that of the stand, and the cell moved to.
  pub win : (x c k : ℕ) → k < length es → bit k x ≡ 0 → Stands b es w (x + 2 ^ k) c → Wins b es w x (bit_or c (2 ^ k))
  win x c k l out f =
      let e = bit_or c (2 ^ k) in
      let now = laid n (mark w x e) in
      let there : bit k (2 ^ k) ≡ 1 = ⊎_elim (λ p. p.1) (λ p. absurd (p.0 refl)) (bit_one k k) in
      let stone : bit k (x + 2 ^ k) ≡ 1 = ⊎_elim (λ p. p.1) (λ p. absurd (p.0 refl)) (bit_more k x out k) in
      let else : (j : ℕ) → j ≢ k → mark w (x + 2 ^ k) e j ≡ mark w x e j =
      λ j a. ⊎_elim (λ p. absurd (a p.0)) (λ p. mark_same w (x + 2 ^ k) x e e j p.1 refl) (bit_more k x out j) in
      mine (get_or es k 0) (omega (arith, now.long, n.inside k l)) (now.on k l ∙ mark_empty w x e k out (or_right k c (2 ^ k) there))
      (forced_by (x + 2 ^ k) c f (laid_put (mark w (x + 2 ^ k) e) k w n now l (mark_stone w (x + 2 ^ k) e k stone) else)
      (λ j _. mark_more w (x + 2 ^ k) c e j (λ i h. or_left i c (2 ^ k) h)))

  -- a win of w: only the cells of its carrier must be tried still
  pub tried_more : (x free must lost c : ℕ) → Tried b es w x free must lost → Within c free → Wins b es w x c →
      Tried b es w x free (bit_and must c) (bit_or lost c)
  tried_more x free must lost c h i f = record {
    inside = λ k j. ⊎_elim (h.inside k) (i k) (in_or k lost c j);
    answered = λ k j out. ⊎_elim
        (λ a. let (e, p, q, r) = h.answered k j a in (e, p, (λ m s. or_left m lost c (q m s)), r))
        (λ a. (c, a, (λ m s. or_right m lost c s), f))
        (outside k must c out);
  }

  -- the empty cells of such a board are those of the carrier that have no stone of w
  pub empty_is : (x c i : ℕ) → i < length (board_within b es w x c).cells → at (board_within b es w x c) i ≡ 0 →
      (k : ℕ) × (k < length es) × (get_or es k 0 ≡ i) × (bit k x ≡ 0) × (bit k c ≡ 1)
  empty_is x c i l z = go (where_is es i)
    where
      now : Laid b es (mark w x c) (board_within b es w x c)
      now = laid n (mark w x c)

      sort : (k : ℕ) → mark w x c k ≡ 0 → (bit k x ≡ 1) ⊎ (bit k x ≡ 0) → (bit k c ≡ 1) ⊎ (bit k c ≡ 0) → (bit k x ≡ 0) × (bit k c ≡ 1)
      sort k e (inl p) q = absurd (omega (arith, mark_stone w x c k p, side))
      sort k e (inr p) (inl q) = (p, q)
      sort k e (inr p) (inr q) = absurd (omega (arith, mark_other w x c k p q, side))

      go : ((k : ℕ) × (k < length es) × (get_or es k 0 ≡ i)) ⊎ ((k : ℕ) → k < length es → get_or es k 0 ≢ i) → (k : ℕ) × (k < length es) × (get_or es k 0 ≡ i) × (bit k x ≡ 0) × (bit k c ≡ 1)
      go (inl (k, m, same)) =
          let (p, q) = sort k (sym (now.on k m) ∙ ap (at (board_within b es w x c)) same ∙ z) (in_or_out k x) (in_or_out k c) in (k, m, same, p, q)
      go (inr out) =
          let (k, m, same) = n.all i (omega (arith, now.long)) (sym (now.off i out) ∙ z) in absurd (out k m same)

  -- nothing is left to try: w stands
  pub tried_all : (x free lost k : ℕ) → Tried b es w x free 0 lost → bit k free ≡ 1 → Stands b es w x lost
  tried_all x free lost k h i = go (empty_or_full now.cells)
    where
      now : Board
      now = board_within b es w x lost

      -- whatever the other does, there is a win that it has left out
      reply : (j : ℕ) → j < length es → bit j lost ≡ 1 → bit j x ≡ 0 → Forces w (put now (other w) (get_or es j 0)) w
      reply j l in-lost out =
          let (c, apart, within, f) = h.answered j (h.inside j in-lost) (bit_none j) in
          let less = bit_less j lost in-lost in
          forced_by x c f
          (laid_put (mark w x (lost - 2 ^ j)) j (other w) n (laid n (mark w x lost)) l
          (mark_other w x (lost - 2 ^ j) j out (⊎_elim (λ p. p.1) (λ p. absurd (p.0 refl)) (less j)))
          (λ m a. ⊎_elim (λ p. absurd (a p.0)) (λ p. mark_same w x x (lost - 2 ^ j) lost m refl p.1) (less m)))
          (λ m _. mark_more w x c (lost - 2 ^ j) m (λ q s. ⊎_elim (λ p. absurd (omega (arith, ap (λ r. bit r c) p.0))) (λ p. p.1 ∙ within q s) (less q)))

      go : EmptyIn now.cells ⊎ (empties now.cells ≡ 0) → Stands b es w x lost
      go (inr e) = let (c, apart, within, f) = h.answered k i (bit_none k) in has (other w) (full w (forced_more x c lost within f) e)
      go (inl (j, l, z)) =
          theirs (empty_counts now.cells j l z)
          (λ m p q. let (r, inside, same, out, in-lost) = empty_is x lost m p q in subst (λ i. Forces w (put now (other w) i) w) same (reply r inside in-lost out))
