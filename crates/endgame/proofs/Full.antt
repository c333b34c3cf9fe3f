-- While nobody has connected there is a free cell: on a full board somebody has.
use Rattle.std.proofs.Common.{◌≡◌, ℕ, zero, suc, ◌+◌, ◌<◌, ◌⊎◌, List, [], ◌∷◌, sym, subst, inl, inr, arith}
use Rattle.hexboard.specs.Board.{Board, Connects, empties, other}
use Rattle.hexboard.specs.Promise.{Good, NeverNeither}
use Rattle.hexboard.proofs.Boards.{other_side, good_set}
use Rattle.ranking.specs.Sets.{bit}
use Rattle.ranking.proofs.Bits.{lowest_in, bit_none, in_or_out}
use Rattle.theorems.proofs.Stones.{Side, EmptyIn, empty_or_full}
use Rattle.theorems.proofs.Better.{better_connects}
use Rattle.theorems.proofs.NeverNeither.{never_neither_lem}
use Rattle.endgame.specs.declared.links.Links.{Links}
use Rattle.endgame.specs.Floods.{Joins}
use Rattle.endgame.specs.Ends.{lay, mark, board_within, Node, Ending}
use Rattle.endgame.proofs.Carried.{mark_stone, mark_other, mark_empty, empty_is}
use Rattle.endgame.proofs.Laying.{laid, laid_better}

-- a good board laid with stones is good
good_lay : (b : Board) (f : ℕ → ℕ) (es : List ℕ) → ((k : ℕ) → f k < 3) → Good b → Good (lay b f es)
unfolding lay
good_lay b f [] h g = g
good_lay b f (e ∷ es) h g = good_set (lay b (λ k. f (suc k)) es) (f 0) e (h 0) (good_lay b (λ k. f (suc k)) es (λ k. h (suc k)) g)

mark_small : (w x c k : ℕ) → Side w → mark w x c k < 3
mark_small w x c k side = go (in_or_out k x) (in_or_out k c)
  where
    go : (bit k x ≡ 1) ⊎ (bit k x ≡ 0) → (bit k c ≡ 1) ⊎ (bit k c ≡ 0) → mark w x c k < 3
    go (inl i) j = omega (arith, mark_stone w x c k i, side)
    go (inr i) (inl j) = omega (arith, mark_empty w x c k i j)
    go (inr i) (inr j) = omega (arith, mark_other w x c k i j, side)

module _ {e : ℕ} {b : Board} {es : List ℕ} {s : ℕ} {mine theirs : Links} (end : Ending e b es s mine theirs) where
  -- with no cell free, the board on which the one side's stones are judged is that of the other's
  same_board : {x y : ℕ} → Node e x y 0 → Connects (board_within b es s x 0) (other s) → Connects (board_within b es (other s) y 0) (other s)
  same_board {x} {y} n =
      better_connects (other s) (other_side s end.side) (board_within b es s x 0) (board_within b es (other s) y 0)
      (laid_better (other s) (laid end.numbered (mark s x 0)) (laid end.numbered (mark (other s) y 0)) (λ k l. inl (alike k (n.each k (omega (arith, end.many))) (in_or_out k x))))
    where
      alike : (k : ℕ) → bit k x + (bit k y + bit k 0) ≡ 1 → (bit k x ≡ 1) ⊎ (bit k x ≡ 0) → mark (other s) y 0 k ≡ mark s x 0 k
      alike k sum (inl i) = omega (arith, mark_stone s x 0 k i, mark_other (other s) y 0 k (omega (arith, bit_none k)) (bit_none k), end.side)
      alike k sum (inr i) = omega (arith, mark_other s x 0 k i (bit_none k), mark_stone (other s) y 0 k (omega (arith, bit_none k)))

  -- nobody has connected, so the board is not full
  not_full : {x y : ℕ} → Node e x y 0 → (Joins mine x → ⊥) → (Joins theirs y → ⊥) → ⊥
  unfolding NeverNeither
  not_full {x} {y} n apart-mine apart-theirs = who end.side (never_neither_lem (board_within b es s x 0) (good_lay b (mark s x 0) es (λ k. mark_small s x 0 k end.side) end.good) (none (empty_or_full (board_within b es s x 0).cells)))
    where
      none : EmptyIn (board_within b es s x 0).cells ⊎ (empties (board_within b es s x 0).cells ≡ 0) → empties (board_within b es s x 0).cells ≡ 0
      none (inr z) = z
      none (inl (i, l, z)) = let (k, m, same, out, in-none) = empty_is end.numbered s end.side x 0 i l z in absurd (omega (arith, bit_none k))

      own : Connects (board_within b es s x 0) s → ⊥
      own c = apart-mine (end.own.joins x n.position.mine_fits c)

      others : Connects (board_within b es s x 0) (other s) → ⊥
      others c = apart-theirs (end.others.joins y n.position.theirs_fits (same_board n c))

      who : Side s → Connects (board_within b es s x 0) 1 ⊎ Connects (board_within b es s x 0) 2 → ⊥
      who (inl one) (inl c) = own (subst (Connects (board_within b es s x 0)) (sym one) c)
      who (inl one) (inr c) = others (subst (Connects (board_within b es s x 0)) (omega arith) c)
      who (inr two) (inl c) = others (subst (Connects (board_within b es s x 0)) (omega arith) c)
      who (inr two) (inr c) = own (subst (Connects (board_within b es s x 0)) (sym two) c)

  pub some_free : {x y : ℕ} (free : ℕ) → Node e x y free → (Joins mine x → ⊥) → (Joins theirs y → ⊥) → (k : ℕ) × (bit k free ≡ 1)
  some_free zero n apart-mine apart-theirs = absurd (not_full n apart-mine apart-theirs)
  some_free (suc f) n apart-mine apart-theirs = (_, (lowest_in e (suc f) (omega arith) n.free_fits).0)
