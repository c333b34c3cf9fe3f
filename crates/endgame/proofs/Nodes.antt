-- Nodes of the search: the one after a move, whose turn it is there, and when two are the same.
use Rattle.std.proofs.Common.{◌≡◌, ℕ, ◌+◌, ◌-◌, ◌^◌, ◌<◌, sym, ap, ◌∙◌, inl, inr, ⊎_elim, arith}
use Rattle.std.proofs.lemmas.Bool.{cases_lt}
use Rattle.hexboard.specs.Board.{other}
use Rattle.ranking.specs.Sets.{bit}
use Rattle.ranking.proofs.Bits.{bit_more, bit_less, cell_below, more_below, none_above, ones_more, same_set}
use Rattle.theorems.proofs.Stones.{Side}
use Rattle.endgame.specs.Ends.{Node, Turn}

module _ {e x y free : ℕ} (n : Node e x y free) where
  -- a free cell has no stone
  pub no_stone : (k : ℕ) → bit k free ≡ 1 → (k < e) × (bit k x ≡ 0) × (bit k y ≡ 0)
  no_stone k h = let l = cell_below e k free n.free_fits h in (l, omega (arith, n.each k l), omega (arith, n.each k l))

  -- after a move the other is to move
  pub node_after : (k : ℕ) → bit k free ≡ 1 → Node e y (x + 2 ^ k) (free - 2 ^ k)
  node_after k h =
      let (l, px, py) = no_stone k h in
      let more = bit_more k x px in
      let less = bit_less k free h in
      let fewer = ones_more k x px in
      record {
        position = record {
          mine_fits = n.position.theirs_fits;
          theirs_fits = more_below e k x l n.position.mine_fits px;
          apart = λ j. ⊎_elim (λ p. omega (arith, p.1, ap (λ i. bit i y) p.0)) (λ p. omega (arith, p.1, n.position.apart j)) (more j);
          turn = ⊎_elim (λ p. inr (omega arith)) (λ p. inl (omega arith)) n.position.turn;
        };
        free_fits = omega (arith, n.free_fits);
        each = λ j m. ⊎_elim
            (λ p. ⊎_elim (λ q. omega (arith, p.1, q.1, ap (λ i. bit i y) p.0)) (λ q. absurd (q.0 p.0)) (less j))
            (λ p. ⊎_elim (λ q. absurd (p.0 q.0)) (λ q. omega (arith, p.1, q.1, n.each j m)) (less j))
            (more j);
      }

  -- two nodes with the same stones have the same cells free
  pub same_free : (other-free : ℕ) → Node e x y other-free → other-free ≡ free
  same_free f m = same_set e f free m.free_fits n.free_fits (λ k. ⊎_elim (λ l. omega (arith, m.each k l, n.each k l)) (λ l. none_above e k f m.free_fits l ∙ sym (none_above e k free n.free_fits l)) (cases_lt k e))

-- whose turn it is after a move
pub turn_after : (a s x y k : ℕ) → Side s → bit k x ≡ 0 → Turn a s x y → Turn a (other s) y (x + 2 ^ k)
turn_after a s x y k side out (inl (same, is)) = inr (omega (arith, ones_more k x out), omega arith)
turn_after a s x y k side out (inr (fewer, is)) = inl (omega (arith, ones_more k x out), omega arith)

-- and by the stones it is one side's only
pub turn_once : (a s r x y : ℕ) → Turn a s x y → Turn a r x y → s ≡ r
turn_once a s r x y (inl p) (inl q) = omega arith
turn_once a s r x y (inl p) (inr q) = absurd (omega arith)
turn_once a s r x y (inr p) (inl q) = absurd (omega arith)
turn_once a s r x y (inr p) (inr q) = omega arith
