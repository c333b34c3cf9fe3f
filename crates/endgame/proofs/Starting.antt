-- The beginning of an end, with all its cells free: what the search tells there is so of the board itself.
use Rattle.std.proofs.Common.{◌≡◌, ℕ, zero, suc, ◌+◌, ◌-◌, ◌*◌, ◌/◌, ◌^◌, ◌<◌, ◌≤◌, Some, eqb, ◌⊎◌, List, length, get_or, sym, refl, ◌∙◌, subst, inl, inr, ⊎_elim, mul-le-mul, pow-suc, arith, pow_pos, if◌then◌else◌}
use Rattle.std.proofs.lemmas.Bool.{cases_lt, eq-eqb, ne_eqb}
use Rattle.std.proofs.lemmas.Bool.Decides.{nat_tests}
use Rattle.hexboard.specs.Board.{Board, at, Connects, put, other}
use Rattle.hexboard.specs.Games.{Forces}
use Rattle.hexboard.specs.Promise.{Good}
use Rattle.hexboard.proofs.Boards.{other_side}
use Rattle.ranking.specs.Positions.{choose, count, start, total, place}
use Rattle.ranking.specs.Sets.{bit}
use Rattle.ranking.specs.Table.{entry}
use Rattle.ranking.proofs.Bits.{bit_none, bit_more, in_or_out, cell_below}
use Rattle.ranking.proofs.Ranks.{total_wider, total_most}
use Rattle.theorems.proofs.Better.{Up}
use Rattle.theorems.proofs.NotBoth.{not_both}
use Rattle.theorems.proofs.Stones.{Side, against_other}
use Rattle.endgame.specs.declared.links.Links.{Links}
use Rattle.endgame.specs.Ends.{Numbered}
use Rattle.endgame.specs.Floods.{Joins}
use Rattle.endgame.specs.Linked.{Linked}
use Rattle.endgame.specs.declared.search.Found.{Found}
use Rattle.endgame.specs.declared.search.Found.TheVariants.{Won, Lost}
use Rattle.endgame.specs.Ends.{mark, Stands, Node, Ending, IsSound, unknown, IsTold, Tells}
use Rattle.endgame.specs.Searched.{TellsWinner}
use Rattle.endgame.specs.Verdicts.{bytes_of_table}
use Rattle.endgame.proofs.Carried.{mark_empty, mark_other, forced_by}
use Rattle.endgame.proofs.Law.{describes}
use Rattle.endgame.proofs.Laying.{Laid, laid_put}

-- all of e cells
all_in : (e k : ℕ) → k < e → bit k (2 ^ e - 1) ≡ 1
unfolding bit
all_in zero k l = absurd (omega arith)
all_in (suc e) zero l = let some : 0 < 2 ^ e = pow_pos e in omega (arith, pow-suc 2 e)
all_in (suc e) (suc k) l =
    let some : 0 < 2 ^ e = pow_pos e in
    let half : (2 ^ suc e - 1) / 2 ≡ 2 ^ e - 1 = omega (arith, pow-suc 2 e) in rw half (all_in e k (omega arith))

-- at first no stone is laid, and every cell is free
pub node_first : (e : ℕ) → Node e 0 0 (2 ^ e - 1)
node_first e = record {
  position = record { mine_fits = pow_pos e; theirs_fits = pow_pos e; apart = λ k. omega (arith, bit_none k); turn = inl refl };
  free_fits = let some : 0 < 2 ^ e = pow_pos e in omega arith;
  each = λ k l. omega (arith, bit_none k, all_in e k l);
}

-- a table that says nothing says nothing wrong
sound_first : {e : ℕ} {b : Board} {es : List ℕ} {a : ℕ} (t : List ℕ) → ((i : ℕ) → entry t i ≡ 0) → IsSound e b es a t
sound_first {e} t nothing s x y free turn node = unknown (nothing (place e x y))

-- no stones join no borders
no_stones : (l : Links) → Joins l 0 → ⊥
no_stones l j = omega (arith, j.stone, bit_none j.cell)

pub looked_first : (e : ℕ) (mine theirs : Links) (t u : List ℕ) (f : Found) → ((i : ℕ) → entry t i ≡ 0) →
    Tells e mine theirs (record { mine = 0; theirs = 0; free = 2 ^ e - 1 }) t u f → TellsWinner e mine theirs f
looked_first e mine theirs t u f nothing h b es s end =
    (h.of b es s s end (inl (refl, refl)) (no_stones mine) (no_stones theirs) (sound_first t nothing)).0

module _ {b : Board} {es : List ℕ} (n : Numbered b es) where
  -- the board as it is, with its cells empty
  laid_empty : Laid b es (λ k. 0) b
  laid_empty = record { wide = refl; long = refl; on = λ k l. n.empty k l; off = λ i out. refl }

  -- what w has with no stones laid, whatever the carrier, it has on the board
  pub whole : (w c : ℕ) → Side w → Stands b es w 0 c → Forces w b (other w)
  whole w c side f = forced_by n w side 0 c f laid_empty (λ k l. up k (in_or_out k c))
    where
      up : (k : ℕ) → (bit k c ≡ 1) ⊎ (bit k c ≡ 0) → Up w (mark w 0 c k) 0
      up k (inl i) = inl (sym (mark_empty w 0 c k (bit_none k) i))
      up k (inr i) = inr (inr (mark_other w 0 c k (bit_none k) i))

  -- and what it has with a stone on one of the cells, after a move there
  pub after_step : (w k c : ℕ) → Side w → k < length es → Stands b es w (0 + 2 ^ k) c → Forces w (put b w (get_or es k 0)) (other w)
  after_step w k c side l f =
      forced_by n w side (0 + 2 ^ k) c f
      (laid_put (λ j. if eqb j k then w else 0) k w n laid_empty l (rw (eq-eqb k k refl)) (λ j apart. rw (ne_eqb j k apart)))
      (λ j m. ⊎_elim
      (λ (same, in-x). inr (inl (rw (eq-eqb j k same))))
      (λ (apart, out). ⊎_elim
      (λ i. inl (rw (ne_eqb j k apart) (sym (mark_empty w (0 + 2 ^ k) c j (out ∙ bit_none j) i))))
      (λ i. inr (inr (mark_other w (0 + 2 ^ k) c j (out ∙ bit_none j) i)))
      (in_or_out j c))
      (bit_more k 0 (bit_none k) j))

-- An end of a game from the links that tell what the stones of both sides make of its empty cells.
pub ending : {b : Board} {es : List ℕ} {s : ℕ} {mine theirs : Links} → Good b → Side s → Numbered b es → Linked b es s mine → Linked b es (other s) theirs →
    (Connects b s → ⊥) → (Connects b (other s) → ⊥) → Ending (length es) b es s mine theirs
ending {b} {es} {s} {mine} {theirs} good side n own others apart apart-too = record {
  good = good;
  side = side;
  many = refl;
  numbered = n;
  own = describes n s side mine own apart;
  others = describes n (other s) (other_side s side) theirs others apart-too;
}

-- The search says that the side to move loses: it cannot force.
pub not_forced : {e : ℕ} {b : Board} {es : List ℕ} {s : ℕ} {mine theirs : Links} (carrier : ℕ) → Ending e b es s mine theirs → IsTold b es s 0 0 (2 ^ e - 1) (Lost carrier) →
    Forces s b s → ⊥
not_forced {b = b} {s = s} carrier end told can =
    let back : other (other s) ≡ s = omega (arith, end.side) in
    not_both s can (other s) (against_other s end.side) end.good
    (subst (Forces (other s) b) back (whole end.numbered (other s) carrier (other_side s end.side) told))

-- It names a move: that is to an empty cell, and then the side can force.
pub forced_by_move : {e : ℕ} {b : Board} {es : List ℕ} {s : ℕ} {mine theirs : Links} (carrier k : ℕ) → Ending e b es s mine theirs →
    IsTold b es s 0 0 (2 ^ e - 1) (Won carrier (Some k)) → (get_or es k 0 < length b.cells) × (at b (get_or es k 0) ≡ 0) × Forces s (put b s (get_or es k 0)) (other s)
forced_by_move {e} {es = es} {s = s} carrier k end told =
    let step = told.1 in
    let l = cell_below e k (2 ^ e - 1) (node_first e).free_fits step.of in
    let inside : k < length es = omega (arith, end.many) in
    (end.numbered.inside k inside, end.numbered.empty k inside, after_step end.numbered s k step.carrier end.side inside step.stands)

-- The table has room for all positions of an end on a board n wide.
total_9 : total 9 ≡ 6046
unfolding start count choose
total_9 = refl

pub enough : (n e : ℕ) → e ≤ 16 → e ≤ n * n → total e ≤ 4 * bytes_of_table n
enough n e few inside = ⊎_elim
    (λ l. let narrow : n ≤ 3 = omega arith in
    let small : e + (9 - e) ≡ 9 = omega (arith, mul-le-mul narrow narrow) in
    let bytes : bytes_of_table n ≡ 1512 = grind (arith, nat_tests) in
    omega (arith, total_9, rw small at (total_wider e (9 - e))))
    (λ l. let bytes : bytes_of_table n ≡ 2541445 = grind (arith, nat_tests) in omega (arith, total_most e few))
    (cases_lt n 4)
