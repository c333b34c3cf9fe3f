-- Never both: the ways of the two sides would be walks that do not cross.
use Rattle.std.proofs.Common.{◌≡◌, ℕ, ◌+◌, ◌*◌, ◌/◌, ◌%◌, ◌<◌, true, List, [], ◌∷◌, length, get_or, subst, arith}
use Rattle.std.proofs.lemmas.Nat.{div_below, mod_below, div-add-mod'}
use Rattle.std.proofs.lemmas.Bool.{eqb-true, false≢true}
use Rattle.std.proofs.lemmas.Bool.Decides.{nat_tests}
use Rattle.hexboard.specs.Board.{Board, next_to, Connects}
use Rattle.hexboard.specs.Promise.{Good, NeverBoth}
use Rattle.hexboard.specs.Shapes.{has_stone, leads_on, leads, starts, finishes}
use Rattle.theorems.proofs.Stones.{Against, either_way}
use Rattle.theorems.proofs.Leading.{LeadsOn, Leads, IsLed, on_parts, row_parts}
use Rattle.theorems.proofs.RhombusWays.{board_track, stone_parts}
use Rattle.theorems.proofs.Ways.{of_board}
use Rattle.theorems.proofs.Crossing.{Next, Walk, stop, step, Bottom, Right, crossing}

-- Cells that are next to each other touch.
next_from : (w i j : ℕ) → next_to w i j ≡ true → Next (i / w) (i % w) (j / w) (j % w)
next_from w i j e = grind (arith, nat_tests)

-- a board w wide and t tall
module _ (w t : ℕ) (cells : List ℕ) (pos : 0 < w) (long : length cells ≡ w * t) where
  -- a stone of side s in row a and column j
  abbrev Of : ℕ → ℕ → ℕ → Type 0
  Of s a j = (get_or cells (a * w + j) 0 ≡ s) × (a < t) × (j < w)

  -- a side whose last border is where Z holds
  module _ (s : ℕ) (Z : ℕ → ℕ → Type 0) (last : (i : ℕ) → finishes w t s i ≡ true → Z (i / w) (i % w)) where
    -- A stone is in its row and column.
    of_stone : (i : ℕ) → has_stone s cells i ≡ true → Of s (i / w) (i % w)
    of_stone i o =
        let h = stone_parts s cells i o in
        (rw div-add-mod' h.1, div_below i w t pos (omega (arith, long, h.0)), mod_below i w pos)

    -- What leads on to the last border is a walk there.
    walk_on : (i : ℕ) (js : List ℕ) → has_stone s cells i ≡ true → LeadsOn (board_track w t s cells) i js → Walk (Of s) Z (i / w) (i % w)
    unfolding leads_on
    walk_on i [] o e = stop (of_stone i o) (last i e)
    walk_on i (j ∷ js) o e =
        let p = on_parts (board_track w t s cells) i j js e in
        step (of_stone i o) (next_from w i j p.0) (walk_on j js p.1 p.2)

    -- A way is a walk from the first border to the last.
    walk : (is : List ℕ) → Leads (board_track w t s cells) is → (i : ℕ) × (starts w s i ≡ true) × Walk (Of s) Z (i / w) (i % w)
    unfolding leads
    walk [] e = absurd (false≢true e)
    walk (i ∷ is) e = let p = row_parts (board_track w t s cells) i is e in (i, p.0, walk_on i is p.1 p.2)

  -- Side 1 walks from row 0 to the bottom row.
  down_walk : IsLed (board_track w t 1 cells) → (j : ℕ) × Walk (Of 1) (Bottom t) 0 j
  down_walk way =
      let (i, top, p) = walk 1 (Bottom t) (λ i e. eqb-true (i / w + 1) t e) way.0 way.1 in
      (i % w, subst (λ a. Walk (Of 1) (Bottom t) a (i % w)) (eqb-true (i / w) 0 top) p)

  -- Side 2 walks from column 0 to the right column.
  right_walk : IsLed (board_track w t 2 cells) → (a : ℕ) × Walk (Of 2) (Right w) a 0
  right_walk way =
      let (i, left, p) = walk 2 (Right w) (λ i e. eqb-true (i % w + 1) w e) way.0 way.1 in
      (i / w, subst (λ j. Walk (Of 2) (Right w) (i / w) j) (eqb-true (i % w) 0 left) p)

  -- Never both: the two walks would have to cross, and no cell is of both sides.
  pub never_both_on : IsLed (board_track w t 1 cells) → IsLed (board_track w t 2 cells) → ⊥
  never_both_on v u =
      crossing w t (Of 1) (Of 2) (λ a j h. (h.1, h.2)) (λ a j h. (h.1, h.2)) (λ a j p q. omega arith) (down_walk v).1 (right_walk u).1

-- Boards n wide and n tall are among them.
pub never_both : NeverBoth
unfolding NeverBoth
never_both b g v w = never_both_on b.wide b.wide b.cells g.0 g.1 (of_board b 1 v) (of_board b 2 w)

-- Never both, for the sides in either order.
pub never_both_of : (b : Board) (s r : ℕ) → Against s r → Good b → Connects b s → Connects b r → ⊥
unfolding NeverBoth
never_both_of b s r a g = either_way (λ x y. Connects b x → Connects b y → ⊥) s r a (never_both b g) (λ v w. never_both b g w v)
