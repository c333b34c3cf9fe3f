-- Never neither: the row of cells that the line leaves behind it is a way.
use Rattle.std.proofs.Common.{◌≡◌, ℕ, ◌+◌, ◌-◌, ◌*◌, ◌/◌, ◌%◌, ◌<◌, ◌≤◌, Bool, true, false, cond, eqb, ◌⊎◌, List, [], ◌∷◌, length, get_or, All, ⊎_elim, arith}
use mathlib.Core.Logic.{⊎_map, ⊎_swap}
use Rattle.std.proofs.lemmas.List.Elements.{All-get_or, All-from_get_or}
use Rattle.std.proofs.lemmas.Nat.{mul-add-lt, div-mul-add, mod-mul-add}
use Rattle.std.proofs.lemmas.Bool.Decides.{nat_tests}
use Rattle.hexboard.specs.Board.{Board, next_to, Connects, empties, other}
use Rattle.hexboard.specs.Promise.{Good, NeverNeither}
use Rattle.hexboard.specs.Shapes.{has_stone, leads_on, starts, finishes}
use Rattle.hexboard.proofs.Boards.{good_at}
use Rattle.theorems.proofs.Stones.{Side, against_other, either_way, empty_counts}
use Rattle.theorems.proofs.Leading.{LeadsOn, IsLed, on_from, row_from}
use Rattle.theorems.proofs.RhombusWays.{board_track, stone_from}
use Rattle.theorems.proofs.Ways.{to_board}
use Rattle.theorems.proofs.Cells.{Cell, Near, along}
use Rattle.theorems.proofs.Line.{On, Led, first, more, led_end, OnBoard, Across, one_connects}

-- the side that the line calls `true`, and the other
abbrev pub side : Bool → ℕ
side s = cond s 1 2

-- a cell's number on the board, whose rows and columns count from 1 for the line
unfoldable pub number : ℕ → Cell → ℕ
number w p = (p.row - 1) * w + (p.column - 1)

-- From the number, its row and column.
module _ (w : ℕ) (p : Cell) (h : 0 < p.column) (k : p.column ≤ w) where
  pub number_row : number w p / w ≡ p.row - 1
  unfolding number
  number_row = div-mul-add (p.row - 1) w (p.column - 1) (omega arith)

  pub number_column : number w p % w ≡ p.column - 1
  unfolding number
  number_column = mod-mul-add (p.row - 1) w (p.column - 1) (omega arith)

-- Cells that touch are next to each other.
touch : (w : ℕ) (p q : Cell) → 0 < p.row → 0 < q.row → 0 < p.column → 0 < q.column → p.column ≤ w → q.column ≤ w → Near p q →
    next_to w (number w p) (number w q) ≡ true
touch w p q hp hq kp kq lp lq near =
    let rp = number_row w p kp lp in
    let cp = number_column w p kp lp in
    let rq = number_row w q kq lq in
    let cq = number_column w q kq lq in
    grind (arith, nat_tests)

-- A cell of the board that is not of side 1 and not empty is of side 2.
of_side : (s : Bool) (x : ℕ) → x < 3 → (x ≡ 0 → ⊥) → eqb x 1 ≡ s → x ≡ side s
of_side s x h k e = grind (arith, nat_tests)

-- whether side 1 has the cell, on a board w wide
unfoldable pub colour : ℕ → List ℕ → Cell → Bool
colour w cells p = eqb (get_or cells (number w p) 0) 1

-- the cells of a board w wide and t tall, none of them empty: each is of side 1 or else of side 2
module _ (w t : ℕ) (cells : List ℕ) (long : length cells ≡ w * t) (stones : All (λ c. c < 3) cells) (none : empties cells ≡ 0) where
  -- No cell is empty, so each cell of a side has a stone of it.
  stone : (s : Bool) (p : Cell) → On (OnBoard w t) (colour w cells) s p → has_stone (side s) cells (number w p) ≡ true
  unfolding number colour
  stone s p on =
      let i = number w p in
      let h : i < length cells = omega (arith, long, mul-add-lt (p.row - 1) w (p.column - 1) t (omega arith) (omega arith)) in
      stone_from (side s) cells i h
      (of_side s (get_or cells i 0) (All-get_or (λ c. c < 3) cells i 0 h stones) (λ z. omega (arith, empty_counts cells i h z)) on.mine)

  -- The first row and column of the line are the first borders, the last ones the last.
  at_start : (s : Bool) (p : Cell) → On (OnBoard w t) (colour w cells) s p → along s p ≡ 1 → starts w (side s) (number w p) ≡ true
  at_start s p on e =
      let r = number_row w p on.left on.inside.1 in
      let c = number_column w p on.left on.inside.1 in
      grind (arith, nat_tests)

  at_finish : (s : Bool) (p : Cell) → On (OnBoard w t) (colour w cells) s p → along s p ≡ cond s t w → finishes w t (side s) (number w p) ≡ true
  at_finish s p on e =
      let r = number_row w p on.left on.inside.1 in
      let c = number_column w p on.left on.inside.1 in
      grind (arith, nat_tests)

  -- A row of cells from the first border, and what goes on from its last, are a way.
  led_way : (s : Bool) {p : Cell} → Led (OnBoard w t) (colour w cells) s p → (js : List ℕ) →
      LeadsOn (board_track w t (side s) cells) (number w p) js → IsLed (board_track w t (side s) cells)
  led_way s (first {p} on e) js go =
      (number w p ∷ js, row_from (board_track w t (side s) cells) (number w p) js (at_start s p on e) (stone s p on) go)
  led_way s (more {p} {q} led near on) js go =
      let o = led_end (OnBoard w t) (colour w cells) s led in
      led_way s led (number w q ∷ js)
      (on_from (board_track w t (side s) cells) (number w p) (number w q) js
      (touch w p q o.top on.top o.left on.left o.inside.1 on.inside.1 near) (stone s q on) go)

  -- A row of cells to the last border is a way.
  pub across_way : (s : Bool) → Across w t (colour w cells) s → IsLed (board_track w t (side s) cells)
  unfolding leads_on
  across_way s (p, led, e) = led_way s led [] (at_finish s p (led_end (OnBoard w t) (colour w cells) s led) e)

  -- Never neither: the line between the two sides' cells ends at the last border of one of them.
  pub one_leads : 0 < w → 0 < t → IsLed (board_track w t 1 cells) ⊎ IsLed (board_track w t 2 cells)
  one_leads hw ht = ⊎_map (across_way true) (across_way false) (one_connects w t (colour w cells) hw ht)

-- Boards n wide and n tall are among them.
pub never_neither_lem : NeverNeither
unfolding NeverNeither
never_neither_lem b g none =
    ⊎_map (to_board b 1) (to_board b 2)
    (one_leads b.wide b.wide b.cells g.1 (All-from_get_or (λ c. c < 3) b.cells 0 (λ i _. good_at b i g)) none g.0 g.0)

-- On a full board, who has not connected has lost.
pub else_other : (b : Board) (s : ℕ) → Good b → Side s → empties b.cells ≡ 0 → (Connects b s → ⊥) → Connects b (other s)
unfolding NeverNeither
else_other b s g side none not =
    let one = never_neither_lem b g none in
    ⊎_elim (λ w. absurd (not w)) (λ w. w) (either_way (λ x y. Connects b x ⊎ Connects b y) s (other s) (against_other s side) one (⊎_swap one))
