-- Why one cell of each pair is enough: the line between the sides' cells is followed until it leaves the triangle above the rising
-- diagonal. There a cell that side 1 leads to from the top lies above the partner of one that side 2 leads to from the left, and the
-- partners of side 2's cells lead side 1 on to the bottom.
use Rattle.std.proofs.Common.{◌≡◌, ℕ, ◌+◌, ◌-◌, ◌<◌, ◌≤◌, Bool, true, false, ◌⊎◌, ap, inl, inr, ⊎_elim, arith}
use Rattle.std.proofs.lemmas.Bool.{cases_lt}
use Rattle.theorems.proofs.Numbers.{zero_or_more}
use Rattle.theorems.proofs.Cells.{Cell, Near, turn_near, ahead}
use Rattle.theorems.proofs.Line.{Place, On, Led, first, more, led_end, OnLine, near_one, near_two, leaves, OnBoard, Across}

-- For the line rows and columns count from 1. Above the rising diagonal from the foot of the left column, t rows down, the ring too:
abbrev pub Above : ℕ → Cell → Type 0
Above t p = p.row + p.column ≤ t + 1

abbrev Below : ℕ → Cell → Type 0
Below t p = t + 1 < p.row + p.column

-- the partner of a cell above the diagonal
abbrev pub mate : ℕ → Cell → Cell
mate t p = record { row = t + 1 - p.column; column = t + 2 - p.row }

-- Cells that touch have partners that touch.
near_mate : (t : ℕ) (p q : Cell) → 0 < p.row → 0 < p.column → 0 < q.row → 0 < q.column → Above t p → Above t q → Near p q → Near (mate t p) (mate t q)
near_mate t p q pr pc qr qc ap aq n = omega arith

-- a board t tall and wider than tall, where the partner of each cell of side 2 above the diagonal is of side 1
module _ (w t : ℕ) (pos : 0 < t) (wider : t < w) (colour : Cell → Bool)
    (paired : (p : Cell) → 0 < p.row → 0 < p.column → Above t p → colour p ≡ false → colour (mate t p) ≡ true) where
  -- What is led to above the diagonal is led to on the board.
  lifted : {p : Cell} → Led (Above t) colour true p → Led (OnBoard w t) colour true p
  lifted (first on e) = first (record { mine = on.mine; inside = omega (arith, on); top = on.top; left = on.left }) e
  lifted (more led near on) = more (lifted led) near (record { mine = on.mine; inside = omega (arith, on); top = on.top; left = on.left })

  -- The partner of side 2's cell is of side 1.
  on_mate : (p : Cell) → On (Above t) colour false p → On (OnBoard w t) colour true (mate t p)
  on_mate p on = record {
    mine = paired p on.top on.left on.inside on.mine;
    inside = omega (arith, on.inside, on.top, on.left);
    top = omega (arith, on.inside, on.top, on.left);
    left = omega (arith, on.inside, on.top, on.left);
  }

  -- Once side 1 leads to the partner of a cell that side 2 leads to from the left, it goes on by partners to the bottom.
  goes_down : {p : Cell} → Led (Above t) colour false p → Led (OnBoard w t) colour true (mate t p) → Across w t colour true
  goes_down (first {p} on e) led = (mate t p, led, omega (arith, e))
  goes_down (more {p} {q} before near on) led =
      let o = led_end (Above t) colour false before in
      goes_down before
      (more led (near_mate t q p on.top on.left o.top o.left on.inside o.inside (turn_near p q near)) (on_mate p o))

  -- The line leaves the triangle between two cells on its long side, side 1's in the row above.
  module _ (l : Place) (h : OnLine (Above t) colour l) (o : Below t (ahead l.one l.two)) where
    corner : (l.one.row + l.one.column ≡ t + 1) × (l.two.row ≡ l.one.row + 1) × (l.one.column ≡ l.two.column + 1)
    corner =
        let n = near_one (Above t) colour l h in
        let m = near_two (Above t) colour l h in
        omega (arith, h.near, n, m, h.ones.inside, h.twos.inside, h.ones.off, h.twos.off, o)

    -- Side 2's is of the left ring: then side 1's is in the bottom row.
    at_bottom : l.two.column ≡ 0 → Across w t colour true
    at_bottom e =
        let c = corner in
        (l.one, lifted (h.ones.led (omega arith)), omega arith)

    -- Else side 1 leads to the partner of side 2's cell: from the top, or from its own cell above.
    below : 0 < l.two.column → Across w t colour true
    below left = go (zero_or_more l.one.row)
      where
        two : Led (Above t) colour false l.two
        two = h.twos.led left

        there : On (OnBoard w t) colour true (mate t l.two)
        there = on_mate l.two (led_end (Above t) colour false two)

        go : (l.one.row ≡ 0) ⊎ (0 < l.one.row) → Across w t colour true
        go (inl top) = let c = corner in goes_down two (first there (omega arith))
        go (inr under) =
            let c = corner in
            let near : Near l.one (mate t l.two) = omega arith in
            goes_down two (more (lifted (h.ones.led under)) near there)

    connects : Across w t colour true
    connects = ⊎_elim at_bottom below (zero_or_more l.two.column)

  -- So side 1 connects.
  pub one_crosses : Across w t colour true
  one_crosses =
      let e = leaves (Above t) colour (t + 1) (t + 1) (λ p i. omega arith) (Below t) sorted (omega arith) (omega arith) in
      connects e.place e.on_line e.out
    where
      sorted : (p : Cell) → Above t p ⊎ Below t p
      sorted p = ⊎_elim (λ b. inr b) (λ a. inl a) (cases_lt (t + 1) (p.row + p.column))
