-- Along the line between the two sides' cells: where no cell is empty it ends by leaving the region, whatever that is. On a board it
-- leaves past a last border, and there a side has connected.
use Rattle.std.proofs.Common.{◌≡◌, ℕ, ◌+◌, ◌*◌, ◌<◌, ◌≤◌, Bool, true, false, cond, not, eqb, ◌⊎◌, sym, refl, ap, ◌∙◌, subst, inl, inr, ⊎_elim, arith}
use mathlib.Core.Logic.{⊎_map}
use Rattle.std.proofs.lemmas.Nat.{mul-add-lt}
use Rattle.std.proofs.lemmas.Bool.{cases_lt}
use Rattle.std.proofs.lemmas.Bool.Decides.{nat_tests}
use Rattle.theorems.proofs.Numbers.{zero_or_more, pair_same}
use Rattle.theorems.proofs.MustEnd.{must_end}
use Rattle.theorems.proofs.Cells.{Cell, same_cell, Near, turn_near, ahead, ahead_off, ahead_of_one, ahead_of_two, one_behind, two_behind, along, one_along}

-- the line is followed by pairs of cells that touch: one of side 1, one of side 2
pub record Place : Type 0 where
  pub one : Cell
  pub two : Cell

-- It starts at the corner where the first borders of both sides meet: between a cell of row 0 and one of column 0.
abbrev pub begin : Place
begin = record { one = record { row = 0; column = 1 }; two = record { row = 1; column = 0 } }

-- A region, each of whose cells is of side 1 (`true`) or of side 2 (`false`). Row 0 of it belongs to side 1 and column 0 to side 2,
-- whatever their colour: they are a ring at the first borders.
module _ (In : Cell → Type 0) (colour : Cell → Bool) where
  -- a cell of the region, off the ring, of side s
  pub record On (s : Bool) (p : Cell) : Type 0 where
    pub mine : colour p ≡ s
    pub inside : In p
    pub top : 0 < p.row
    pub left : 0 < p.column

  -- A row of own cells leads here from the side's first border.
  pub data Led (s : Bool) : Cell → Type 0 where
    first : {p : Cell} → On s p → along s p ≡ 1 → Led s p
    more : {p q : Cell} → Led s p → Near p q → On s q → Led s q

  -- What is led to is a cell of the region, and one's own.
  pub led_end : (s : Bool) {p : Cell} → Led s p → On s p
  led_end s (first on _) = on
  led_end s (more _ _ on) = on

  -- the sides of the region's cells and of the ring's
  pub ringed : Cell → Bool
  ringed p = cond (eqb p.row 0) true (cond (eqb p.column 0) false (colour p))

  -- The line passes a cell of side s here: in the region, off the corner (0, 0), and led to unless it is in the ring.
  pub record Stands (s : Bool) (p : Cell) : Type 0 where
    pub mine : ringed p ≡ s
    pub inside : In p
    pub off : 0 < along (not s) p
    pub led : 0 < along s p → Led s p

  -- on the line: cells of both sides that touch
  pub record OnLine (l : Place) : Type 0 where
    pub ones : Stands true l.one
    pub twos : Stands false l.two
    pub near : Near l.one l.two

  -- A cell of side 1 is not in column 0, and one of side 2 not in row 0.
  off_corner : (s : Bool) (p : Cell) → ringed p ≡ s → 0 < p.row + p.column → 0 < along (not s) p
  unfolding ringed
  off_corner s p e h = grind (arith, nat_tests)

  -- Off the ring a cell has its own colour.
  off_ring : (s : Bool) (p : Cell) → ringed p ≡ s → 0 < along s p → 0 < along (not s) p → (colour p ≡ s) × (0 < p.row) × (0 < p.column)
  unfolding ringed
  off_ring s p e h k = grind (arith, nat_tests)

  -- From a cell that is led to, or of the ring, every own cell that touches it is led to.
  led_on : (s : Bool) (p q : Cell) → Stands s p → Near p q → ringed q ≡ s → In q → 0 < q.row + q.column → Stands s q
  led_on s p q h n e i m =
      let o = off_corner s q e m in
      record {
        mine = e;
        inside = i;
        off = o;
        led = λ a. let (c, t, l) = off_ring s q e a o in
            go (record { mine = c; inside = i; top = t; left = l }) (zero_or_more (along s p)) a;
      }
    where
      go : On s q → (along s p ≡ 0) ⊎ (0 < along s p) → 0 < along s q → Led s q
      go on (inl z) a = first on (one_along s p q n z a)
      go on (inr a) _ = more (h.led a) n on

  -- A cell that touches both takes the place of the one that has its side.
  replaced : Place → Cell → Place
  replaced l x = cond (ringed x) (record { one = x; two = l.two }) (record { one = l.one; two = x })

  -- A cell of side 1 is then at the left hand, one of side 2 at the right.
  replaced_one : (l : Place) (x : Cell) → ringed x ≡ true → replaced l x ≡ record { one = x; two = l.two }
  unfolding replaced
  replaced_one l x e = rw e

  replaced_two : (l : Place) (x : Cell) → ringed x ≡ false → replaced l x ≡ record { one = l.one; two = x }
  unfolding replaced
  replaced_two l x e = rw e

  -- forward by the cell ahead, backward by the one behind
  step : Place → Place
  step l = replaced l (ahead l.one l.two)

  back : Place → Place
  back l = replaced l (ahead l.two l.one)

  -- Both are of the ring, so nothing has to lead to them.
  started : In begin.one → In begin.two → OnLine begin
  unfolding ringed
  started i j = record {
    ones = record { mine = refl; inside = i; off = omega arith; led = λ a. absurd (omega arith) };
    twos = record { mine = refl; inside = j; off = omega arith; led = λ a. absurd (omega arith) };
    near = omega arith;
  }

  -- What lies behind the start is the corner, which is on no line.
  nothing_before : OnLine (back begin) → ⊥
  unfolding back replaced ringed
  nothing_before l = omega (arith, l.ones.off)

  -- Going back undoes a step: behind a step is the cell that was left.
  returns : (l : Place) → OnLine l → back (step l) ≡ l
  unfolding step back
  returns l h = go (ringed x) refl
    where
      x : Cell
      x = ahead l.one l.two

      go : (s : Bool) → ringed x ≡ s → back (step l) ≡ l
      go true e =
          ap back (replaced_one l x e) ∙ (ap (replaced (record { one = x; two = l.two })) (one_behind l.one l.two h.near h.ones.off h.twos.off)
          ∙ replaced_one (record { one = x; two = l.two }) l.one h.ones.mine)
      go false e =
          ap back (replaced_two l x e) ∙ (ap (replaced (record { one = l.one; two = x })) (two_behind l.one l.two h.near h.ones.off h.twos.off)
          ∙ replaced_two (record { one = l.one; two = x }) l.two h.twos.mine)

  -- The cell ahead touches both cells of a place.
  pub near_one : (l : Place) → OnLine l → Near l.one (ahead l.one l.two)
  near_one l h = ahead_of_one l.one l.two h.near h.ones.off h.twos.off

  pub near_two : (l : Place) → OnLine l → Near l.two (ahead l.one l.two)
  near_two l h = ahead_of_two l.one l.two h.near h.ones.off h.twos.off

  -- The line leaves the region between these two cells: what holds outside holds of the cell ahead.
  pub record Leaves (Out : Cell → Type 0) : Type 0 where
    pub place : Place
    pub on_line : OnLine place
    pub out : Out (ahead place.one place.two)

  -- Forward, it leaves the region, or it comes to another place of the line.
  go_on : (Out : Cell → Type 0) → ((p : Cell) → In p ⊎ Out p) → (l : Place) → OnLine l → Leaves Out ⊎ OnLine (step l)
  unfolding step
  go_on Out sorted l h = ⊎_elim (λ i. inr (further i (ringed x) refl)) (λ o. inl (record { place = l; on_line = h; out = o })) (sorted x)
    where
      x : Cell
      x = ahead l.one l.two

      corner : 0 < x.row + x.column
      corner = ahead_off l.one l.two h.near h.ones.off h.twos.off

      further : In x → (s : Bool) → ringed x ≡ s → OnLine (replaced l x)
      further i true e = subst OnLine (sym (replaced_one l x e)) (record {
        ones = led_on true l.one x h.ones (near_one l h) e i corner;
        twos = h.twos;
        near = turn_near l.two x (near_two l h);
      })
      further i false e = subst OnLine (sym (replaced_two l x e)) (record {
        ones = h.ones;
        twos = led_on false l.two x h.twos (near_two l h) e i corner;
        near = near_one l h;
      })

  -- in a region of rows up to t and columns up to w
  module _ (w t : ℕ) (bounded : (p : Cell) → In p → (p.row ≤ t) × (p.column ≤ w)) where
    -- There are finitely many places: each is told by the numbers of its two cells, and those by one number.
    cell_code : Cell → ℕ
    cell_code p = p.row * (w + 1) + p.column

    cells : ℕ
    cells = (w + 1) * (t + 1)

    cell_below : (p : Cell) → In p → cell_code p < cells
    unfolding cell_code cells
    cell_below p i = let b = bounded p i in mul-add-lt p.row (w + 1) p.column (t + 1) (omega arith) (omega arith)

    cell_same : (p q : Cell) → In p → In q → cell_code p ≡ cell_code q → p ≡ q
    unfolding cell_code
    cell_same p q i j e =
        let r = pair_same (w + 1) p.row p.column q.row q.column (omega (arith, bounded p i)) (omega (arith, bounded q j)) e in
        same_cell p q r.0 r.1

    code : Place → ℕ
    code l = cell_code l.one * cells + cell_code l.two

    code_below : (l : Place) → OnLine l → code l < cells * cells
    unfolding code
    code_below l h = mul-add-lt (cell_code l.one) cells (cell_code l.two) cells (cell_below l.one h.ones.inside) (cell_below l.two h.twos.inside)

    code_same : (l m : Place) → OnLine l → OnLine m → code l ≡ code m → l ≡ m
    unfolding code
    code_same l m h k e =
        let r = pair_same cells (cell_code l.one) (cell_code l.two) (cell_code m.one) (cell_code m.two)
        (cell_below l.two h.twos.inside) (cell_below m.two k.twos.inside) e in
        let p = cell_same l.one m.one h.ones.inside k.ones.inside r.0 in
        let q = cell_same l.two m.two h.twos.inside k.twos.inside r.1 in
        λ i. record { one = p i; two = q i }

    -- So the line ends, and it can only end by leaving.
    pub leaves : (Out : Cell → Type 0) → ((p : Cell) → In p ⊎ Out p) → In begin.one → In begin.two → Leaves Out
    leaves Out sorted i j =
        must_end step back begin OnLine returns nothing_before (go_on Out sorted) (started i j) (cells * cells) code code_below code_same

-- a board w wide and t tall, rows 1 to t and columns 1 to w, with its ring, and the cells past its last borders
abbrev pub OnBoard : ℕ → ℕ → Cell → Type 0
OnBoard w t p = (p.row ≤ t) × (p.column ≤ w)

abbrev Past : ℕ → ℕ → Cell → Type 0
Past w t p = (t < p.row) ⊎ (w < p.column)

-- a row of own cells from the first border to the last
abbrev pub Across : ℕ → ℕ → (Cell → Bool) → Bool → Type 0
Across w t colour s = (p : Cell) × Led (OnBoard w t) colour s p × (along s p ≡ cond s t w)

-- On a board the line leaves past the last border of one side, beside a cell that a row of its own leads to: that side has connected.
pub one_connects : (w t : ℕ) (colour : Cell → Bool) → 0 < w → 0 < t → Across w t colour true ⊎ Across w t colour false
one_connects w t colour hw ht =
    across (leaves (OnBoard w t) colour w t (λ p i. i) (Past w t) sorted (omega arith, omega arith) (omega arith, omega arith))
  where
    sorted : (p : Cell) → OnBoard w t p ⊎ Past w t p
    sorted p = ⊎_elim (λ r. inr (inl r)) (λ r. ⊎_elim (λ c. inr (inr c)) (λ c. inl (r, c)) (cases_lt w p.column)) (cases_lt t p.row)

    bottom : (l : Place) → OnLine (OnBoard w t) colour l → t < (ahead l.one l.two).row → Across w t colour true
    bottom l h o = (l.one, h.ones.led (omega (arith, near_one (OnBoard w t) colour l h)), omega (arith, near_one (OnBoard w t) colour l h, h.ones.inside))

    right : (l : Place) → OnLine (OnBoard w t) colour l → w < (ahead l.one l.two).column → Across w t colour false
    right l h o = (l.two, h.twos.led (omega (arith, near_two (OnBoard w t) colour l h)), omega (arith, near_two (OnBoard w t) colour l h, h.twos.inside))

    across : Leaves (OnBoard w t) colour (Past w t) → Across w t colour true ⊎ Across w t colour false
    across e = ⊎_map (bottom e.place e.on_line) (right e.place e.on_line) e.out
