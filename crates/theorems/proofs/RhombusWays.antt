-- Boards w wide and t tall: their neighbours and borders by row and column, and their ways by these.
use Rattle.std.proofs.Common.{◌≡◌, ℕ, zero, suc, ◌+◌, ◌*◌, ◌/◌, ◌%◌, ◌<◌, Bool, true, false, eqb, List, length, get_or, ℤ, pos, negsuc, ◌+ℤ◌, Some, None, Option, sym, refl, ap, ◌∙◌, arith}
use Rattle.std.proofs.lemmas.Bool.{false≢true, eq-eqb, eqb-true, lt-ltb}
use Rattle.std.proofs.lemmas.Bool.Decides.{nat_tests}
use Rattle.std.proofs.lemmas.Map.Views.{Contains-from_any, list_any-from_Contains}
use Rattle.std.proofs.lemmas.Nat.{div-mul-add, mod-mul-add, mul-add-lt, div-add-mod', div_below, mod_below}
use Rattle.std.proofs.lemmas.Option.{none-some}
use Rattle.std.specs.Cmp.{IsEquivalence}
use Rattle.hexboard.specs.Board as board
use Rattle.hexboard.specs.Board.{Board}
use Rattle.hexboard.specs.Geometry.{step_to, given}
use Rattle.hexboard.specs.Laying.{HasWon}
use Rattle.hexboard.specs.Shapes.{Shape, next_to, IsFair, at_first, at_last, has_stone, shape_rules, cell_in, step_from, neighbour_in, starts, finishes, two_bits, rhombus}
use Rattle.hexboard.proofs.Adjacent as adjacent
use Rattle.hexboard.proofs.Given.{given_only, given_all}
use Rattle.theorems.proofs.Leading.{Track, IsLed, Carries, carried}

-- A number is itself, and no other.
same_number : IsEquivalence eqb
same_number = record {
  refl = λ x. eq-eqb x x refl;
  symm = λ x y. grind (arith, nat_tests);
  congr = λ x y z e. ap (λ k. eqb k z) (eqb-true x y e);
}

-- cells i and j are on the board and next to each other
pub record Beside (w t i j : ℕ) : Type 0 where
  pub from : i < w * t
  pub inside : j < w * t
  pub near : board.next_to w i j ≡ true

-- The cell in row r and column c has them as quotient and rest.
at_place : (w t r c j : ℕ) → (r < t) × (c < w) × (j ≡ r * w + c) → (r ≡ j / w) × (c ≡ j % w) × (j < w * t)
at_place w t r c j h = (
  sym (ap (λ x. x / w) h.2 ∙ div-mul-add r w c h.1),
  sym (ap (λ x. x % w) h.2 ∙ mod-mul-add r w c h.1),
  omega (arith, mul-add-lt r w c t h.0 h.1),
)

on_place : (w t : ℕ) (r c : ℤ) (j : ℕ) → cell_in w t r c ≡ Some j → (r ≡ pos (j / w)) × (c ≡ pos (j % w)) × (j < w * t)
on_place w t (pos r) (pos c) j h =
    let p : (r < t) × (c < w) × (j ≡ r * w + c) = grind (arith, nat_tests) in
    let q = at_place w t r c j p in
    (ap pos q.0, ap pos q.1, q.2)
on_place w t (pos r) (negsuc c) j h = absurd (none-some _ h)
on_place w t (negsuc r) (pos c) j h = absurd (none-some _ h)
on_place w t (negsuc r) (negsuc c) j h = absurd (none-some _ h)

-- A board that has a cell is at least one wide.
some_width : (w t i : ℕ) → i < w * t → 0 < w
some_width zero t i h = omega arith
some_width (suc w) t i h = omega arith

-- A cell of the board is in one of its rows and one of its columns,
pub row_below : (w t i : ℕ) → i < w * t → i / w < t
row_below w t i h = div_below i w t (some_width w t i h) (omega arith)

pub column_below : (w t i : ℕ) → i < w * t → i % w < w
column_below w t i h = mod_below i w (some_width w t i h)

-- those that its quotient and rest name.
in_place : (w t j : ℕ) → j < w * t → cell_in w t (pos (j / w)) (pos (j % w)) ≡ Some j
in_place w t j h =
    let d = row_below w t j h in
    let m = column_below w t j h in
    let e = div-add-mod' j w in
    grind (arith, nat_tests)

-- The k-th neighbour of a cell is on the board, as is the cell, and the k-th step leads to it.
step_parts : (w t r c : ℕ) (o : Option (ℤ × ℤ)) (j : ℕ) → step_from w t r c o ≡ Some j → (j < w * t)
    × ((down right : ℤ) × ((o ≡ Some (down, right)) × (pos r +ℤ down ≡ pos (j / w)) × (pos c +ℤ right ≡ pos (j % w))))
step_parts w t r c None j h = absurd (none-some _ h)
step_parts w t r c (Some (down, right)) j h =
    let q = on_place w t (pos r +ℤ down) (pos c +ℤ right) j h in
    (q.2, (down, right, (refl, q.0, q.1)))

neighbour_leads : (w t i k j : ℕ) → neighbour_in w t i k ≡ Some j → (i < w * t) × (j < w * t) × adjacent.Leads k (i / w) (i % w) (j / w) (j % w)
unfolding neighbour_in
neighbour_leads w t i k j h =
    let p : (i < w * t) × (step_from w t (i / w) (i % w) (step_to k) ≡ Some j) = grind (arith, nat_tests) in
    let q = step_parts w t (i / w) (i % w) (step_to k) j p.1 in
    (p.0, q.0, q.1)

-- Where the k-th step leads from one cell of the board to another, that is the k-th neighbour.
leads_neighbour : (w t i k j : ℕ) → i < w * t → j < w * t → adjacent.Leads k (i / w) (i % w) (j / w) (j % w) → neighbour_in w t i k ≡ Some j
unfolding neighbour_in
leads_neighbour w t i k j h g (down, right, (s, p, q)) = simp (lt-ltb i (w * t) h, s, p, q) (in_place w t j g)

-- So the neighbours of a cell are the cells that are next to it by row and column.
pub next_beside : (w t i j : ℕ) → next_to (rhombus w t) i j ≡ true → Beside w t i j
next_beside w t i j e =
    let (d, low, high, is) = given_only (neighbour_in w t i) 6 0 j (Contains-from_any eqb-true j (given (neighbour_in w t i) 0 6) e) in
    let l = neighbour_leads w t i d j is in
    record { from = l.0; inside = l.1; near = adjacent.leads_next w i j d l.2 }

pub beside_next : (w t i j : ℕ) → Beside w t i j → next_to (rhombus w t) i j ≡ true
beside_next w t i j b =
    let (k, few, is) = adjacent.next_leads w i j b.near in
    list_any-from_Contains same_number j (given (neighbour_in w t i) 0 6)
    (given_all (neighbour_in w t i) 6 0 k j (omega arith) (omega arith) (leads_neighbour w t i k j b.from b.inside is))

-- To be next to each other goes both ways, and no cell is next to itself.
pub rhombus_fair : (w t : ℕ) → IsFair (rhombus w t)
rhombus_fair w t = record {
  inside = λ i j e. (next_beside w t i j e).inside;
  both_ways = λ i j e. let b = next_beside w t i j e in
      beside_next w t j i (record { from = b.inside; inside = b.from; near = adjacent.next_symmetric w i j b.near });
  apart = λ i. alone i (next_to (rhombus w t) i i) refl;
}
  where
    alone : (i : ℕ) (x : Bool) → next_to (rhombus w t) i i ≡ x → next_to (rhombus w t) i i ≡ false
    alone i false e = e
    alone i true e = let b = next_beside w t i i e in absurd (false≢true (sym (adjacent.next_apart w i) ∙ b.near))

-- The bits of its borders tell the borders.
first_bit : (x y : Bool) → eqb (two_bits x y % 2) 1 ≡ x
first_bit true true = refl
first_bit true false = refl
first_bit false true = refl
first_bit false false = refl

last_bit : (x y : Bool) → eqb (two_bits x y / 2 % 2) 1 ≡ y
last_bit true true = refl
last_bit true false = refl
last_bit false true = refl
last_bit false false = refl

pub first_border : (w t s i : ℕ) → at_first (rhombus w t) s i ≡ starts w s i
first_border w t s i = first_bit (starts w s i) (finishes w t s i)

pub last_border : (w t s i : ℕ) → at_last (rhombus w t) s i ≡ finishes w t s i
last_border w t s i = last_bit (starts w s i) (finishes w t s i)

-- what a way goes by: on any shape, and on a board by row and column
abbrev pub shape_track : Shape → ℕ → List ℕ → Track
shape_track g s cells = record { next = next_to g; own = has_stone s cells; first = at_first g s; last = at_last g s }

abbrev pub board_track : ℕ → ℕ → ℕ → List ℕ → Track
board_track w t s cells = record { next = board.next_to w; own = has_stone s cells; first = starts w s; last = finishes w t s }

-- A stone stands on the board.
pub stone_parts : (s : ℕ) (cells : List ℕ) (i : ℕ) → has_stone s cells i ≡ true → (i < length cells) × (get_or cells i 0 ≡ s)
stone_parts s cells i e = grind (arith, nat_tests)

pub stone_from : (s : ℕ) (cells : List ℕ) (i : ℕ) → i < length cells → get_or cells i 0 ≡ s → has_stone s cells i ≡ true
stone_from s cells i h e = grind (arith, nat_tests)

-- Whatever is next to what: where all stones of a side stay, its ways stay.
pub track_stays : (next : ℕ → ℕ → Bool) (first last : ℕ → Bool) (s : ℕ) (b c : List ℕ) → length c ≡ length b →
    ((i : ℕ) → i < length b → get_or b i 0 ≡ s → get_or c i 0 ≡ s) →
    Carries (record { next = next; own = has_stone s b; first = first; last = last }) (record { next = next; own = has_stone s c; first = first; last = last }) (λ i. i)
track_stays next first last s b c long stays = record {
  own = λ i o. let h = stone_parts s b i o in stone_from s c i (omega (arith, h.0, long)) (stays i h.0 h.1);
  next = λ i j _ _ e. e;
  first = λ i _ e. e;
  last = λ i _ e. e;
}

-- as many cells as the board has
module _ (w t s : ℕ) (cells : List ℕ) (long : length cells ≡ w * t) where
  -- The ways of the shape are those by row and column,
  pub shape_carries : Carries (shape_track (rhombus w t) s cells) (board_track w t s cells) (λ i. i)
  shape_carries = record {
    own = λ i o. o;
    next = λ i j _ _ e. (next_beside w t i j e).near;
    first = λ i _ e. sym (first_border w t s i) ∙ e;
    last = λ i _ e. sym (last_border w t s i) ∙ e;
  }

  pub board_carries : Carries (board_track w t s cells) (shape_track (rhombus w t) s cells) (λ i. i)
  board_carries = record {
    own = λ i o. o;
    next = λ i j o p e. beside_next w t i j (record {
      from = omega (arith, stone_parts s cells i o, long);
      inside = omega (arith, stone_parts s cells j p, long);
      near = e;
    });
    first = λ i _ e. first_border w t s i ∙ e;
    last = λ i _ e. last_border w t s i ∙ e;
  }

  pub by_places : HasWon (shape_rules (rhombus w t)) s cells → IsLed (board_track w t s cells)
  by_places w = carried shape_carries w

  pub from_places : IsLed (board_track w t s cells) → HasWon (shape_rules (rhombus w t)) s cells
  from_places w = carried board_carries w
