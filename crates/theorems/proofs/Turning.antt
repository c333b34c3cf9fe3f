-- Rows and columns exchanged: a board w wide and t tall, turned over, is one t wide and w tall with the sides exchanged.
use Rattle.std.proofs.Common.{◌≡◌, ℕ, ◌+◌, ◌*◌, ◌/◌, ◌%◌, ◌<◌, true, List, length, sym, ap, ◌∙◌, arith}
use mathlib.Core.Logic.{⊎_map}
use Rattle.std.proofs.lemmas.Nat.{mul-add-lt, div-mul-add, mod-mul-add, div-add-mod'}
use Rattle.std.proofs.lemmas.Bool.Decides.{nat_tests}
use Rattle.hexboard.specs.Board as board
use Rattle.hexboard.specs.Board.{other}
use Rattle.hexboard.specs.Laying.{opposite_stone, Renamed, Exchanges, IsLawful, KeepsWins}
use Rattle.hexboard.specs.Shapes.{Shape, next_to, at_first, at_last, shape_rules, starts, finishes, rhombus, turned}
use Rattle.theorems.proofs.Stones.{Side}
use Rattle.theorems.proofs.Leading.{Carries, carried}
use Rattle.theorems.proofs.RhombusWays.{shape_track, board_track, by_places, from_places, row_below, column_below, stone_parts, stone_from, track_stays}
use Rattle.theorems.proofs.NeverBoth.{never_both_on}
use Rattle.theorems.proofs.NeverNeither.{one_leads}
use Rattle.theorems.proofs.Renaming.{opposite_side}

-- a cell of a board w wide and t tall
module _ (w t i : ℕ) (h : i < w * t) where
  -- The cell turned over lies in the row that was the column, and in the column that was the row.
  pub turned_row : turned w t i / t ≡ i % w
  turned_row = div-mul-add (i % w) t (i / w) (row_below w t i h)

  pub turned_column : turned w t i % t ≡ i / w
  turned_column = mod-mul-add (i % w) t (i / w) (row_below w t i h)

  -- It is on the board turned over,
  pub turned_on : turned w t i < t * w
  turned_on = mul-add-lt (i % w) t (i / w) w (column_below w t i h) (row_below w t i h)

  -- and turned over again it is the cell itself.
  pub turned_back : turned t w (turned w t i) ≡ i
  turned_back = ap (λ r. r * w + turned w t i / t) turned_column ∙ (ap (λ c. i / w * w + c) turned_row ∙ div-add-mod' i w)

-- Neighbours stay neighbours: right and below change places, and the rising diagonal is turned about.
next_turned : (w t i j : ℕ) → i < w * t → j < w * t → board.next_to w i j ≡ true → board.next_to t (turned w t i) (turned w t j) ≡ true
next_turned w t i j hi hj e =
    let ri = turned_row w t i hi in
    let ci = turned_column w t i hi in
    let rj = turned_row w t j hj in
    let cj = turned_column w t j hj in
    grind (arith, nat_tests)

-- The borders of one side come to those of the other.
starts_turned : (w t s i : ℕ) → Side s → i < w * t → starts w s i ≡ true → starts t (other s) (turned w t i) ≡ true
starts_turned w t s i side h e =
    let r = turned_row w t i h in
    let c = turned_column w t i h in
    grind (arith, nat_tests)

finishes_turned : (w t s i : ℕ) → Side s → i < w * t → finishes w t s i ≡ true → finishes t w (other s) (turned w t i) ≡ true
finishes_turned w t s i side h e =
    let r = turned_row w t i h in
    let c = turned_column w t i h in
    grind (arith, nat_tests)

-- So what is turned over from a stone, from a neighbour and from a border of one side is one of the other.
pub turned_carries : (w t : ℕ) (b c : List ℕ) (s : ℕ) → length b ≡ w * t → Renamed (turned w t) b c → Side s →
    Carries (board_track w t s b) (board_track t w (other s) c) (turned w t)
turned_carries w t b c s long m side = record {
  own = λ i o. let h = stone_parts s b i o in
      let on : i < w * t = omega (arith, long, h.0) in
      stone_from (other s) c (turned w t i) (omega (arith, m.long, long, turned_on w t i on))
      (m.stones i h.0 ∙ (ap opposite_stone h.1 ∙ sym (opposite_side s side)));
  next = λ i j o p e. next_turned w t i j (omega (arith, long, stone_parts s b i o)) (omega (arith, long, stone_parts s b j p)) e;
  first = λ i o e. starts_turned w t s i side (omega (arith, long, stone_parts s b i o)) e;
  last = λ i o e. finishes_turned w t s i side (omega (arith, long, stone_parts s b i o)) e;
}

pub rhombi_exchange : (w t : ℕ) → Exchanges (shape_rules (rhombus w t)) (shape_rules (rhombus t w)) (turned w t) (turned t w)
rhombi_exchange w t = record {
  same_count = omega arith;
  inside = λ i h. omega (arith, turned_on w t i h);
  back_inside = λ i h. omega (arith, turned_on t w i (omega arith));
  there = λ i h. turned_back w t i h;
  again = λ i h. turned_back t w i (omega arith);
  wins = λ s b c side p m v. from_places t w (other s) c (omega (arith, p.long, m.long))
      (carried (turned_carries w t b c s p.long m side) (by_places w t s b p.long v));
}

-- On any shape stones more, and changes of the other's, leave a way a way.
pub shape_keeps : (g : Shape) → KeepsWins (shape_rules g)
shape_keeps g s b c _ long stays =
    carried {k = shape_track g s b} {m = shape_track g s c} {f = λ i. i} (track_stays (next_to g) (at_first g s) (at_last g s) s b c long stays)

-- Boards w wide and t tall are lawful: never both, and never neither.
pub rhombi_lawful : (w t : ℕ) → 0 < w → 0 < t → IsLawful (shape_rules (rhombus w t))
rhombi_lawful w t hw ht = record {
  keeps_wins = shape_keeps (rhombus w t);
  never_both = λ b p u v. never_both_on w t b hw p.long (by_places w t 1 b p.long u) (by_places w t 2 b p.long v);
  never_neither = λ b p none. ⊎_map (from_places w t 1 b p.long) (from_places w t 2 b p.long) (one_leads w t b p.long p.stones none hw ht);
}
