-- The side with the shorter way: one cell of each pair is enough for it, so it can force that it connects, whoever is to move.
use Rattle.std.proofs.Common.{◌≡◌, ℕ, ◌+◌, ◌-◌, ◌*◌, ◌/◌, ◌%◌, ◌<◌, ◌≤◌, Bool, true, false, not, eqb, ◌≢◌, ◌⊎◌, List, get_or, replicate, sym, refl, ap, ap₂, ◌∙◌, subst, inl, inr, ⊎_elim, arith, lit<}
use Rattle.std.proofs.lemmas.Bool.{lt-ltb, le-ltb, cases_eq, cases_lt, eq-eqb, false≢true}
use Rattle.std.proofs.lemmas.Bool.Decides.{nat_tests}
use Rattle.std.proofs.lemmas.List.{length-replicate, get_or-replicate}
use Rattle.std.proofs.lemmas.List.Elements.{All-replicate}
use Rattle.std.proofs.lemmas.Nat.{mul-add-lt, div_below, mod_below}
use Rattle.hexboard.specs.Board.{empties, other}
use Rattle.hexboard.specs.Laying.{HasWon, CanForce, IsPosition}
use Rattle.hexboard.specs.Shapes.{shape_rules, rhombus}
use Rattle.theorems.specs.Pairs.{HasOneOfEach, HasOneOrNone, IsAnswered}
use Rattle.theorems.specs.Forcing.{FirstCanForce}
use Rattle.theorems.specs.Shorter.{place_of, cell_at, flip, partner, shorter_side, PartnersAreEnough, PartnersCanForce, ShorterCanForce, PartnersAnswer, FirstExactlyOnSquares}
use Rattle.theorems.specs.Shorter as shorter
use Rattle.theorems.proofs.Cells.{Cell}
use Rattle.theorems.proofs.Line.{On, Led, first, more, OnBoard, Across}
use Rattle.theorems.proofs.NeverNeither.{number, number_row, number_column, colour, across_way}
use Rattle.theorems.proofs.RhombusWays.{from_places}
use Rattle.theorems.proofs.Diagonal.{Above, mate, one_crosses}
use Rattle.theorems.proofs.Partners.{above_mate, wide_place, tall_place, partner_at, paired_wide, paired_tall, partners_pair_off, same_place}
use Rattle.theorems.proofs.Pairing.{pairs_can_force, answering_wins}
use Rattle.theorems.proofs.Outcome.{not_both_forced}
use Rattle.theorems.proofs.Stones.{Side, against_other}
use Rattle.theorems.proofs.Turning.{rhombi_lawful, rhombi_exchange}
use Rattle.theorems.proofs.Renaming.{first_can_force}
use Rattle.hexboard.proofs.Boards.{other_side}

-- rows and columns exchanged, for the line
abbrev flip_cell : Cell → Cell
flip_cell p = record { row = p.column; column = p.row }

-- a cell of the board, rows and columns from 1
record IsOn (w t : ℕ) (p : Cell) : Type 0 where
  top : 0 < p.row
  left : 0 < p.column
  bottom : p.row ≤ t
  right : p.column ≤ w

module _ (w t : ℕ) (p : Cell) (on : IsOn w t p) where
  -- Its number is on the board, and has its row and column.
  number_on : number w p < w * t
  unfolding number
  number_on = mul-add-lt (p.row - 1) w (p.column - 1) t (omega (arith, on)) (omega (arith, on))

  number_place : place_of w (number w p) ≡ record { row = p.row - 1; column = p.column - 1 }
  number_place =
      same_place (place_of w (number w p)) (record { row = p.row - 1; column = p.column - 1 })
      (number_row w p on.left on.right) (number_column w p on.left on.right)

  -- On a board wider than tall the partner of a cell above the diagonal is where the line's is.
  wide_partner : t < w → Above t p → partner w t (number w p) ≡ number w (mate t p)
  unfolding number
  wide_partner wider a =
      let q : shorter.Place = record { row = p.row - 1; column = p.column - 1 } in
      partner_at w t (number w p) q number_place
      ∙ (ap (cell_at w) (wide_place w t q wider ∙ above_mate t q (omega (arith, on)))
      ∙ ap₂ (λ r c. r * w + c) (omega (arith, on)) (omega (arith, on)))

  -- On one taller than wide, with rows and columns exchanged.
  tall_partner : w < t → Above w (flip_cell p) → partner w t (number w p) ≡ number w (flip_cell (mate w (flip_cell p)))
  unfolding number
  tall_partner taller a =
      let q : shorter.Place = record { row = p.row - 1; column = p.column - 1 } in
      partner_at w t (number w p) q number_place
      ∙ (ap (cell_at w) (tall_place w t q taller ∙ ap flip (above_mate w (flip q) (omega (arith, on))))
      ∙ ap₂ (λ r c. r * w + c) (omega (arith, on)) (omega (arith, on)))

-- With rows and columns exchanged, and the sides, a row of cells from top to bottom is one from left to right.
module _ (w t : ℕ) (whose : Cell → Bool) where
  pub over : Cell → Bool
  over p = not (whose (flip_cell p))

  over_on : (p : Cell) → On (OnBoard t w) over true p → On (OnBoard w t) whose false (flip_cell p)
  unfolding over
  over_on p on = record { mine = not_true (whose (flip_cell p)) on.mine; inside = (on.inside.1, on.inside.0); top = on.left; left = on.top }
    where
      not_true : (b : Bool) → not b ≡ true → b ≡ false
      not_true true e = absurd (false≢true e)
      not_true false e = refl

  over_led : {p : Cell} → Led (OnBoard t w) over true p → Led (OnBoard w t) whose false (flip_cell p)
  over_led (first {p} on e) = first (over_on p on) e
  over_led (more {p} {q} led near on) = more (over_led led) (omega (arith, near)) (over_on q on)

  pub over_across : Across t w over true → Across w t whose false
  over_across (p, led, e) = (flip_cell p, over_led led, e)

-- What is of one side is not of the other.
not_two : (x : ℕ) → x ≡ 2 → eqb x 1 ≡ false
not_two x e = grind (arith, nat_tests)

is_one : (x : ℕ) → eqb x 1 ≡ true → x ≡ 1
is_one x e = grind (arith, nat_tests)

not_one : (x : ℕ) → eqb x 1 ≡ false → x ≡ 1 → ⊥
not_one x e f = false≢true (sym e ∙ eq-eqb x 1 f)

-- a full position in which a side has one cell of each pair
module _ (w t : ℕ) (hw : 0 < w) (ht : 0 < t) (c : List ℕ) (p : IsPosition (shape_rules (rhombus w t)) c) (none : empties c ≡ 0) where
  -- On a board wider than tall side 1 has connected.
  wide_wins : t < w → HasOneOfEach 1 (partner w t) c → HasWon (shape_rules (rhombus w t)) 1 c
  unfolding colour
  wide_wins wider held =
      from_places w t 1 c p.long (across_way w t c p.long p.stones none true (one_crosses w t ht wider (colour w c) paired))
    where
      paired : (x : Cell) → 0 < x.row → 0 < x.column → Above t x → colour w c x ≡ false → colour w c (mate t x) ≡ true
      paired x r l a e =
          let on : IsOn w t x = record { top = r; left = l; bottom = omega arith; right = omega arith } in
          let i = number w x in
          let h : i < w * t = number_on w t x on in
          let column : i % w ≤ t = omega (arith, number_column w x l (omega arith)) in
          ⊎_elim
          (λ one. absurd (not_one (get_or c i 0) e one))
          (λ one. eq-eqb (get_or c (number w (mate t x)) 0) 1 (ap (λ k. get_or c k 0) (sym (wide_partner w t x on wider a)) ∙ one))
          (held i (omega (arith, p.long)) (paired_wide w t i h wider column))

  -- On a board taller than wide side 2 has: with rows and columns exchanged, and the sides, it is the same.
  tall_wins : w < t → HasOneOfEach 2 (partner w t) c → HasWon (shape_rules (rhombus w t)) 2 c
  unfolding colour over
  tall_wins taller held =
      from_places w t 2 c p.long (across_way w t c p.long p.stones none false
      (over_across w t (colour w c) (one_crosses t w hw taller (over w t (colour w c)) paired)))
    where
      paired : (x : Cell) → 0 < x.row → 0 < x.column → Above w x → over w t (colour w c) x ≡ false → over w t (colour w c) (mate w x) ≡ true
      paired x r l a e =
          let y : Cell = flip_cell x in
          let on : IsOn w t y = record { top = l; left = r; bottom = omega arith; right = omega arith } in
          let i = number w y in
          let h : i < w * t = number_on w t y on in
          let row : i / w ≤ w = omega (arith, number_row w y r (omega arith)) in
          let mine : get_or c i 0 ≡ 1 = is_one (get_or c i 0) (not_false (eqb (get_or c i 0) 1) e) in
          ⊎_elim
          (λ two. absurd (omega arith))
          (λ two. ap not (not_two (get_or c (number w (flip_cell (mate w x))) 0)
          (ap (λ k. get_or c k 0) (sym (tall_partner w t y on taller a)) ∙ two)))
          (held i (omega (arith, p.long)) (paired_tall w t i h taller row))
        where
          not_false : (b : Bool) → not b ≡ false → b ≡ true
          not_false true f = refl
          not_false false f = absurd (false≢true (sym f))

-- The side with the shorter way, on either kind of board.
side_wide : (w t : ℕ) → t < w → shorter_side w t ≡ 1
side_wide w t h = rw (lt-ltb t w h) refl

side_tall : (w t : ℕ) → w < t → shorter_side w t ≡ 2
side_tall w t h = rw (le-ltb t w (omega arith)) refl

wide_or_tall : (w t : ℕ) → w ≢ t → (t < w) ⊎ (w < t)
wide_or_tall w t n = ⊎_elim (λ h. inl h) (λ h. inr (omega arith)) (cases_lt t w)

pub is_side : (w t : ℕ) → Side (shorter_side w t)
is_side w t = ⊎_elim (λ h. inl (side_wide w t h)) (λ h. inr (rw (le-ltb t w h) refl)) (cases_lt t w)

pub partners_are_enough : PartnersAreEnough
partners_are_enough w t b hw ht n c p none later held = go (wide_or_tall w t n)
  where
    go : (t < w) ⊎ (w < t) → HasWon (shape_rules (rhombus w t)) (shorter_side w t) c
    go (inl h) =
        let e = side_wide w t h in
        subst (λ s. HasWon (shape_rules (rhombus w t)) s c) (sym e)
        (wide_wins w t hw ht c p none h (subst (λ s. HasOneOfEach s (partner w t) c) e held))
    go (inr h) =
        let e = side_tall w t h in
        subst (λ s. HasWon (shape_rules (rhombus w t)) s c) (sym e)
        (tall_wins w t hw ht c p none h (subst (λ s. HasOneOfEach s (partner w t) c) e held))

pub partners_can_force : PartnersCanForce
partners_can_force w t s b hw ht n turn p held =
    pairs_can_force (shape_rules (rhombus w t)) (shorter_side w t) s (partner w t) b (is_side w t) turn p (partners_pair_off w t) held (partners_are_enough w t b hw ht n)

-- On the empty board both cells of each pair are empty.
pub empty_position : (w t : ℕ) → IsPosition (shape_rules (rhombus w t)) (replicate (w * t) 0)
empty_position w t = record { long = length-replicate (w * t) 0; stones = All-replicate (λ c. c < 3) (w * t) 0 (lit< tt) }

empty_pairs : (w t s : ℕ) → HasOneOrNone s (partner w t) (replicate (w * t) 0)
empty_pairs w t s i h _ =
    let on : i < w * t = rw length-replicate at h in
    inr (get_or-replicate {A = ℕ} (w * t) i 0 0 on, get_or-replicate {A = ℕ} (w * t) (partner w t i) 0 0 ((partners_pair_off w t).on i on))

pub shorter_can_force : ShorterCanForce
shorter_can_force w t s hw ht n turn =
    let can = partners_can_force w t s (replicate (w * t) 0) hw ht n turn (empty_position w t) (empty_pairs w t (shorter_side w t)) in
    let apart = against_other (shorter_side w t) (is_side w t) in
    let p = empty_position w t in
    (can, λ k. not_both_forced (rhombi_lawful w t hw ht) can (other (shorter_side w t)) apart p k refl)

-- Said by the measures: wider than tall, side 1 can force it, and taller than wide, side 2.
pub wide_can_force : (w t s : ℕ) → 0 < t → t < w → Side s → CanForce (shape_rules (rhombus w t)) 1 (replicate (w * t) 0) s
wide_can_force w t s ht h turn =
    subst (λ r. CanForce (shape_rules (rhombus w t)) r (replicate (w * t) 0) s) (side_wide w t h)
    (shorter_can_force w t s (omega arith) ht (omega arith) turn).0

pub tall_can_force : (w t s : ℕ) → 0 < w → w < t → Side s → CanForce (shape_rules (rhombus w t)) 2 (replicate (w * t) 0) s
tall_can_force w t s hw h turn =
    subst (λ r. CanForce (shape_rules (rhombus w t)) r (replicate (w * t) 0) s) (side_tall w t h)
    (shorter_can_force w t s hw (omega arith) (omega arith) turn).0

-- Where the measures differ by one, each cell is in a pair: so each move can be answered on its partner.
pub partners_answer : PartnersAnswer
partners_answer w t hw ht by_one =
    answering_wins (shape_rules (rhombus w t)) (shorter_side w t) (partner w t) (replicate (w * t) 0) (is_side w t) (empty_position w t) (partners_pair_off w t) begun
    (partners_are_enough w t (replicate (w * t) 0) hw ht (omega arith))
  where
    paired : (i : ℕ) → i < w * t → partner w t i ≢ i
    paired i h =
        ⊎_elim
        (λ e. paired_wide w t i h (omega arith) (omega (arith, mod_below i w hw)))
        (λ e. paired_tall w t i h (omega arith) (omega (arith, div_below i w t hw (omega arith))))
        by_one

    begun : IsAnswered (shorter_side w t) (partner w t) (replicate (w * t) 0)
    begun i h =
        let on : i < w * t = rw length-replicate at h in
        (paired i on, inl (get_or-replicate {A = ℕ} (w * t) i 0 0 on, get_or-replicate {A = ℕ} (w * t) (partner w t i) 0 0 ((partners_pair_off w t).on i on)))

-- The first one wins on squares, and on no other board.
pub first_exactly_on_squares : FirstExactlyOnSquares
first_exactly_on_squares w t hw ht = (
  (λ e. subst (λ h. FirstCanForce (shape_rules (rhombus w h))) e (first_can_force (rhombi_lawful w w hw hw) (rhombi_exchange w w))),
  (λ wins. ⊎_elim (λ e. e) (λ n. absurd (second wins n)) (cases_eq w t)),
)
  where
    second : FirstCanForce (shape_rules (rhombus w t)) → w ≢ t → ⊥
    second wins n =
        let longer = other (shorter_side w t) in
        let turn : Side longer = other_side (shorter_side w t) (is_side w t) in
        (shorter_can_force w t longer hw ht n turn).1 (wins longer turn).0
