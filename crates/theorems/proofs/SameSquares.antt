-- Boards n wide and n tall are boards w wide and t tall with w and t both n: neighbours, borders, ways, and what can be forced.
use Rattle.std.proofs.Common.{◌≡◌, ℕ, ◌+◌, ◌*◌, ◌/◌, ◌%◌, ◌<◌, Bool, true, false, cond, ltb, ◌&&◌, ◌↔◌, List, length, ℤ, pos, negsuc, ◌+ℤ◌, Some, None, Option, sym, refl, ap, ap₂, ◌∙◌, subst, if◌then◌else◌}
use Rattle.std.proofs.lemmas.List.{length-set, map-id}
use Rattle.hexboard.specs.Board as board
use Rattle.hexboard.specs.Board.{Board, begins, ends, other}
use Rattle.hexboard.specs.Games.{Forces}
use Rattle.hexboard.specs.Geometry.{cell_of, step_to, toward, neighbour_of, given, neighbours, touch, laid}
use Rattle.hexboard.specs.Laying.{Rules, HasWon, CanForce, has, mine, theirs, square_rules}
use Rattle.hexboard.specs.Promise.{Good, across}
use Rattle.hexboard.specs.Shapes.{next_to, is_way, shape_rules, cell_in, step_from, neighbour_in, two_bits, rhombus}
use Rattle.theorems.specs.Rhombi.{SquaresAreRhombi}
use Rattle.theorems.proofs.Leading.{Leads, carried_row}
use Rattle.theorems.proofs.RhombusWays.{board_track, next_beside, beside_next, shape_carries, board_carries, by_places, from_places}
use Rattle.theorems.proofs.Ways.{way_leads, leads_way, of_board, to_board}
use Rattle.theorems.proofs.Squares.{to_game, of_game}

-- Two tests that are true together are the same.
same_test : (a b : Bool) → (a ≡ true → b ≡ true) → (b ≡ true → a ≡ true) → a ≡ b
same_test true true f g = refl
same_test true false f g = sym (f refl)
same_test false true f g = g refl
same_test false false f g = refl

-- The cell in a row and a column is the same,
cell_same : (n : ℕ) (r c : ℤ) → cell_in n n r c ≡ cell_of n r c
cell_same n (pos r) (pos c) = refl
cell_same n (pos r) (negsuc c) = refl
cell_same n (negsuc r) (pos c) = refl
cell_same n (negsuc r) (negsuc c) = refl

step_same : (n r c : ℕ) (o : Option (ℤ × ℤ)) → step_from n n r c o ≡ toward n r c o
step_same n r c None = refl
step_same n r c (Some (down, right)) = cell_same n (pos r +ℤ down) (pos c +ℤ right)

-- so are the neighbours,
neighbour_same : (n i k : ℕ) → neighbour_in n n i k ≡ neighbour_of n i k
unfolding neighbour_in neighbour_of
neighbour_same n i k =
    ap (λ o. if ltb i (n * n) then o else None) (step_same n (i / n) (i % n) (step_to k))

neighbours_same : (n i : ℕ) → (rhombus n n).neighbours i ≡ neighbours n i
neighbours_same n i = λ e. given (λ k. neighbour_same n i k e) 0 6

next_same : (n i j : ℕ) → i < n * n → j < n * n → next_to (rhombus n n) i j ≡ board.next_to n i j
next_same n i j hi hj =
    same_test (next_to (rhombus n n) i j) (board.next_to n i j) (λ e. (next_beside n n i j e).near)
    (λ e. beside_next n n i j (record { from = hi; inside = hj; near = e }))

-- and the bits of the borders.
borders_same : (n s i : ℕ) → (rhombus n n).borders s i ≡ touch n s i
unfolding touch
borders_same n s i = refl

-- The ways are the same, since no way leaves the board.
ways_same : (n s : ℕ) (cells w : List ℕ) → length cells ≡ n * n → is_way (rhombus n n) s cells w ≡ board.is_way (laid n cells) s w
ways_same n s cells w long =
    same_test (is_way (rhombus n n) s cells w) (board.is_way (laid n cells) s w)
    (λ e. leads_way (laid n cells) s w
    (subst (Leads (board_track n n s cells)) (map-id w) (carried_row (shape_carries n n s cells long) w e)))
    (λ e. subst (λ v. is_way (rhombus n n) s cells v ≡ true) (map-id w)
    (carried_row (board_carries n n s cells long) w (way_leads (laid n cells) s w e)))

-- In games whose positions are won alike the same can be forced.
force_alike : {g h : Rules} {s : ℕ} (n : ℕ) → ((c : List ℕ) → length c ≡ n → HasWon g s c → HasWon h s c) →
    {b : List ℕ} {t : ℕ} → length b ≡ n → CanForce g s b t → CanForce h s b t
force_alike n alike {b} long (has t w) = has t (alike b long w)
force_alike {s = s} n alike {b} long (mine i l z f) = mine i l z (force_alike n alike (length-set b i s ∙ long) f)
force_alike {s = s} n alike {b} long (theirs some f) =
    theirs some (λ i l z. force_alike n alike (length-set b i (other s) ∙ long) (f i l z))

forces_same : (b : Board) (s t : ℕ) → Good b → (Forces s b t ↔ CanForce (shape_rules (rhombus b.wide b.wide)) s b.cells t)
forces_same b s t g = (
  (λ f. force_alike (n * n) (λ c long w. from_places n n s c long (of_board (laid n c) s w)) g.1 (to_game f)),
  (λ f. of_game (force_alike {h = square_rules n} (n * n) (λ c long w. to_board (laid n c) s (by_places n n s c long w)) g.1 f)),
)
  where
    n : ℕ
    n = b.wide

pub squares_are_rhombi : SquaresAreRhombi
unfolding across
squares_are_rhombi = record {
  neighbours = neighbours_same;
  next = next_same;
  borders = borders_same;
  ways = ways_same;
  turned = λ n i. refl;
  forcing = forces_same;
}
