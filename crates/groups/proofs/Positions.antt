-- Layouts that legal stones lead to: their forests hold the groups of their boards.
use Rattle.std.proofs.Common.{◌≡◌, ℕ, zero, suc, ◌+◌, ◌*◌, ◌<◌, true, ◌&&◌, ◌||◌, eqb, ◌≢◌, ◌⊎◌, List, [], ◌∷◌, ◌++◌, length, get_or, Some, sym, refl, ap, ◌∙◌, subst, inl, inr, ⊎_elim, zero-add, arith}
use mathlib.Core.Bool.{and-true, and_assoc}
use Rattle.std.specs.List.{fold}
use Rattle.std.proofs.lemmas.List.{length-set, get_or-set_other}
use Rattle.std.proofs.lemmas.List.Sums.{fold-append}
use Rattle.std.proofs.lemmas.Bool.{and_parts, and_from, or_cases, both_ways, eqb-true}
use Rattle.std.proofs.lemmas.Bool.Decides.{nat_tests}
use Rattle.hexboard.specs.Board.{Board, at, empty, put, other, next_to}
use Rattle.hexboard.specs.Geometry.{neighbour_of, touch, laid}
use Rattle.hexboard.specs.Promise.{Good}
use Rattle.hexboard.specs.Rows.{Stone}
use Rattle.hexboard.proofs.Boards.{length_all_cells, at_all_cells, good_set, good_empty}
use Rattle.hexboard.proofs.Adjacent.{neighbour_next, neighbour_all, next_symmetric, next_apart}
use Rattle.groups.specs.Forest.{Forest, parent, place, lift}
use Rattle.groups.specs.Stones.{Placement, Layout, count_from, bare, empty_layout, with_stone, layout_of, board_of, forest_of, is_free, can_lie, can_all_lie, AreLegal}
use Rattle.groups.proofs.Placing.{Grouped, adopt_alike, placed_top, placed_groups, growing_ends}
use Rattle.groups.proofs.Lifting.{lifted}

-- the forest holds the groups of the board
abbrev pub Holds : Board → Forest → Type 0
Holds b f = Grouped (next_to b.wide) (touch b.wide) b f

-- a board with all its cells, and a forest that holds the board's groups
pub record Sound (l : Layout) : Type 0 where
  pub square : length l.board.cells ≡ l.board.wide * l.board.wide
  pub holds : Holds l.board l.forest

-- A side is not the number of an empty cell.
pub no_empty : (s : ℕ) → (s ≡ 1) ⊎ (s ≡ 2) → s ≢ 0
no_empty s h = grind arith

-- What holds of a side and of the other holds of both sides.
pub of_both : (P : ℕ → Type 0) (s : ℕ) → (s ≡ 1) ⊎ (s ≡ 2) → P s → P (other s) → P 1 × P 2
of_both P s (inl e) p q = (subst P e p, subst P (ap other e) q)
of_both P s (inr e) p q = (subst P (ap other e) q, subst P e p)

-- A free cell is on the board and empty.
pub free_parts : (b : Board) (x : ℕ) → is_free b x ≡ true → (x < length b.cells) × (at b x ≡ 0)
free_parts b x h = grind (arith, nat_tests)

-- A stone that can lie is of a side, and its cell is free; and the other way about.
pub lie_parts : (b : Board) (p : Placement) → can_lie b p ≡ true → ((p.side ≡ 1) ⊎ (p.side ≡ 2)) × (is_free b p.cell ≡ true)
lie_parts b p h = let (side, free) = and_parts (eqb p.side 1 || eqb p.side 2) (is_free b p.cell) h in (side_of p.side side, free)
  where
    side_of : (s : ℕ) → (eqb s 1 || eqb s 2) ≡ true → (s ≡ 1) ⊎ (s ≡ 2)
    side_of s e = ⊎_elim (λ one. inl (eqb-true s 1 one)) (λ two. inr (eqb-true s 2 two)) (or_cases (eqb s 1) (eqb s 2) e)

pub lie_from : (b : Board) (p : Placement) → (p.side ≡ 1) ⊎ (p.side ≡ 2) → is_free b p.cell ≡ true → can_lie b p ≡ true
lie_from b p side free = and_from _ _ (of_side p.side side) free
  where
    of_side : (s : ℕ) → (s ≡ 1) ⊎ (s ≡ 2) → (eqb s 1 || eqb s 2) ≡ true
    of_side s h = grind (arith, nat_tests)

-- One more stone, which can lie on the board of a sound layout.
module _ (l : Layout) (p : Placement) (ok : Sound l) (can : can_lie l.board p ≡ true) where
  abbrev b : Board
  b = l.board

  abbrev s : ℕ
  s = p.side

  abbrev x : ℕ
  x = p.cell

  some : s ≢ 0
  some = no_empty s (lie_parts b p can).0

  free : (x < length b.cells) × (at b x ≡ 0)
  free = free_parts b x (lie_parts b p can).1

  all : (y : ℕ) → y < length b.cells → next_to b.wide x y ≡ true → (k : ℕ) × (k < 6) × (neighbour_of b.wide x k ≡ Some y)
  all y l n = neighbour_all b.wide x y (rw ok.square at free.0) (rw ok.square at l) n

  -- The stone that has come is the root of its group.
  pub with_stone_root : parent (with_stone l p).forest.parents x ≡ x
  with_stone_root = placed_top b s x some free.0 free.1 ok.holds (next_symmetric b.wide) (neighbour_of b.wide x) (neighbour_next b.wide x) 6 all

  -- The layout with it is sound.
  pub with_stone_sound : Sound (with_stone l p)
  with_stone_sound =
      record {
        square = length-set b.cells x s ∙ ok.square;
        holds = placed_groups b s x some free.0 free.1 ok.holds (next_symmetric b.wide) (neighbour_of b.wide x) (neighbour_next b.wide x) 6 all;
      }

  -- Taking the stone out again leaves the forest as it was.
  pub with_stone_back : lift (length l.board.cells) x (with_stone l p).forest ≡ l.forest
  with_stone_back =
      lifted b l.forest ok.holds s x 6 (touch b.wide s x) (neighbour_of b.wide x) free.1
      (growing_ends b s x some free.0 free.1 ok.holds (next_symmetric b.wide) (neighbour_of b.wide x) (neighbour_next b.wide x))

-- Counted up from i, the number at place j is i + j.
count_at : (i k j : ℕ) → get_or (count_from i k) j (i + j) ≡ i + j
unfolding count_from
count_at i zero j = refl
count_at i (suc k) zero = omega arith
count_at i (suc k) (suc j) = let e : i + suc j ≡ suc i + j = omega arith in rw e (count_at (suc i) k j)

pub count_length : (i k : ℕ) → length (count_from i k) ≡ k
unfolding count_from
count_length i zero = refl
count_length i (suc k) = ap suc (count_length (suc i) k)

-- Where there are no stones each cell is its own root.
pub bare_parent : (k i : ℕ) → parent (bare k).parents i ≡ i
bare_parent k i = rw zero-add at (count_at 0 k i)

no_stones : (n t i : ℕ) → t ≢ 0 → Stone (empty n) t i → ⊥
no_stones n t i side o = side (sym o.1 ∙ at_all_cells (n * n) i)

-- The empty board is sound,
pub empty_sound : (n : ℕ) → Sound (empty_layout n)
empty_sound n =
    record {
      square = length_all_cells (n * n);
      holds =
          record {
            parent_each = count_length 0 (n * n) ∙ sym (length_all_cells (n * n));
            bits_each = refl;
            ends = λ i. bare_parent (n * n) _;
            hangs = λ t i side o. absurd (no_stones n t i side o);
            meets = λ i j (t, side, o, rest, c). absurd (no_stones n t i side o);
            lone = λ i e. (bare_parent (n * n) i, at_all_cells (n * n) i);
            shows = λ t i k side o h. absurd (no_stones n t i side o);
            seen = λ t i k side o h. absurd (no_stones n t i side o);
          };
    }

-- and stones that can lie keep it so.
all_sound : (l : Layout) (ps : List Placement) → Sound l → can_all_lie l ps ≡ true → Sound (fold with_stone l ps)
unfolding can_all_lie
all_sound l [] ok h = ok
all_sound l (p ∷ ps) ok h =
    let (can, later) = and_parts (can_lie l.board p) (can_all_lie (with_stone l p) ps) h in
    all_sound (with_stone l p) ps (with_stone_sound l p ok can) later

-- One stone more is laid last.
pub layout_push : (n : ℕ) (ps : List Placement) (p : Placement) → layout_of n (ps ++ p ∷ []) ≡ with_stone (layout_of n ps) p
layout_push n ps p = fold-append with_stone (empty_layout n) ps (p ∷ [])

-- Stones with one more can all lie exactly when they can, and it can lie on their board.
lie_push : (l : Layout) (ps : List Placement) (p : Placement) →
    can_all_lie l (ps ++ p ∷ []) ≡ (can_all_lie l ps && can_lie (fold with_stone l ps).board p)
unfolding can_all_lie
lie_push l [] p = and-true (can_lie l.board p)
lie_push l (q ∷ ps) p = ap (λ c. can_lie l.board q && c) (lie_push (with_stone l q) ps p) ∙ sym (and_assoc (can_lie l.board q) _ _)

-- No stones are legal, and leave the board empty.
pub legal_none : (n : ℕ) → AreLegal n []
unfolding can_all_lie
legal_none n = refl

pub nothing_first : (n i : ℕ) → at (board_of n []) i ≡ 0
nothing_first n i = at_all_cells (n * n) i

-- Of legal stones: the layout is sound, and the last could lie on the board of those before it.
pub legal_sound : (n : ℕ) (ps : List Placement) → AreLegal n ps → Sound (layout_of n ps)
legal_sound n ps h = all_sound (empty_layout n) ps (empty_sound n) h

pub legal_push : (n : ℕ) (ps : List Placement) (p : Placement) → AreLegal n ps → can_lie (board_of n ps) p ≡ true → AreLegal n (ps ++ p ∷ [])
legal_push n ps p h can = lie_push (empty_layout n) ps p ∙ and_from _ _ h can

pub legal_last : (n : ℕ) (ps : List Placement) (p : Placement) → AreLegal n (ps ++ p ∷ []) → AreLegal n ps × (can_lie (board_of n ps) p ≡ true)
legal_last n ps p h = and_parts (can_all_lie (empty_layout n) ps) (can_lie (board_of n ps) p) (sym (lie_push (empty_layout n) ps p) ∙ h)

-- Boards stay as wide as they are, and have all their cells.
wide_kept : (l : Layout) (ps : List Placement) → (fold with_stone l ps).board.wide ≡ l.board.wide
wide_kept l [] = refl
wide_kept l (p ∷ ps) = wide_kept (with_stone l p) ps

pub board_wide : (n : ℕ) (ps : List Placement) → (board_of n ps).wide ≡ n
board_wide n ps = wide_kept (empty_layout n) ps

pub board_cells : (n : ℕ) (ps : List Placement) → AreLegal n ps → length (board_of n ps).cells ≡ n * n
board_cells n ps h = (legal_sound n ps h).square ∙ ap (λ w. w * w) (board_wide n ps)

-- Legal stones leave a board as it can be.
good_kept : (l : Layout) (ps : List Placement) → can_all_lie l ps ≡ true → Good l.board → Good (fold with_stone l ps).board
unfolding can_all_lie
good_kept l [] h good = good
good_kept l (p ∷ ps) h good =
    let (can, later) = and_parts (can_lie l.board p) (can_all_lie (with_stone l p) ps) h in
    let side = (lie_parts l.board p can).0 in
    good_kept (with_stone l p) ps later (good_set l.board p.side p.cell (omega arith) good)

pub board_good : (n : ℕ) (ps : List Placement) → AreLegal n ps → 0 < n → Good (board_of n ps)
board_good n ps h some = good_kept (empty_layout n) ps h (good_empty n some)

-- One stone more: the board has it, and its groups have joined.
pub board_push : (n : ℕ) (ps : List Placement) (p : Placement) → board_of n (ps ++ p ∷ []) ≡ put (board_of n ps) p.side p.cell
board_push n ps p = ap (λ l. l.board) (layout_push n ps p)

pub forest_push : (n : ℕ) (ps : List Placement) (p : Placement) →
    forest_of n (ps ++ p ∷ []) ≡ place (board_of n ps) p.side p.cell (forest_of n ps)
forest_push n ps p = ap (λ l. l.forest) (layout_push n ps p)

-- What stands on x does not matter to the groups that join there.
pub place_alike : (b : Board) (s t x : ℕ) (f : Forest) → place (put b t x) s x f ≡ place b s x f
place_alike b s t x f =
    adopt_alike (put b t x) b s x (neighbour_of b.wide x)
    (λ k y e.
    let other : y ≢ x = λ same. both_ways _ (next_apart b.wide x) (subst (λ z. next_to b.wide x z ≡ true) same (neighbour_next b.wide x k y e)) in
    get_or-set_other b.cells x y t 0 other)
    6 _

-- Cells that are those of the board of the stones lie on that board.
pub board_laid : (n : ℕ) (ps : List Placement) (cells : List ℕ) → cells ≡ (board_of n ps).cells → laid n cells ≡ board_of n ps
board_laid n ps cells e = λ i. record { wide = sym (board_wide n ps) i; cells = e i }
