-- The ways of a board n wide and n tall are the rows of its cells that lead by row and column: they are taken apart and put together so.
use Rattle.std.proofs.Common.{◌≡◌, ℕ, ◌+◌, ◌/◌, ◌%◌, Bool, true, false, cond, eqb, ◌&&◌, List, [], ◌∷◌, sym, refl, ap, ap₂, ◌∙◌}
use Rattle.hexboard.specs.Board.{Board, next_to, begins, ends, goes_on, is_way, Connects}
use Rattle.hexboard.specs.Shapes.{leads_on, leads, starts, finishes}
use Rattle.hexboard.specs.Rows.{Stone}
use Rattle.theorems.proofs.Leading.{Track, Leads, IsLed, on_parts, on_from, row_parts, row_from}
use Rattle.theorems.proofs.RhombusWays.{board_track, stone_parts, stone_from}

-- what a way of the board goes by
abbrev pub track : Board → ℕ → Track
track b s = board_track b.wide b.wide s b.cells

-- What leads on from a cell is the same, and what is a way.
on_same : (b : Board) (s i : ℕ) (js : List ℕ) → goes_on b s i js ≡ leads_on (track b s).next (track b s).own (track b s).last i js
unfolding goes_on leads_on
on_same b s i [] = refl
on_same b s i (j ∷ js) = ap (λ rest. ((track b s).next i j && (track b s).own j) && rest) (on_same b s j js)

pub way_same : (b : Board) (s : ℕ) (is : List ℕ) →
    is_way b s is ≡ leads (track b s).next (track b s).own (track b s).first (track b s).last is
unfolding is_way leads
way_same b s [] = refl
way_same b s (i ∷ is) = ap (λ rest. ((track b s).first i && (track b s).own i) && rest) (on_same b s i is)

-- So a board's way leads by row and column, and the other way round.
pub way_leads : (b : Board) (s : ℕ) (is : List ℕ) → is_way b s is ≡ true → Leads (track b s) is
way_leads b s is e = sym (way_same b s is) ∙ e

pub leads_way : (b : Board) (s : ℕ) (is : List ℕ) → Leads (track b s) is → is_way b s is ≡ true
leads_way b s is e = way_same b s is ∙ e

pub of_board : (b : Board) (s : ℕ) → Connects b s → IsLed (track b s)
of_board b s w = (w.0, way_leads b s w.0 w.1)

pub to_board : (b : Board) (s : ℕ) → IsLed (track b s) → Connects b s
to_board b s w = (w.0, leads_way b s w.0 w.1)

-- A way that goes on has its next stone beside the last.
pub goes_on_parts : (b : Board) (s i j : ℕ) (js : List ℕ) → goes_on b s i (j ∷ js) ≡ true → (next_to b.wide i j ≡ true) × Stone b s j × (goes_on b s j js ≡ true)
goes_on_parts b s i j js e =
    let p = on_parts (track b s) i j js (sym (on_same b s i (j ∷ js)) ∙ e) in (p.0, stone_parts s b.cells j p.1, on_same b s j js ∙ p.2)

-- And with such a stone it goes on.
pub goes_on_from : (b : Board) (s i j : ℕ) (js : List ℕ) → next_to b.wide i j ≡ true → Stone b s j → goes_on b s j js ≡ true → goes_on b s i (j ∷ js) ≡ true
goes_on_from b s i j js n h e =
    on_same b s i (j ∷ js) ∙ on_from (track b s) i j js n (stone_from s b.cells j h.0 h.1) (sym (on_same b s j js) ∙ e)

-- A way begins with a stone at the side's first border.
pub way_parts : (b : Board) (s i : ℕ) (is : List ℕ) → is_way b s (i ∷ is) ≡ true → (begins b.wide s i ≡ true) × Stone b s i × (goes_on b s i is ≡ true)
way_parts b s i is e =
    let p = row_parts (track b s) i is (way_leads b s (i ∷ is) e) in
    (p.0, stone_parts s b.cells i p.1, on_same b s i is ∙ p.2)

-- And with such a stone it begins.
pub way_from : (b : Board) (s i : ℕ) (is : List ℕ) → begins b.wide s i ≡ true → Stone b s i → goes_on b s i is ≡ true → is_way b s (i ∷ is) ≡ true
way_from b s i is f h e =
    leads_way b s (i ∷ is)
    (row_from (track b s) i is f (stone_from s b.cells i h.0 h.1) (sym (on_same b s i is) ∙ e))
