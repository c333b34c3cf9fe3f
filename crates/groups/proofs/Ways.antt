-- A way is a row of stones from the first border to the last, and the other way about.
use Rattle.std.proofs.Common.{◌≡◌, ℕ, Bool, true, ◌&&◌, eqb, ltb, ◌↔◌, List, [], ◌∷◌, length, Decides, sym, refl, subst, arith}
use Rattle.std.proofs.lemmas.Bool.{and_parts, and_from, false≢true}
use Rattle.std.proofs.lemmas.Bool.Decides.{nat_tests}
use Rattle.hexboard.specs.Board.{Board, at, next_to, begins, ends, goes_on, is_way, Connects}
use Rattle.hexboard.specs.Rows.{here, step, Stone, Row}
use Rattle.hexboard.specs.Geometry.{touch}
use Rattle.hexboard.proofs.Adjacent.{touch_first, touch_last, touch_few}
use Rattle.groups.proofs.Chains.{first_own}
use Rattle.groups.proofs.Marks.{Has}
use Rattle.groups.proofs.Spanning.{Spanning}

-- the test of a way for a stone of side s on cell i
abbrev is_stone : Board → ℕ → ℕ → Bool
is_stone b s i = ltb i (length b.cells) && eqb (at b i) s

stone_from : (b : Board) (s i : ℕ) → is_stone b s i ≡ true → Stone b s i
stone_from b s i h = grind (arith, nat_tests)

stone_test : (b : Board) (s i : ℕ) → Stone b s i → is_stone b s i ≡ true
stone_test b s i h = grind (arith, nat_tests)

-- Cells that go on from a stone are a row to one at the last border.
pub row_on : (b : Board) (s i : ℕ) (js : List ℕ) → Stone b s i → goes_on b s i js ≡ true → (j : ℕ) × Row b s i j × (ends b.wide s j ≡ true)
unfolding goes_on
row_on b s i [] o h = (i, here o refl, h)
row_on b s i (j ∷ js) o h =
    let (now, later) = and_parts _ _ h in
    let (near, stone) = and_parts (next_to b.wide i j) (is_stone b s j) now in
    let (k, row, end) = row_on b s j js (stone_from b s j stone) later in
    (k, step o near row, end)

-- A row to a stone at the last border goes on there.
pub goes_along : (b : Board) (s : ℕ) {i j : ℕ} → Row b s i j → ends b.wide s j ≡ true → (js : List ℕ) × (goes_on b s i js ≡ true)
unfolding goes_on
goes_along b s (here o e) h = ([], subst (λ k. ends b.wide s k ≡ true) (sym e) h)
goes_along b s (step {i = i} {j = j} o n row) h =
    let (js, on) = goes_along b s row h in
    (j ∷ js, and_from _ _ (and_from (next_to b.wide i j) (is_stone b s j) n (stone_test b s j (first_own (next_to b.wide) row))) on)

-- The first bit of a cell is its first border, the second its last.
pub first_bit : (n s i : ℕ) → Decides (begins n s i) (Has 0 (touch n s i))
first_bit n s i = let (to, from) = touch_first n s i in (λ h. let m = to h in omega arith, λ h. from (omega arith))

pub last_bit : (n s i : ℕ) → Decides (ends n s i) (Has 1 (touch n s i))
last_bit n s i =
    let (to, from) = touch_last n s i in
    let few = touch_few n s i in
    (λ h. let m = to h in omega arith, λ h. from (omega arith))

-- A way starts at a stone at the first border, and goes on from there.
way_row : (b : Board) (s : ℕ) (w : List ℕ) → is_way b s w ≡ true → Spanning (next_to b.wide) (touch b.wide) b s
unfolding is_way
way_row b s [] h = absurd (false≢true h)
way_row b s (i ∷ is) h =
    let (now, later) = and_parts _ _ h in
    let (first, stone) = and_parts (begins b.wide s i) (is_stone b s i) now in
    let (j, row, end) = row_on b s i is (stone_from b s i stone) later in
    record { from = i; to = j; row = row; first = (first_bit b.wide s i).0 first; last = (last_bit b.wide s j).0 end }

row_way : (b : Board) (s : ℕ) → Spanning (next_to b.wide) (touch b.wide) b s → Connects b s
unfolding is_way
row_way b s p =
    let (js, on) = goes_along b s p.row ((last_bit b.wide s p.to).1 p.last) in
    let stone = stone_test b s p.from (first_own (next_to b.wide) p.row) in
    (p.from ∷ js, and_from _ _ (and_from (begins b.wide s p.from) (is_stone b s p.from) ((first_bit b.wide s p.from).1 p.first) stone) on)

-- A side has connected exactly when a row of its stones leads from its first border to its last.
pub connects : (b : Board) (s : ℕ) → Connects b s ↔ Spanning (next_to b.wide) (touch b.wide) b s
connects b s = (λ c. way_row b s c.0 c.1, row_way b s)
