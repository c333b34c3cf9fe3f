-- The ground of a side on a board: its own places are its stones, nearness goes both ways, and what crosses it is a way.
use Rattle.std.proofs.Common.{◌≡◌, ℕ, ◌*◌, ◌<◌, ◌≤◌, true, ◌&&◌, eqb, ltb, List, [], ◌∷◌, length, Some, sym, refl, ap, ◌∙◌, mul-le-mul, arith}
use Rattle.std.proofs.lemmas.Bool.{and_parts, ltb-true}
use Rattle.hexboard.specs.Board.{Board, at, next_to, begins, goes_on, is_way, Connects}
use Rattle.hexboard.specs.Geometry.{laid, neighbour_of}
use Rattle.hexboard.proofs.Adjacent.{next_symmetric, neighbour_all}
use Rattle.hexboard.proofs.TwoBytes.{words_length}
use Rattle.paths.specs.declared.frontier.Frontier.{Frontier}
use Rattle.paths.specs.Grounds.{HasRoom}
use Rattle.paths.specs.Search.{Ahead}
use Rattle.paths.specs.Ways.{is_stone, ground, leads, crosses}
use Rattle.paths.proofs.Crossings.{Mutual, no_way}

-- A stone stands on a cell of the board.
pub own_inside : (b : Board) (s i : ℕ) → (ground b s).own i ≡ true → i < length b.cells
own_inside b s i h = ltb-true i (length b.cells) (and_parts (ltb i (length b.cells)) (eqb (at b i) s) h).0

pub ground_mutual : (b : Board) (s : ℕ) → Mutual (ground b s)
ground_mutual b s i j = next_symmetric b.wide i j

leads_on : (b : Board) (s i : ℕ) (js : List ℕ) → goes_on b s i js ≡ leads (ground b s) i js
unfolding goes_on leads
leads_on b s i [] = refl
leads_on b s i (j ∷ js) = ap (λ r. (next_to b.wide i j && (ltb j (length b.cells) && eqb (at b j) s)) && r) (leads_on b s j js)

-- A way of a side is a row of places that crosses its ground.
pub way_crosses : (b : Board) (s : ℕ) (w : List ℕ) → is_way b s w ≡ crosses (ground b s) w
unfolding is_way crosses
way_crosses b s [] = refl
way_crosses b s (i ∷ is) = ap (λ r. (begins b.wide s i && (ltb i (length b.cells) && eqb (at b i) s)) && r) (leads_on b s i is)

-- Where a search has looked round all that it lists, the side has not connected.
pub not_connected : (b : Board) (s : ℕ) (queue from : List ℕ) (h t : ℕ) → Ahead (ground b s) queue from h t → t ≤ h → Connects b s → ⊥
not_connected b s queue from h t ahead all (w, way) = no_way (ground_mutual b s) ahead all w (sym (way_crosses b s w) ∙ way)

-- A board of the desk has so few cells that two bytes can count them.
pub few_cells : (n : ℕ) → n ≤ 19 → n * n ≤ 361
few_cells n few = mul-le-mul few few

-- The neighbours of a cell are all the stones that are near it.
pub neighbours_on : (n s : ℕ) (cells : List ℕ) (y k : ℕ) → length cells ≡ n * n → is_stone cells s y ≡ true → 6 ≤ k
    → (x : ℕ) → next_to n y x ≡ true → is_stone cells s x ≡ true → (m : ℕ) × (m < k) × (neighbour_of n y m ≡ Some x)
neighbours_on n s cells y k board own all x near mine =
    let a = own_inside (laid n cells) s y own in
    let b = own_inside (laid n cells) s x mine in
    let (m, few, e) = neighbour_all n y x (omega arith) (omega arith) near in
    (m, omega arith, e)

-- Memory with two bytes for each cell has room.
pub has_room : (n : ℕ) (f : Frontier) → length f.queue.now ≡ 2 * (n * n) → length f.from.now ≡ 2 * (n * n) → HasRoom f n
has_room n f q p = record { queued = omega (arith, words_length f.queue.now); marked = omega (arith, words_length f.from.now) }
