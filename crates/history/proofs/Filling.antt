-- Each move fills a cell: how many moves there are, and how many cells are empty.
use Rattle.std.proofs.Common.{◌≡◌, ℕ, zero, suc, ◌+◌, ◌*◌, ◌<◌, true, List, [], ◌∷◌, length, refl, ap, arith}
use Rattle.std.specs.List.{fold}
use Rattle.std.proofs.lemmas.Bool.{and_parts}
use Rattle.hexboard.specs.Board.{all_cells, empties, other}
use Rattle.hexboard.proofs.Boards.{empties_set}
use Rattle.theorems.proofs.Stones.{empty_counts}
use Rattle.groups.specs.Stones.{Placement, Layout, empty_layout, with_stone, is_free, can_lie, can_all_lie}
use Rattle.groups.specs.Moves.{in_turn, stones_of, board_of, Legal}
use Rattle.groups.proofs.Positions.{Sound, free_parts, lie_parts, with_stone_sound, empty_sound}

-- so many empty cells are empty
all_empty : (k : ℕ) → empties (all_cells k) ≡ k
unfolding all_cells empties
all_empty zero = refl
all_empty (suc k) = let h = all_empty k in omega arith

-- the empty cells get fewer by one with each stone
fewer : (l : Layout) (ps : List Placement) → Sound l → can_all_lie l ps ≡ true → empties (fold with_stone l ps).board.cells + length ps ≡ empties l.board.cells
unfolding can_all_lie
fewer l [] ok h = omega arith
fewer l (p ∷ ps) ok h =
    let (can, later) = and_parts (can_lie l.board p) (can_all_lie (with_stone l p) ps) h in
    let (side, is) = lie_parts l.board p can in
    let free = free_parts l.board p.cell is in
    let one = empties_set l.board.cells p.cell p.side free.0 free.1 (omega arith) in
    omega (arith, fewer (with_stone l p) ps (with_stone_sound l p ok can) later)

-- a move lays one stone
as_many : (s : ℕ) (ms : List ℕ) → length (in_turn s ms) ≡ length ms
as_many s [] = refl
as_many s (m ∷ ms) = ap suc (as_many (other s) ms)

-- the cells that are not empty are as many as the moves
pub moves_and_empties : (n : ℕ) (ms : List ℕ) → Legal n ms → empties (board_of n ms).cells + length ms ≡ n * n
moves_and_empties n ms h =
    let laid = fewer (empty_layout n) (stones_of ms) (empty_sound n) h in
    omega (arith, laid, as_many 1 ms, all_empty (n * n))

-- while a cell is free there is room for a move more
pub room : (n : ℕ) (ms : List ℕ) (x : ℕ) → Legal n ms → is_free (board_of n ms) x ≡ true → length ms < n * n
room n ms x h is =
    let free = free_parts (board_of n ms) x is in
    omega (arith, moves_and_empties n ms h, empty_counts (board_of n ms).cells x free.0 free.1)
