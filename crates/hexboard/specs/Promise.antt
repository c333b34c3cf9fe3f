-- What is promised, each promise a statement: of the desk, that all its answers are right; of
-- boards of every size, six theorems.
use Rattle.std.specs.Prelude.{◌≡◌, ℕ, ◌+◌, ◌*◌, ◌/◌, ◌%◌, ◌<◌, ◌≤◌, Bool, true, ◌&&◌, ◌≢◌, ◌⊎◌}
use Rattle.std.specs.Prelude.{List, [], ◌∷◌, length, ◌==◌, nat_lt, if◌then◌else◌}
use Rattle.hexboard.specs.Board.{Board, at, Connects, empty, empties, put, other}
use Rattle.hexboard.specs.Games.{Forces, Game, new_game, Call, can_force, Answer, too_many, Right}

-- THE MAIN PROMISE. A desk is taken for what the contracts of opening and calling say of the lent
-- memory and of the answer. For every list of calls, each answer is right for the game that the
-- calls before it left. Whether the side to move can force that it connects is answered, and not
-- put off as too many, for all positions with at most 16 empty cells.

-- what a desk keeps between two calls
pub record Memory : Type 0 where
  pub words : List ℕ

-- how it begins on a board n wide, and what a call leaves and answers
pub record Desk : Type 0 where
  pub opened : ℕ → Memory
  pub next : Memory → Call → Memory
  pub says : Memory → Call → Answer

-- the desk answers each of these calls right, from memory m, which stands for game g
pub data AllRight (d : Desk) : Memory → Game → List Call → Type 0 where
  none : {m : Memory} {g : Game} → AllRight d m g []
  one : {m : Memory} {g h : Game} {c : Call} {cs : List Call} →
      Right g c (d.says m c) h → (c ≡ can_force → empties g.board.cells ≤ 16 →
      d.says m c ≢ too_many) → AllRight d (d.next m c) h cs → AllRight d m g (c ∷ cs)

unfoldable pub AnswersRight : Desk → Type 0
AnswersRight d = (n : ℕ) (cs : List Call) → 0 < n → n ≤ 19 → AllRight d (d.opened n) (new_game n) cs

-- Boards as they can be: at least one cell wide, with as many cells as there should be, each empty
-- or of a side.
unfoldable pub good_cells : List ℕ → Bool
good_cells [] = true
good_cells (c ∷ cs) = nat_lt c 3 && good_cells cs

abbrev pub Good : Board → Type 0
Good b = (0 < b.wide) × (length b.cells ≡ b.wide * b.wide) × (good_cells b.cells ≡ true)

-- 1. Never both: on no board, however many cells are whose, do both sides connect.
unfoldable pub NeverBoth : Type 0
NeverBoth = (b : Board) → Good b → Connects b 1 → Connects b 2 → ⊥

-- 2. Never neither: on a board without empty cells one side connects, whatever its size.
unfoldable pub NeverNeither : Type 0
NeverNeither = (b : Board) → Good b → empties b.cells ≡ 0 → Connects b 1 ⊎ Connects b 2

-- 3. The first one wins: on an empty board of any size the side to move can force that it connects.
unfoldable pub FirstWins : Type 0
FirstWins = (n : ℕ) → 0 < n → Forces 1 (empty n) 1

-- 4. One of both: in every position exactly one of the two can force that it connects.
unfoldable pub OneOfBoth : Type 0
OneOfBoth = (b : Board) (t : ℕ) → Good b → (t ≡ 1) ⊎ (t ≡ 2) → (Forces 1 b t ⊎ Forces 2 b t)
    × (Forces 1 b t → Forces 2 b t → ⊥)

-- 5. A stone more is never a loss: what a side can force it can force with one more stone of its
-- own, whoever is to move.
unfoldable pub NeverALoss : Type 0
NeverALoss = (b : Board) (s t i : ℕ) → Good b → (s ≡ 1) ⊎ (s ≡ 2) → (t ≡ 1) ⊎ (t ≡ 2) →
    i < length b.cells → at b i ≡ 0 → Forces s b t → Forces s (put b s i) t

-- 6. Turned over: with rows and columns exchanged, and the sides, each has what the other had.

-- the cell in row i % n and column i / n
unfoldable pub across : ℕ → ℕ → ℕ
across n i = (i % n) * n + i / n

-- board c is board b turned over: each stone is across, and of the other side
abbrev pub Turned : Board → Board → Type 0
Turned b c =
    (c.wide ≡ b.wide) × (length c.cells ≡ length b.cells)
    × ((i : ℕ) → i < length b.cells → at c (across b.wide i) ≡ (if at b i == 0 then 0
    else other (at b i)))

unfoldable pub TurnedOver : Type 0
TurnedOver = (b c : Board) (s t : ℕ) → Good b → Turned b c → (s ≡ 1) ⊎ (s ≡ 2) → (t ≡ 1) ⊎ (t ≡ 2) →
    Forces s b t → Forces (other s) c (other t)
