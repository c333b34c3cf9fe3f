-- Games: what a side can force, what is asked, and which answers are right. Definitions only.
use Rattle.std.specs.Prelude.{◌≡◌, ℕ, suc, ◌-◌, ◌<◌, ◌≤◌, true, ◌&&◌, ◌≢◌, ◌⊎◌, List, [], ◌∷◌, ◌++◌}
use Rattle.std.specs.Prelude.{length, ◌==◌, nat_lt, if◌then◌else◌}
use Rattle.hexboard.specs.Board.{Board, at, is_way, Connects, empty, empties, put, other}

-- Forces s b t: on board b, with side t to move, side s can bring it about that it connects,
-- however the other plays. A value of it is a way to play, written out. Play goes on after the
-- other side has connected, which changes nothing: never both sides connect.
pub data Forces (s : ℕ) : Board → ℕ → Type 0 where
  -- it has connected already, whoever is to move
  has : {b : Board} (t : ℕ) → Connects b s → Forces s b t
  -- it is to move, and there is a cell after which it can
  mine : {b : Board} (i : ℕ) → i < length b.cells → at b i ≡ 0 → Forces s (put b s i) (other s) →
      Forces s b s
  -- the other is to move, has a move, and after each of them it can
  theirs : {b : Board} → 0 < empties b.cells →
      ((i : ℕ) → i < length b.cells → at b i ≡ 0 → Forces s (put b (other s) i) s) →
      Forces s b (other s)

-- a game: the board, whose turn it is, and the cells that were moved to, in order
pub record Game : Type 0 where
  pub board : Board
  pub turn : ℕ
  pub moves : List ℕ

-- side 1 moves first
abbrev pub new_game : ℕ → Game
new_game n = record { board = empty n; turn = 1; moves = [] }

-- what is asked of the desk
pub data Call : Type 0 where
  moves : ℕ → Call  -- a stone of the side to move on this cell
  back : Call  -- the last move is taken back
  who : Call  -- who has connected, and how
  can_force : Call  -- whether the side to move can bring it about that it connects

-- what it answers
pub data Answer : Type 0 where
  refused : ℕ → ℕ → Answer  -- the number of the reason, and the place
  number : ℕ → Answer
  way : ℕ → List ℕ → Answer  -- a side, and a way of it
  yes : ℕ → Answer  -- one more than a cell for a move that does it; 0 if the side to move has connected
  no : Answer
  too_many : Answer

-- the last of a list that begins with i
unfoldable pub last_of : ℕ → List ℕ → ℕ
last_of i [] = i
last_of i (j ∷ js) = last_of j js

-- the list without its last
unfoldable pub but_last : List ℕ → List ℕ
but_last [] = []
but_last (i ∷ []) = []
but_last (i ∷ (j ∷ js)) = i ∷ but_last (j ∷ js)

-- the game after a call that is not refused
unfoldable pub after : Game → Call → Game
after g (moves i) =
    if nat_lt i (length g.board.cells) && at g.board i == 0 then record {
      board =
          put g.board g.turn i;
      turn = other g.turn;
      moves = g.moves ++ (i ∷ []);
    } else g
after g back =
    if length g.moves == 0 then g else record {
      board = put g.board 0 (last_of 0 g.moves);
      turn =
          other g.turn;
      moves = but_last g.moves;
    }
after g who = g
after g can_force = g

-- the game is over: somebody has connected and so has won, and no move is made any more
pub data Won (g : Game) : Type 0 where
  won : (s : ℕ) → (s ≡ 1) ⊎ (s ≡ 2) → Connects g.board s → Won g

-- Right g c a h: in game g, a is a right answer to call c, and h is the game afterwards. A refusal
-- names the first reason that applies, of 2 no such cell, 4 the game is over, 5 the cell is not
-- empty, 6 there is no move to take back, and changes nothing.
pub data Right : Game → Call → Answer → Game → Type 0 where
  no_cell : {g : Game} {i : ℕ} → length g.board.cells ≤ i → Right g (moves i) (refused 2 0) g
  is_over : {g : Game} {i : ℕ} → i < length g.board.cells → Won g →
      Right g (moves i) (refused 4 0) g
  taken : {g : Game} {i : ℕ} → i < length g.board.cells → (Won g → ⊥) → (at g.board i ≢ 0) →
      Right g (moves i) (refused 5 0) g
  -- a move is answered by its number, from 0
  made : {g : Game} {i : ℕ} → i < length g.board.cells → (Won g → ⊥) → at g.board i ≡ 0 →
      Right g (moves i) (number (length g.moves)) (after g (moves i))
  none_made : {g : Game} → g.moves ≡ [] → Right g back (refused 6 0) g
  -- a take-back is answered by how many moves are left
  gone_back : {g : Game} → (g.moves ≢ []) →
      Right g back (number (length g.moves - 1)) (after g back)
  -- any way of either side is a right answer, if it is no longer than the board has cells
  by_way : {g : Game} (s : ℕ) (w : List ℕ) → (s ≡ 1) ⊎ (s ≡ 2) → is_way g.board s w ≡ true →
      length w ≤ length g.board.cells → Right g who (way s w) g
  nobody : {g : Game} → (Won g → ⊥) → Right g who (number 0) g
  -- any move after which the side to move still can is a right answer
  forced : {g : Game} (i : ℕ) → i < length g.board.cells → (Won g → ⊥) → at g.board i ≡ 0 →
      Forces g.turn (put g.board g.turn i) (other g.turn) → Right g can_force (yes (suc i)) g
  has_it : {g : Game} → Connects g.board g.turn → Right g can_force (yes 0) g
  not_forced : {g : Game} → (Forces g.turn g.board g.turn → ⊥) → Right g can_force no g
  -- an end of a game with more than 16 empty cells may be too long to look through
  many : {g : Game} → 16 < empties g.board.cells → (Won g → ⊥) → Right g can_force too_many g

-- AreRight g calls answers h: each of the answers is right for its call in the game that the calls
-- before it have left, from game g on, and h is the game after all of them.
pub data AreRight : Game → List Call → List Answer → Game → Type 0 where
  no_calls : {g : Game} → AreRight g [] [] g
  next_call : {g h k : Game} {c : Call} {a : Answer} {calls : List Call} {answers : List Answer} →
      Right g c a h → AreRight h calls answers k → AreRight g (c ∷ calls) (a ∷ answers) k
