-- How a game by value and the lent memory stand for a game of the rules.
use Rattle.std.specs.Prelude.{◌≡◌, ℕ, ◌*◌, List, length, take, Some, None, Option, Result}
use Rattle.std.specs.Prelude.{MatchResult}
use Rattle.hexboard.specs.Games as games
use Rattle.hexboard.specs.Sides.{number}
use Rattle.hexboard.specs.Words.{words}
use Rattle.hexboard.specs.declared.side.Side.{Side}
use Rattle.wire.specs.Numbers.{reason}
use Rattle.wire.specs.declared.refusal.Refusal.{Refusal}
use Rattle.history.specs.Played.{game_of, Played, winner_of, Kept}
use Rattle.history.specs.declared.game.Game.{Game}

-- 0 if nobody has won, else the side
abbrev pub won_by : Option Side → ℕ
won_by None = 0
won_by (Some side) = number side

-- what the parts of the lent memory hold: the stones, the moves, and the groups with their borders
pub record Memory : Type 0 where
  pub stones : List ℕ
  pub log : List ℕ
  pub parents : List ℕ
  pub borders : List ℕ

abbrev pub lent : List ℕ → List ℕ → List ℕ → List ℕ → Memory
lent stones log parents borders = record {
  stones = stones;
  log = log;
  parents = parents;
  borders =
      borders;
}

-- parts as long as a board of so many cells needs
pub record Long (cells : ℕ) (m : Memory) : Type 0 where
  pub stones : length m.stones ≡ cells
  pub log : length m.log ≡ cells * 2
  pub parents : length m.parents ≡ cells * 2
  pub borders : length m.borders ≡ cells

-- the moves that were made, read from the log
abbrev pub moves_in : Game → Memory → List ℕ
moves_in g m = take g.count (words m.log)

-- the game of the rules
abbrev pub formal : Game → Memory → games.Game
formal g m = game_of g.size.n (moves_in g m)

-- The memory holds the game: it is the image of the moves in the log, which can be made, and the
-- game by value agrees with them.
pub record Holds (g : Game) (m : Memory) : Type 0 where
  pub all : length (moves_in g m) ≡ g.count
  pub played : Played g.size.n (moves_in g m)
  pub kept : Kept g.size.n (moves_in g m) m.stones m.log m.parents m.borders
  pub winner : won_by g.winner ≡ winner_of g.size.n (moves_in g m)

-- A call is served: the answer is right for the games before and after, and the memory holds the
-- game after it.
pub record Served (g : Game) (m : Memory) (call : games.Call) (answer : games.Answer) (h : Game)
    (k : Memory) : Type 0 where
  pub right : games.Right (formal g m) call answer (formal h k)
  pub holds : Holds h k
  pub same_size : h.size ≡ g.size

-- It is refused: that is the right answer, and nothing has changed.
pub record TurnedAway (g : Game) (m : Memory) (call : games.Call) (why : Refusal)
    (k : Memory) : Type 0 where
  pub right : games.Right (formal g m) call (games.refused (reason why).number (reason why).place)
      (formal g m)
  pub unchanged : k ≡ m

-- one or the other; what is answered is a number, told of the game afterwards; for a move it is how
-- many were made before it
abbrev pub Settled : Game → Memory → games.Call → (Game → ℕ) → Memory → Result Game Refusal → Type 0
Settled g m call told k r = MatchResult r (λ h. Served g m call
    (games.number (told h)) h k) (λ why. TurnedAway g m call why k)
