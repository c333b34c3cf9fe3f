-- What a worked game says: which answers are right for its calls from a new game, and that no
-- others are. Definitions only.
use Rattle.std.specs.Prelude.{◌≡◌, ℕ, ◌≤◌, List, [], ◌∷◌, ◌++◌, length, map}
use Rattle.hexboard.specs.Games.{Game, new_game, Call, who, Answer, way, AreRight}
use Rattle.theorems.specs.Settled.{settled_part}

-- From a new game on the board n wide these answers are right for the calls, and nothing else is.
pub record AreOnlyRight (n : ℕ) (calls : List Call) (answers : List Answer) : Type 0 where
  pub left : Game
  pub right : AreRight (new_game n) calls answers left
  pub only : (others : List Answer) (h : Game) → AreRight (new_game n) calls others h →
      others ≡ answers

-- From a new game on the board n wide these answers are right for the calls, and then way w of side
-- s for who has connected. Of any other right answers what the rules settle is the same, so that
-- they end in a way of side s; if that is no longer than w, it is w.
pub record EndsInShortest (n : ℕ) (calls : List Call) (answers : List Answer) (s : ℕ) (w : List ℕ)
    : Type 0 where
  pub left : Game
  pub right : AreRight (new_game n) (calls ++ who ∷ []) (answers ++ way s w ∷ []) left
  pub only : (others : List Answer) (h : Game) →
      AreRight (new_game n) (calls ++ who ∷ []) others h →
      map settled_part others ≡ map settled_part answers ++ way s [] ∷ []
  pub shortest : (others : List Answer) (v : List ℕ) (h : Game) →
      AreRight (new_game n) (calls ++ who ∷ []) (others ++ way s v ∷ []) h →
      length v ≤ length w → v ≡ w
