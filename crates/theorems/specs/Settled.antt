-- What the rules leave no choice of. Definitions only.
use Rattle.std.specs.Prelude.{◌≡◌, ◌⊎◌, List, [], map}
use Rattle.hexboard.specs.Games.{Game, Call, Answer, way, yes, no, too_many, AreRight}
use Rattle.hexboard.specs.Promise.{Good}

-- what the rules settle of an answer: all of it but which way of a side is shown, and what is said
-- of whether a side can force
abbrev pub settled_part : Answer → Answer
settled_part (way s w) = way s []
settled_part (yes i) = no
settled_part too_many = no
settled_part a = a

-- From any game, two lists of right answers to the same calls are the same in what the rules
-- settle, and leave the same game.
abbrev pub RulesSettle : Type 0
RulesSettle =
    (g h k : Game) (calls : List Call) (answers others : List Answer) →
    Good g.board → (g.turn ≡ 1) ⊎ (g.turn ≡ 2) →
    AreRight g calls answers h → AreRight g calls others k →
    (map settled_part answers ≡ map settled_part others) × (h ≡ k)
