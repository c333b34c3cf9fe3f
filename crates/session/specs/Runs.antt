-- The promise for every list of calls: each answer is right for the game that the calls before it
-- left.
use Rattle.std.specs.Prelude.{◌≡◌, ℕ, ◌<◌, ◌≤◌, min, List, [], ◌∷◌, ◌++◌, map}
use Rattle.std.specs.Borrow.{Bor}
use Rattle.hexboard.specs.Board.{empties}
use Rattle.hexboard.specs.Games as games
use Rattle.hexboard.specs.Promise as promise
use Rattle.wire.specs.Bytes.{call_bytes, shown}
use Rattle.wire.specs.declared.call.Call.TheVariants.{Move, Back, Who, CanForce}
use Rattle.session.specs.Calling.{RightBytes}
use Rattle.session.specs.Short.{Short}

-- From game g these rows of bytes are answered by these answers, one each, and lead to game h. Each
-- answer is right for the game that the rows before it left. A way that is shown is a shortest. Too
-- many is said only with more than 16 empty cells.
pub data Runs : games.Game → List (List ℕ) → List games.Answer → games.Game → Type 0 where
  none : {g : games.Game} → Runs g [] [] g
  one : {g h k : games.Game} {bytes : List ℕ} {a : games.Answer}
      {rows : List (List ℕ)} {answers : List games.Answer} →
      RightBytes g bytes a h → Short g.board a → (a ≡ games.too_many → 16 < empties g.board.cells) →
      Runs h rows answers k → Runs g (bytes ∷ rows) (a ∷ answers) k

-- what a desk of the rules says to calls from memory m, one after the other
abbrev pub says_all : promise.Desk → promise.Memory → List games.Call → List games.Answer
says_all d m [] = []
says_all d m (c ∷ cs) = d.says m c ∷ says_all d (d.next m c) cs

-- the bytes that ask a call of the rules; for a cell that two bytes do not hold those of cell
-- 65535, which no board has either
abbrev pub asking : games.Call → List ℕ
asking (games.moves cell) = call_bytes (Move (min cell 65535))
asking games.back = call_bytes Back
asking games.who = call_bytes Who
asking games.can_force = call_bytes CanForce

-- A desk of the rules whose answers have these bytes, to the calls that these rows ask on a new
-- board n wide, answers all of them right.
abbrev pub DesksAreRight : ℕ → List (List ℕ) → List (List ℕ) → Type 0
DesksAreRight n rows told =
    (d : promise.Desk) (cs : List games.Call) → map asking cs ≡ rows →
    map shown (says_all d (d.opened n) cs) ≡ told →
    promise.AllRight d (d.opened n) (games.new_game n) cs

-- From game g the rows were answered, one by one, to game h, and a listener that agreed with the
-- answers before agrees with these answers' bytes behind them.
pub record Hears (g : games.Game) (rows : List (List ℕ)) (h : games.Game)
    (before after : List (List ℕ) → Type 0) : Type 0 where
  pub answers : List games.Answer
  pub runs : Runs g rows answers h
  pub heard : (earlier : List (List ℕ)) → before earlier → after (earlier ++ map shown answers)

-- The rows were answered on a new board n wide.
pub record Plays (n : ℕ) (rows : List (List ℕ))
    (before after : List (List ℕ) → Type 0) : Type 0 where
  pub some : 0 < n
  pub few : n ≤ 19
  pub last : games.Game
  pub hears : Hears (games.new_game n) rows last before after
  pub desks : DesksAreRight n rows (map shown hears.answers)

-- A desk of the rules says what plays tell: to each list of calls, on each board, the answers whose
-- bytes a listener has heard after a play of the calls' bytes, and no others.
abbrev pub SaysWhatPlaysTell : promise.Desk → Type 0
SaysWhatPlaysTell d =
    (n : ℕ) (cs : List games.Call) → 0 < n → n ≤ 19 →
    Plays n (map asking cs) (λ heard. heard ≡ [])
    (λ heard. heard ≡ map shown (says_all d (d.opened n) cs))

-- So what `Plays` says is the promise: every such desk answers all lists of calls right.
abbrev pub PlaysSuffice : Type 0
PlaysSuffice = (d : promise.Desk) → SaysWhatPlaysTell d → promise.AnswersRight d

-- what the slices hold
abbrev pub rows_of : List (Bor (List ℕ)) → List (List ℕ)
rows_of slices = map (λ slice. slice.now) slices
