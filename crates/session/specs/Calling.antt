-- What a row of bytes asked of a game in lent memory does, and the bytes that answer it.
use Rattle.std.specs.Prelude.{◌≡◌, ℕ, ◌+◌, ◌*◌, ◌<◌, ◌≤◌, List, ◌++◌, length, drop, Some, None}
use Rattle.std.specs.Prelude.{Option, MatchResult}
use Rattle.hexboard.specs.Games as games
use Rattle.wire.specs.Bytes.{shown}
use Rattle.wire.specs.Formal.{asked}
use Rattle.wire.specs.Numbers.{reason}
use Rattle.wire.specs.Reading.{read}
use Rattle.history.specs.Holds.{Memory, formal, Holds}
use Rattle.history.specs.declared.game.Game.{Game}
use Rattle.session.specs.Short.{Short}

-- an answer's bytes stand at the front of old, which becomes new; behind them nothing changes
pub record Shown (a : games.Answer) (old new : List ℕ) (size : ℕ) : Type 0 where
  pub many : size ≡ length (shown a)
  pub bytes : new ≡ shown a ++ drop size old

-- an answer is a refusal
abbrev pub Refuses : games.Answer → Type 0
Refuses (games.refused r p) = Unit {0}
Refuses (games.number n) = ⊥
Refuses (games.way s w) = ⊥
Refuses (games.yes next) = ⊥
Refuses games.no = ⊥
Refuses games.too_many = ⊥

-- In game g these bytes are answered by a, and h is the game afterwards: right by the rules if they
-- are a call, else refused where they cease to be one.
abbrev pub RightBytes : games.Game → List ℕ → games.Answer → games.Game → Type 0
RightBytes g bytes a h =
    MatchResult (read bytes) (λ call. games.Right g (asked call) a h)
    (λ why. (a ≡ games.refused (reason why).number (reason why).place) × (h ≡ g))

-- Game g in memory m becomes game h in memory k; old are the bytes lent for the answer, which
-- become new.
pub record Taken (g : Game) (m : Memory) (scratch bytes old : List ℕ) (h : Game) (k : Memory)
    (scratch' new : List ℕ) (size : ℕ) : Type 0 where
  pub answer : games.Answer
  pub right : RightBytes (formal g m) bytes answer (formal h k)
  pub short : Short (formal g m).board answer
  pub shown_in : Shown answer old new size
  pub holds : Holds h k
  pub room : length scratch' ≡ length scratch
  pub same_size : h.size ≡ g.size
  pub refused : Refuses answer → (h ≡ g) × (k ≡ m) × (scratch' ≡ scratch)

-- the same, or there is no room for every answer, two bytes for each cell and 8 more, and nothing
-- changes
abbrev pub Called : Game → Memory → List ℕ → List ℕ → List ℕ → Game → Memory → List ℕ → List ℕ →
    Option ℕ → Type 0
Called g m scratch bytes old h k scratch' new None =
    (length old < 2 * (g.size.n * g.size.n) + 8) × (h ≡ g) × (k ≡ m) × (scratch' ≡ scratch)
    × (new ≡ old)
Called g m scratch bytes old h k scratch' new (Some size) =
    (2 * (g.size.n * g.size.n) + 8 ≤ length old) × Taken g m scratch bytes old h k scratch' new size
