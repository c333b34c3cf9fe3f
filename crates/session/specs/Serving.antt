-- What a call does to a game in lent memory, and what it is answered by.
use Rattle.std.specs.Prelude.{◌≡◌, ℕ, ◌*◌, ◌≤◌, List, length, take, drop}
use Rattle.hexboard.specs.Games as games
use Rattle.hexboard.specs.Words.{words}
use Rattle.wire.specs.Formal.{asked}
use Rattle.wire.specs.declared.call.Call.{Call}
use Rattle.wire.specs.declared.refusal.Refusal.{Refusal}
use Rattle.history.specs.Holds.{Memory, formal, Holds}
use Rattle.history.specs.declared.game.Game.{Game}
use Rattle.endgame.specs.Verdicts.{bytes_of_table}
use Rattle.session.specs.Replies.{Reply, replied, way_cells, HasBytes}
use Rattle.session.specs.Short.{Short}
use Rattle.wire.specs.declared.answer.Answer.TheVariants.{Refused}

-- Room on a board n wide: scratch for the search for a way, four bytes a cell, and for the table of
-- an end; and for the cells of a way, two bytes a cell.
pub record Room (n scratch way : ℕ) : Type 0 where
  pub searched : 4 * (n * n) ≤ scratch
  pub tabled : bytes_of_table n ≤ scratch
  pub written : 2 * (n * n) ≤ way

-- what lies beside the memory of the game: scratch, which holds anything, and the bytes that a way
-- is written to
pub record Beside : Type 0 where
  pub scratch : List ℕ
  pub way : List ℕ

abbrev pub beside : List ℕ → List ℕ → Beside
beside scratch way = record { scratch = scratch; way = way }

-- A question about game g in memory m is answered right, and the game is as it was.
abbrev pub Told : Game → Memory → games.Call → games.Answer → Type 0
Told g m question a = games.Right (formal g m) question a (formal g m)

-- A call on game g in memory m leads to game h in memory k, and is answered by a reply: it is right
-- by the rules for the two games, a way that it shows is a shortest, the memory holds the game
-- again, a refusal changes nothing at all, and of the way's bytes only those of the way are
-- written.
pub record Answered (g : Game) (m : Memory) (s : Beside) (call : Call) (h : Game) (k : Memory)
    (t : Beside) (reply : Reply) : Type 0 where
  pub right : games.Right (formal g m) (asked call) (replied reply t.way) (formal h k)
  pub short : Short (formal g m).board (replied reply t.way)
  pub holds : Holds h k
  pub same_size : h.size ≡ g.size
  pub refused : (why : Refusal) → reply ≡ Refused why → (h ≡ g) × (k ≡ m) × (t ≡ s)
  pub has_bytes : HasBytes reply
  pub counted : way_cells reply ≡ length (words (take (2 * way_cells reply) t.way))
  pub fits : way_cells reply ≤ g.size.n * g.size.n
  pub behind : drop (2 * way_cells reply) t.way ≡ drop (2 * way_cells reply) s.way
