-- The game that is open at a table, and what a value that tells a reply stands for. Definitions
-- only.
use Rattle.std.specs.Prelude.{ℕ, List, [], Some, None, vec_items, Option, if◌then◌else◌}
use Rattle.hexboard.specs.Games as games
use Rattle.wire.specs.Formal as formal
use Rattle.session.specs.Desks.{desk_game}
use Rattle.session.specs.Replies.{replied, way_bytes}
use Rattle.driver.specs.Served.{Reply, opened, answer}
use Rattle.driver.specs.Exchanged.{Exchange}
use Rattle.driver.specs.declared.limits.Limits.{Limits}
use Rattle.driver.specs.declared.table.Table.{Table}
use Rattle.driver.specs.declared.told.Served.{Served}
use Rattle.driver.specs.declared.told.Told.{Told}
use Rattle.driver.specs.declared.told.Told.TheVariants as told
use Rattle.std.specs.Borrow.{Bor}

-- the game on the board that is open, if one is
abbrev pub game_on : Table → Option games.Game
game_on t = if t.is_open then Some (desk_game t.desk) else None

-- how far it goes
abbrev pub limits_of : Table → Limits
limits_of t = t.limits

-- the bytes of the ways that it tells
abbrev pub way_of : Table → List ℕ
way_of t = vec_items t.desk.way

-- the reply that a value is, with its way, if it has one, at the front of these bytes
abbrev pub reply_in : List ℕ → Told ℕ → Reply
reply_in way (told.Opened n) = opened n
reply_in way (told.Answer a) = answer (replied a way)

-- the reply that a value is that has its way itself
abbrev pub reply_of : Told (Bor (List ℕ)) → Reply
reply_of (told.Opened n) = opened n
reply_of (told.Answer a) = answer (formal.told a)

-- the bytes of the cells that it shows as a way
abbrev pub shown_bytes : Told (Bor (List ℕ)) → List ℕ
shown_bytes (told.Opened n) = []
shown_bytes (told.Answer a) = way_bytes a

-- what became of a line, with the table after it
abbrev pub exchange_at : Table → Served ℕ → Exchange
exchange_at t served = record {
  asked = served.asked;
  reply = reply_in (way_of t) served.told;
  game = game_on t;
}
