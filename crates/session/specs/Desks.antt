-- The game of the rules that a desk stands for, and what its answers are by the rules.
use Rattle.std.specs.Prelude.{◌≡◌, ℕ, ◌+◌, ◌<◌, ◌≤◌, ◌⊎◌, Ok, Err, vec_items, vec_capacity, Option}
use Rattle.std.specs.Prelude.{Result, MatchOption, MatchResult}
use Rattle.hexboard.specs.Board.{Connects}
use Rattle.hexboard.specs.Games as games
use Rattle.hexboard.specs.Sides.{number}
use Rattle.hexboard.specs.declared.side.Side.{Side}
use Rattle.wire.specs.declared.refusal.Refusal.{Refusal}
use Rattle.wire.specs.declared.refusal.Refusal.TheVariants as refusal
use Rattle.history.specs.Holds.{Memory, lent, formal}
use Rattle.session.specs.declared.desk.Desk.{Desk}
use Rattle.session.specs.declared.unopened.Unopened.{Unopened}
use Rattle.session.specs.declared.unopened.Unopened.TheVariants.{Refused, NoMemory}

-- what its memory holds
abbrev pub memory_of : Desk → Memory
memory_of d =
    lent (vec_items d.stones) (vec_items d.log) (vec_items d.parents) (vec_items d.borders)

-- the game that it stands for
abbrev pub desk_game : Desk → games.Game
desk_game d = formal d.game (memory_of d)

-- who has won game g: the side that has connected, or nobody
abbrev pub Outcome : games.Game → Option Side → Type 0
Outcome g winner = MatchOption winner (games.Won g → ⊥) (λ side. Connects g.board (number side))

-- the width of the largest board that it has room for
abbrev pub largest_of : Desk → ℕ
largest_of d = d.largest.n

-- the bytes that it owns
abbrev pub bytes_owned : Desk → ℕ
bytes_owned d =
    vec_capacity d.stones + vec_capacity d.log + vec_capacity d.parents + vec_capacity d.borders
    + vec_capacity d.scratch + vec_capacity d.way

-- a new game n wide, at a desk that has room for such a board and no larger one
abbrev pub IsNewDesk : ℕ → Desk → Type 0
IsNewDesk n d = (largest_of d ≡ n) × (desk_game d ≡ games.new_game n)

-- What opening answers: a new game, or that n is not from 1 to 19; or there is no memory.
abbrev pub Opened : ℕ → Result Desk Unopened → Type 0
Opened n (Ok d) = (0 < n) × (n ≤ 19) × IsNewDesk n d
Opened n (Err (Refused why)) = (why ≡ refusal.BadSize) × (0 < n → n ≤ 19 → ⊥)
Opened n (Err NoMemory) = (0 < n) × (n ≤ 19)

-- The first of the checks that fails: n is out of range, or a board so large has no room, since the
-- largest is smaller.
abbrev pub RefusesSize : ℕ → ℕ → Refusal → Type 0
RefusesSize n largest why =
    ((why ≡ refusal.BadSize) × (0 < n → n ≤ 19 → ⊥))
    ⊎ ((why ≡ refusal.SmallMemory) × (0 < n) × (n ≤ 19) × (largest < n))

-- What opening again answers: a new game in the same room, with scratch and the bytes for a way as
-- they were; or nothing at all has changed.
abbrev pub Reopens : ℕ → Desk → Desk → Result (Unit {0}) Refusal → Type 0
Reopens n old new r =
    MatchResult r
    (λ _. (0 < n) × (n ≤ largest_of old) × (desk_game new ≡ games.new_game n)
    × (largest_of new ≡ largest_of old) × (new.way.items ≡ old.way.items)
    × (new.scratch.items ≡ old.scratch.items))
    (λ why. RefusesSize n (largest_of old) why × (new ≡ old))
