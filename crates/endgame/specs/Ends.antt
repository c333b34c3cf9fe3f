-- Ends of games: the empty cells of a board laid with stones, and what is said of wins there.
-- Definitions only.
use Rattle.std.specs.Prelude.{◌≡◌, ℕ, suc, ◌+◌, ◌-◌, ◌^◌, ◌<◌, if◌then◌else◌, ◌⊎◌, List, [], ◌∷◌}
use Rattle.std.specs.Prelude.{length}
use Rattle.std.specs.Prelude.{◌==◌, count_ones, slice_index, IfSome}
use Rattle.hexboard.specs.Board.{Board, at, Connects, put, other}
use Rattle.hexboard.specs.Games.{Forces}
use Rattle.hexboard.specs.Promise.{Good}
use Rattle.ranking.specs.Sets.{bit, Within}
use Rattle.ranking.specs.Positions.{place}
use Rattle.ranking.specs.Positions.{Position as PositionOf}
use Rattle.ranking.specs.Table.{entry}
use Rattle.endgame.specs.declared.links.Links.{Links}
use Rattle.endgame.specs.declared.search.Found.{Found}
use Rattle.endgame.specs.declared.search.Found.TheVariants.{Won, Lost}
use Rattle.endgame.specs.declared.search.Position.{Position}
use Rattle.endgame.specs.declared.search.Cut.{Cut}
use Rattle.endgame.specs.declared.winner.Winner.TheVariants.{Mover, Other}
use Rattle.endgame.specs.Floods.{Mutual, Joins, Completes, Completions}
use Rattle.endgame.specs.Replies.{Replied}
use Rattle.endgame.specs.Winners.{entry_of}

-- es lists the empty cells of board b, each once
pub record Numbered (b : Board) (es : List ℕ) : Type 0 where
  pub inside : (k : ℕ) → k < length es → slice_index es k < length b.cells
  pub empty : (k : ℕ) → k < length es → at b (slice_index es k) ≡ 0
  pub once : (j k : ℕ) → j < length es → k < length es → slice_index es j ≡ slice_index es k → j ≡ k
  pub all : (i : ℕ) → i < length b.cells → at b i ≡ 0 →
      (k : ℕ) × (k < length es) × (slice_index es k ≡ i)

-- board b with f k on the k-th of the cells
unfoldable pub lay : Board → (ℕ → ℕ) → List ℕ → Board
lay b f [] = b
lay b f (i ∷ es) = put (lay b (λ k. f (suc k)) es) (f 0) i

-- The board on which a win of side w is judged that rests on the cells c, its carrier: stones of w
-- on the cells of x, the cells of c empty, and all the other empty cells given to the loser. So a
-- carried win does not depend on where the loser's stones are.
unfoldable pub mark : ℕ → ℕ → ℕ → ℕ → ℕ
mark w x c k = if bit k x == 1 then w else if bit k c == 1 then 0 else other w

abbrev pub board_within : Board → List ℕ → ℕ → ℕ → ℕ → Board
board_within b es w x c = lay b (mark w x c) es

-- side w, with stones on x, can force that it connects within the carrier c: it is to move, or the
-- other is
abbrev pub Wins : Board → List ℕ → ℕ → ℕ → ℕ → Type 0
Wins b es w x c = Forces w (board_within b es w x c) w

abbrev pub Stands : Board → List ℕ → ℕ → ℕ → ℕ → Type 0
Stands b es w x c = Forces w (board_within b es w x c) (other w)

-- A node of the search: the stones of the side to move, those of the other, and the free cells
-- share the e cells.
pub record Node (e x y free : ℕ) : Type 0 where
  pub position : PositionOf e x y
  pub free_fits : free < 2 ^ e
  pub each : (k : ℕ) → k < e → bit k x + (bit k y + bit k free) ≡ 1

-- The links of side w tell of each set x of stones of w on the e cells whether w has connected with
-- them.
pub record Describes (e : ℕ) (b : Board) (es : List ℕ) (w : ℕ) (l : Links) : Type 0 where
  pub both_ways : Mutual l.near
  pub connects : (x : ℕ) → x < 2 ^ e → Joins l x → Connects (board_within b es w x 0) w
  pub joins : (x : ℕ) → x < 2 ^ e → Connects (board_within b es w x 0) w → Joins l x

-- An end of a game: a board, its e empty cells numbered, side s to move, and the links of both
-- sides.
pub record Ending (e : ℕ) (b : Board) (es : List ℕ) (s : ℕ) (mine theirs : Links) : Type 0 where
  pub good : Good b
  pub side : (s ≡ 1) ⊎ (s ≡ 2)
  pub many : length es ≡ e
  pub numbered : Numbered b es
  pub own : Describes e b es s mine
  pub others : Describes e b es (other s) theirs

-- if side a was to move when the end began, s is to move with stones x of its own and y of the
-- other
abbrev pub Turn : ℕ → ℕ → ℕ → ℕ → Type 0
Turn a s x y =
    ((count_ones x ≡ count_ones y) × (s ≡ a)) ⊎ ((count_ones x + 1 ≡ count_ones y) × (s ≡ other a))

-- What an entry of the table says of a node: nothing, or that the side to move wins, or that the
-- other does. The carrier of either win is all that is free.
pub data IsKnown (b : Board) (es : List ℕ) (s x y free v : ℕ) : Type 0 where
  unknown : v ≡ 0 → IsKnown b es s x y free v
  won : v ≡ 1 → Wins b es s x free → IsKnown b es s x y free v
  lost : v ≡ 2 → Stands b es (other s) y free → IsKnown b es s x y free v

-- all that the table says is so
abbrev pub IsSound : ℕ → Board → List ℕ → ℕ → List ℕ → Type 0
IsSound e b es a t =
    (s x y free : ℕ) → Turn a s x y → Node e x y free →
    IsKnown b es s x y free (entry t (place e x y))

-- the step is a free cell, and with its own stone there side s stands, within free cells
pub record Step (b : Board) (es : List ℕ) (s x free step : ℕ) : Type 0 where
  pub of : bit step free ≡ 1
  pub carrier : ℕ
  pub within : Within carrier free
  pub stands : Stands b es s (x + 2 ^ step) carrier

-- What the search tells of a node: the side to move wins within the carrier, by the step if one is
-- named; or the other does.
abbrev pub IsTold : Board → List ℕ → ℕ → ℕ → ℕ → ℕ → Found → Type 0
IsTold b es s x y free (Won carrier step) = Wins b es s x carrier × IfSome step (Step b es s x free)
IsTold b es s x y free (Lost carrier) = Stands b es (other s) y carrier

-- A position is decided by looking at it: a stone on a free cell connects, or of the free cells
-- none meets all the other side's threats.
pub data IsSeen (mine theirs : Links) (p : Position) : Type 0 where
  connects : (k : ℕ) → bit k p.free ≡ 1 → Completes mine p.mine k → IsSeen mine theirs p
  threatened : (threats : ℕ) (cut : Cut) → Completions theirs p.theirs p.free threats →
      Replied threats p.free cut → cut.must ≡ 0 → IsSeen mine theirs p

-- what the table keeps of what is found
abbrev pub kept_of : Found → ℕ
kept_of (Won carrier step) = entry_of Mover
kept_of (Lost carrier) = entry_of Other

-- a position is decided by looking at it, or the table has what was found
abbrev pub KeepsFinding : ℕ → Links → Links → Position → List ℕ → Found → Type 0
KeepsFinding e mine theirs p u f =
    IsSeen mine theirs p ⊎ (entry u (place e p.mine p.theirs) ≡ kept_of f)

-- the position after a move, seen by the other side
abbrev pub position_after : Position → ℕ → Position
position_after p step = record { mine = p.theirs; theirs = p.mine + step; free = p.free - step }

-- For every end that has these links, and a sound table, in which nobody has connected yet: what is
-- told is so, and the table is sound afterwards.
pub record Tells (e : ℕ) (mine theirs : Links) (p : Position) (t u : List ℕ) (f : Found) :
    Type 0 where
  pub of : (b : Board) (es : List ℕ) (a s : ℕ) → Ending e b es s mine theirs →
      Turn a s p.mine p.theirs → (Joins mine p.mine → ⊥) → (Joins theirs p.theirs → ⊥) →
      IsSound e b es a t → IsTold b es s p.mine p.theirs p.free f × IsSound e b es a u
