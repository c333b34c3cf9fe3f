-- Games of laying stones: what a side can force, whatever the board looks like and whatever shows
-- that a side has won. The board of six-sided cells is one of them. Definitions only.
use Rattle.std.specs.Prelude.{◌≡◌, ℕ, ◌*◌, ◌<◌, Bool, true, ◌⊎◌, List, length, All, ◌==◌}
use Rattle.std.specs.Prelude.{if◌then◌else◌, slice_index, slice_set}
use Rattle.hexboard.specs.Board.{is_way, empties, other}
use Rattle.hexboard.specs.Geometry.{laid}

-- the two that play
abbrev pub IsSide : ℕ → Type 0
IsSide s = (s ≡ 1) ⊎ (s ≡ 2)

-- The rules of a game: how many cells it has, and what shows that a side has won. The sides put
-- stones on empty cells in turn, and no stone is ever moved. A cell holds 0 if it is empty, else
-- the side whose stone stands on it. `shows s cells w` tells whether the list w shows that side s
-- has won on these cells: w is a way, or a group of stones, or what else a game goes by.
pub record Rules : Type 0 where
  pub count : ℕ
  pub shows : ℕ → List ℕ → List ℕ → Bool

-- Side s has won on these cells: some list shows it.
abbrev pub HasWon : Rules → ℕ → List ℕ → Type 0
HasWon g s cells = (w : List ℕ) × (g.shows s cells w ≡ true)

-- CanForce g s cells t: on these cells, with side t to move, side s can bring it about that it
-- wins, however the other plays. A value of it is a way to play, written out. Play goes on after
-- the other side has won, which changes nothing where never both sides have won.
pub data CanForce (g : Rules) (s : ℕ) : List ℕ → ℕ → Type 0 where
  -- it has won already, whoever is to move
  has : {cells : List ℕ} (t : ℕ) → HasWon g s cells → CanForce g s cells t
  -- it is to move, and there is a cell after which it can
  mine : {cells : List ℕ} (i : ℕ) → i < length cells → slice_index cells i ≡ 0 →
      CanForce g s (slice_set cells i s) (other s) → CanForce g s cells s
  -- the other is to move, has a move, and after each of them it can
  theirs : {cells : List ℕ} → 0 < empties cells →
      ((i : ℕ) → i < length cells → slice_index cells i ≡ 0 →
      CanForce g s (slice_set cells i (other s)) s) → CanForce g s cells (other s)

-- as many cells as the game has, each empty or with a stone of a side
pub record IsPosition (g : Rules) (cells : List ℕ) : Type 0 where
  pub long : length cells ≡ g.count
  pub stones : All (λ c. c < 3) cells

-- A side that has won on cells b has won on cells c if all its stones stand there too: neither more
-- stones of its own nor any change of the other cells takes the win away.
abbrev pub KeepsWins : Rules → Type 0
KeepsWins g =
    (s : ℕ) (b c : List ℕ) → IsSide s → length c ≡ length b →
    ((i : ℕ) → i < length b → slice_index b i ≡ s → slice_index c i ≡ s) →
    HasWon g s b → HasWon g s c

-- What a game owes for the laws of forcing: a win is kept, never both sides have won, and with no
-- cell empty one of them has.
pub record IsLawful (g : Rules) : Type 0 where
  pub keeps_wins : KeepsWins g
  pub never_both : (b : List ℕ) → IsPosition g b → HasWon g 1 b → HasWon g 2 b → ⊥
  pub never_neither : (b : List ℕ) → IsPosition g b → empties b ≡ 0 → HasWon g 1 b ⊎ HasWon g 2 b

-- a stone of the other side, and nothing where there was nothing
abbrev pub opposite_stone : ℕ → ℕ
opposite_stone x = if x == 0 then 0 else other x

-- Cells c are cells b renamed by f, with the sides exchanged: what stands on cell i of b stands on
-- cell f i of c as a stone of the other side.
pub record Renamed (f : ℕ → ℕ) (b c : List ℕ) : Type 0 where
  pub long : length c ≡ length b
  pub stones : (i : ℕ) → i < length b → slice_index c (f i) ≡ opposite_stone (slice_index b i)

-- Game h is game g with the cells renamed by f, which `back` undoes, and with the sides exchanged:
-- a side that has won in the one has won, as the other side, in the other.
pub record Exchanges (g h : Rules) (f back : ℕ → ℕ) : Type 0 where
  pub same_count : h.count ≡ g.count
  pub inside : (i : ℕ) → i < g.count → f i < g.count
  pub back_inside : (i : ℕ) → i < g.count → back i < g.count
  pub there : (i : ℕ) → i < g.count → back (f i) ≡ i
  pub again : (i : ℕ) → i < g.count → f (back i) ≡ i
  pub wins : (s : ℕ) (b c : List ℕ) → IsSide s → IsPosition g b → Renamed f b c →
      HasWon g s b → HasWon h (other s) c

-- the rules of the board of six-sided cells n wide and n tall: a way shows that a side has won
abbrev pub square_rules : ℕ → Rules
square_rules n = record { count = n * n; shows = λ s cells w. is_way (laid n cells) s w }
