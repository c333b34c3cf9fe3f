-- Laws of forcing: what holds in every lawful game of laying stones, each law a statement about the
-- game's rules. Definitions only.
use Rattle.std.specs.Prelude.{◌≡◌, ℕ, ◌<◌, ◌⊎◌, ◌↔◌, List, length, replicate, slice_index}
use Rattle.std.specs.Prelude.{slice_set}
use Rattle.hexboard.specs.Board.{empties, other}
use Rattle.hexboard.specs.Laying.{IsSide, Rules, HasWon, CanForce, IsPosition, Renamed}

-- A cell with y is at least as good for side s as one with x: they are the same, or y is a stone of
-- s, or x is a stone of the other side.
abbrev pub IsAsGood : ℕ → ℕ → ℕ → Type 0
IsAsGood s x y = (y ≡ x) ⊎ ((y ≡ s) ⊎ (x ≡ other s))

-- cells c are as many as cells b, and one by one at least as good for side s
pub record IsNoWorse (s : ℕ) (b c : List ℕ) : Type 0 where
  pub long : length c ≡ length b
  pub cells : (i : ℕ) → i < length b → IsAsGood s (slice_index b i) (slice_index c i)

-- What a side can force, it can force where each cell is at least as good for it, whoever moves.
abbrev pub BetterIsNoLoss : Rules → Type 0
BetterIsNoLoss g =
    (s t : ℕ) (b c : List ℕ) → IsSide s → IsNoWorse s b c → CanForce g s b t → CanForce g s c t

-- A stone more is never a loss, nor is a stone of one's own in the place of another.
abbrev pub StoneIsNoLoss : Rules → Type 0
StoneIsNoLoss g =
    (s t i : ℕ) (b : List ℕ) → IsSide s → i < length b →
    CanForce g s b t → CanForce g s (slice_set b i s) t

-- To be to move is never a loss.
abbrev pub MoveIsNoLoss : Rules → Type 0
MoveIsNoLoss g = (s : ℕ) (b : List ℕ) → IsSide s → CanForce g s b (other s) → CanForce g s b s

-- With no cell empty, a side can force that it wins exactly when it has won.
abbrev pub FullIsOver : Rules → Type 0
FullIsOver g = (s t : ℕ) (b : List ℕ) → empties b ≡ 0 → (CanForce g s b t ↔ HasWon g s b)

-- In every position exactly one of the two can force that it wins.
abbrev pub OneCanForce : Rules → Type 0
OneCanForce g =
    (s t : ℕ) (b : List ℕ) → IsPosition g b → IsSide s → IsSide t →
    (CanForce g s b t ⊎ CanForce g (other s) b t)
    × (CanForce g s b t → CanForce g (other s) b t → ⊥)

-- Against a side that has won nothing can be forced, however long play goes on.
abbrev pub BeatenForcesNothing : Rules → Type 0
BeatenForcesNothing g =
    (s t : ℕ) (b : List ℕ) → IsPosition g b → IsSide s →
    HasWon g (other s) b → CanForce g s b t → ⊥

-- With the cells renamed by f and the sides exchanged, each side can force in game h what the other
-- could in game g.
abbrev pub ForcesRenamed : Rules → Rules → (ℕ → ℕ) → Type 0
ForcesRenamed g h f =
    (s t : ℕ) (b c : List ℕ) → IsPosition g b → Renamed f b c → IsSide s →
    CanForce g s b t → CanForce h (other s) c (other t)

-- In a position that f renames to itself, whoever is to move can force that it wins, and the other
-- cannot.
abbrev pub MoverCanForce : Rules → (ℕ → ℕ) → Type 0
MoverCanForce g f =
    (s : ℕ) (b : List ℕ) → IsPosition g b → Renamed f b b → IsSide s →
    CanForce g s b s × (CanForce g (other s) b s → ⊥)

-- On the empty board, whoever is to move can force that it wins, and the other cannot.
abbrev pub FirstCanForce : Rules → Type 0
FirstCanForce g =
    (s : ℕ) → IsSide s →
    CanForce g s (replicate g.count 0) s × (CanForce g (other s) (replicate g.count 0) s → ⊥)
