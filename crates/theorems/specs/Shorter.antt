-- Boards that are not square: the pairs of cells by which the side with the shorter way plays.
-- Definitions only.
use Rattle.std.specs.Prelude.{◌≡◌, ℕ, ◌+◌, ◌-◌, ◌*◌, ◌/◌, ◌%◌, ◌<◌, ◌≢◌, ◌⊎◌, ◌↔◌}
use Rattle.std.specs.Prelude.{List, replicate, if◌then◌else◌, nat_lt, nat_le}
use Rattle.hexboard.specs.Board.{other}
use Rattle.hexboard.specs.Laying.{IsSide, IsPosition, CanForce}
use Rattle.hexboard.specs.Shapes.{shape_rules, rhombus}
use Rattle.theorems.specs.Forcing.{FirstCanForce}
use Rattle.theorems.specs.Pairs.{IsPairing, HasOneOrNone, IsEnough, WinsAnswering}

-- a place by row and column, from 0
pub record Place : Type 0 where
  pub row : ℕ
  pub column : ℕ

-- rows and columns exchanged
abbrev pub flip : Place → Place
flip p = record { row = p.column; column = p.row }

-- The partner of a place on a board t tall and wider than tall. The cells with row + column below t
-- are a triangle at the upper left; the others, up to column t, are one at the lower right. Each
-- cell of the one has its partner in the other: the top row in column t, and the left column in the
-- bottom row. Columns past t are in no pair. Three tall, with a letter for each pair:
--
--     a b c c .
--      d e e b .
--       f f d a .
abbrev pub across_diagonal : ℕ → Place → Place
across_diagonal t p =
    if nat_lt (p.row + p.column) t then record { row = t - 1 - p.column; column = t - p.row }
    else if nat_le p.column t then record { row = t - p.column; column = t - 1 - p.row }
    else p

-- the partner of the cell in a row and column of a board w wide and t tall: as above if it is wider
-- than tall, with rows and columns exchanged if it is taller than wide; a square has no pairs
abbrev pub partner_place : ℕ → ℕ → Place → Place
partner_place w t p =
    if nat_lt t w then across_diagonal t p
    else if nat_lt w t then flip (across_diagonal w (flip p))
    else p

abbrev pub place_of : ℕ → ℕ → Place
place_of w i = record { row = i / w; column = i % w }

abbrev pub cell_at : ℕ → Place → ℕ
cell_at w p = p.row * w + p.column

-- the partner of cell i on the board w wide and t tall
unfoldable pub partner : ℕ → ℕ → ℕ → ℕ
partner w t i = cell_at w (partner_place w t (place_of w i))

-- the side with the shorter way: top and bottom are nearer on a board wider than tall
abbrev pub shorter_side : ℕ → ℕ → ℕ
shorter_side w t = if nat_lt t w then 1 else 2

-- The partners are a pairing of the board's cells.
abbrev pub PartnersPairOff : Type 0
PartnersPairOff = (w t : ℕ) → IsPairing (w * t) (partner w t)

-- One cell of each pair is enough for the side with the shorter way, whatever the position.
abbrev pub PartnersAreEnough : Type 0
PartnersAreEnough =
    (w t : ℕ) (b : List ℕ) → 0 < w → 0 < t → w ≢ t →
    IsEnough (shape_rules (rhombus w t)) (shorter_side w t) (partner w t) b

-- It can force that it connects from every position in which it has one cell of each pair where not
-- both are empty, whoever is to move.
abbrev pub PartnersCanForce : Type 0
PartnersCanForce =
    (w t s : ℕ) (b : List ℕ) → 0 < w → 0 < t → w ≢ t → IsSide s →
    IsPosition (shape_rules (rhombus w t)) b → HasOneOrNone (shorter_side w t) (partner w t) b →
    CanForce (shape_rules (rhombus w t)) (shorter_side w t) b s

-- On the empty board, whoever is to move, the side with the shorter way can force that it connects,
-- and the other cannot.
abbrev pub ShorterCanForce : Type 0
ShorterCanForce =
    (w t s : ℕ) → 0 < w → 0 < t → w ≢ t → IsSide s →
    CanForce (shape_rules (rhombus w t)) (shorter_side w t) (replicate (w * t) 0) s
    × (CanForce (shape_rules (rhombus w t)) (other (shorter_side w t)) (replicate (w * t) 0) s → ⊥)

-- On a board whose measures differ by one, it wins as the second to move by answering each move on
-- the partner of its cell.
abbrev pub PartnersAnswer : Type 0
PartnersAnswer =
    (w t : ℕ) → 0 < w → 0 < t → (w ≡ t + 1) ⊎ (t ≡ w + 1) →
    WinsAnswering (shape_rules (rhombus w t)) (shorter_side w t) (partner w t) (replicate (w * t) 0)

-- Whoever is to move on the empty board can force that it connects on squares, and on no other.
abbrev pub FirstExactlyOnSquares : Type 0
FirstExactlyOnSquares =
    (w t : ℕ) → 0 < w → 0 < t → (w ≡ t ↔ FirstCanForce (shape_rules (rhombus w t)))
