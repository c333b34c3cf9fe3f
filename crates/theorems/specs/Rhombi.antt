-- Boards n wide and n tall are the shape w wide and t tall with w and t both n. Definitions only.
use Rattle.std.specs.Prelude.{◌≡◌, ℕ, ◌*◌, ◌<◌, ◌↔◌, List, length}
use Rattle.hexboard.specs.Board as board
use Rattle.hexboard.specs.Board.{Board}
use Rattle.hexboard.specs.Games.{Forces}
use Rattle.hexboard.specs.Geometry.{neighbours, touch, laid}
use Rattle.hexboard.specs.Laying.{CanForce}
use Rattle.hexboard.specs.Promise.{Good, across}
use Rattle.hexboard.specs.Shapes.{next_to, is_way, shape_rules, rhombus, turned}

-- They have the same neighbours in the same order, and the same borders.
pub record SquaresAreRhombi : Type 0 where
  pub neighbours : (n i : ℕ) → (rhombus n n).neighbours i ≡ neighbours n i
  pub next : (n i j : ℕ) → i < n * n → j < n * n → next_to (rhombus n n) i j ≡ board.next_to n i j
  pub borders : (n s i : ℕ) → (rhombus n n).borders s i ≡ touch n s i
  -- the same ways
  pub ways : (n s : ℕ) (cells w : List ℕ) → length cells ≡ n * n →
      is_way (rhombus n n) s cells w ≡ board.is_way (laid n cells) s w
  -- turned over, each cell comes to the same place
  pub turned : (n i : ℕ) → turned n n i ≡ across n i
  -- and what a side can force on one it can on the other
  pub forcing : (b : Board) (s t : ℕ) → Good b →
      (Forces s b t ↔ CanForce (shape_rules (rhombus b.wide b.wide)) s b.cells t)
