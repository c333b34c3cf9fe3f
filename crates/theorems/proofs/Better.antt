-- Boards that are better for a side: what it can force on a board, it can force on every better one.
use Rattle.std.proofs.Common.{◌≡◌, ℕ, length, sym, subst, arith}
use Rattle.hexboard.specs.Board.{Board, at, Connects, empties, other}
use Rattle.hexboard.specs.Games.{Forces}
use Rattle.hexboard.specs.Geometry.{laid}
use Rattle.hexboard.specs.Promise.{NeverALoss}
use Rattle.theorems.specs.Forcing.{IsAsGood}
use Rattle.theorems.proofs.Stones.{Side}
use Rattle.theorems.proofs.Advantage.{full_won, force_better, force_stone, force_move}
use Rattle.theorems.proofs.Squares.{to_game, of_game, squares_keep}

-- A cell with y is at least as good for side s as one with x.
abbrev pub Up : ℕ → ℕ → ℕ → Type 0
Up s x y = IsAsGood s x y

-- board c is as large as board b, and cell by cell at least as good for side s
pub record Better (s : ℕ) (b c : Board) : Type 0 where
  pub wide : c.wide ≡ b.wide
  pub long : length c.cells ≡ length b.cells
  pub up : (i : ℕ) → Up s (at b i) (at c i)

-- A side that has connected has connected on every better board, by the same way.
pub better_connects : (s : ℕ) → Side s → (b c : Board) → Better s b c → Connects b s → Connects c s
better_connects s side b c k w =
    subst (λ n. Connects (laid n c.cells) s) (sym k.wide) (squares_keep b.wide s b.cells c.cells side k.long (λ i _ e. omega (arith, k.up i)) w)

-- On a board without empty cells, to force that it connects a side must have connected.
pub full : (s : ℕ) → {b : Board} {t : ℕ} → Forces s b t → empties b.cells ≡ 0 → Connects b s
full s f e = full_won (to_game f) e

-- What a side can force, it can force on every better board, whoever is to move.
pub better : (s : ℕ) → Side s → {b : Board} {t : ℕ} → Forces s b t → (c : Board) → Better s b c → Forces s c t
better s side {b} {t} f c k =
    subst (λ n. Forces s (laid n c.cells) t) (sym k.wide)
    (of_game (force_better (squares_keep b.wide) side (to_game f) c.cells (record { long = k.long; cells = λ i _. k.up i })))

-- A stone more is never a loss.
pub never_a_loss_lem : NeverALoss
unfolding NeverALoss
never_a_loss_lem b s t i good side _ h z f = of_game (force_stone (squares_keep b.wide) side i h (to_game f))

-- To be to move is never a loss either.
pub move_no_loss : (s : ℕ) → Side s → (b : Board) → Forces s b (other s) → Forces s b s
move_no_loss s side b f = of_game (force_move (squares_keep b.wide) side (to_game f))
