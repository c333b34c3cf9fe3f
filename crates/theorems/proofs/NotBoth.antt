-- Not both sides can force that they connect.
use Rattle.std.proofs.Common.{ℕ, refl}
use Rattle.hexboard.specs.Board.{Board, Connects, other}
use Rattle.hexboard.specs.Games.{Forces}
use Rattle.hexboard.specs.Promise.{Good}
use Rattle.theorems.proofs.Stones.{Side, Against}
use Rattle.theorems.proofs.Outcome.{not_both_forced, beaten_forces_nothing}
use Rattle.theorems.proofs.Squares.{to_game, position, squares_lawful}

-- Not both sides can force it.
pub not_both : (s : ℕ) → {b : Board} {t : ℕ} → Forces s b t → (r : ℕ) → Against s r → Good b → Forces r b t → ⊥
not_both s {b} f r a g e = not_both_forced (squares_lawful b.wide g.0) (to_game f) r a (position g) (to_game e) refl

-- Against a side that has connected nothing can be forced, however long play goes on.
pub beaten : (b : Board) (s t : ℕ) → Good b → Side s → Connects b (other s) → Forces s b t → ⊥
beaten b s t g side w f = beaten_forces_nothing (squares_lawful b.wide g.0) s t b.cells (position g) side w (to_game f)
