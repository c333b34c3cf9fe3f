-- Every position is decided: just one of the two sides can force that it connects.
use Rattle.std.proofs.Common.{ℕ, refl, inl, ⊎_elim}
use mathlib.Core.Logic.{⊎_map}
use Rattle.hexboard.specs.Board.{Board, other}
use Rattle.hexboard.specs.Games.{Forces}
use Rattle.hexboard.specs.Promise.{Good, OneOfBoth}
use Rattle.theorems.proofs.Stones.{Side}
use Rattle.theorems.proofs.Outcome.{one_can_force_lem}
use Rattle.theorems.proofs.Squares.{to_game, of_game, position, squares_lawful}

-- One of both: every position is decided, and not for both.
pub one_of_both_lem : OneOfBoth
unfolding OneOfBoth
one_of_both_lem b t g turn =
    let (one, both) = one_can_force_lem (squares_lawful b.wide g.0) 1 t b.cells (position g) (inl refl) turn in
    (⊎_map of_game of_game one, λ f k. both (to_game f) (to_game k))

-- If a side cannot force it, the other can.
pub else_other_forces : (b : Board) (s t : ℕ) → Good b → Side s → Side t → (Forces s b t → ⊥) → Forces (other s) b t
else_other_forces b s t g side turn not =
    ⊎_elim (λ f. absurd (not (of_game f))) of_game
    (one_can_force_lem (squares_lawful b.wide g.0) s t b.cells (position g) side turn).0
