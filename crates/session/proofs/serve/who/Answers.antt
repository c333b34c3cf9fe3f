use Rattle.std.proofs.Common.{sym, ap, ◌∙◌, subst}
use Rattle.hexboard.specs.Board.{Connects}
use Rattle.hexboard.specs.Geometry.{laid}
use Rattle.hexboard.specs.Sides.{number}
use Rattle.paths.specs.Ways.{Written}
use Rattle.history.specs.Holds.{won_by, lent}
use Rattle.history.proofs.Serving.{right_nobody, winner_connects}
use Rattle.session.proofs.Asking.{right_found, short_found}
use Rattle.session.proofs.serve.who.Goals.{In_ok-count}
use Rattle.session.proofs.serve.who.Goals as goal

pub returns-in_err-side-clause-right : goal.returns-in_err-side-clause-right
returns-in_err-side-clause-right c =
    rw c.from_residual.ensures (λ log parents borders h. right_nobody c.args.game _ h (ap won_by (sym c.winner.ensures ∙ c.in_err-side.was)))

-- the way that was found is written
found : (c : In_ok-count) → Written (laid c.args.game.size.n c.args.stones.now) (number c.in_ok-side.side) c.args.way.now c.find_way.new.out c.in_ok-count.count
found c =
    subst (λ n. Written (laid n c.args.stones.now) (number c.in_ok-side.side) c.args.way.now c.find_way.new.out c.in_ok-count.count)
    (ap (λ s. s.n) c.size-size.ensures) c.in_ok-count.ensures

pub returns-clause-right : goal.returns-clause-right
returns-clause-right c = λ log parents borders h.
    right_found c.args.game (lent c.args.stones.now log parents borders) h c.in_ok-side.side (ap won_by (sym c.winner.ensures ∙ c.in_ok-side.was)) _ _ c.in_ok-count.count
    (found (goal.at.returns-clause-right c).In_ok-count)

pub returns-clause-short : goal.returns-clause-short
returns-clause-short c = λ log parents borders h.
    short_found c.args.game (lent c.args.stones.now log parents borders) h c.in_ok-side.side _ _ c.in_ok-count.count (found (goal.at.returns-clause-short c).In_ok-count)

pub returns-in_err-count-clause-right : goal.returns-in_err-count-clause-right
returns-in_err-count-clause-right c =
    let none =
    subst (λ n. Connects (laid n c.args.stones.now) (number c.in_ok-side.side) → ⊥) (ap (λ s. s.n) c.size-size.ensures) c.in_err-count.ensures.0 in
    rw c.from_residual-in_err-count.ensures
    (λ log parents borders h.
    absurd (none (winner_connects c.args.game (lent c.args.stones.now log parents borders) h c.in_ok-side.side (ap won_by (sym c.winner.ensures ∙ c.in_ok-side.was))).0))
