use denote.Enum.Bare.{same_true, same_false}
use Rattle.std.proofs.Common.{rules, ◌≡◌, ◌*◌, ◌≤◌, sym, ap, ◌∙◌, subst, mul-le-mul, arith, if◌then◌else◌}
use Rattle.hexboard.specs.Sides.{number}
use Rattle.hexboard.specs.contracts.side.Side.{the_type}
use Rattle.endgame.specs.Verdicts.{Judges}
use Rattle.history.specs.Holds.{won_by, lent}
use Rattle.session.proofs.Asking.{stones_long}
use Rattle.session.proofs.Forcing.{right_has, right_lost, right_yes, small_cell, right_no, right_many}
use Rattle.session.proofs.serve.can_force.Goals as goal
use Rattle.session.proofs.serve.can_force.Goals.{After-can_force-verdict}

pub returns-then-eq-clause-right : goal.returns-then-eq-clause-right
returns-then-eq-clause-right c =
    λ log way h. right_has c.args.game _ h c.turn-turn.result c.turn-turn.ensures c.in-Some.side (ap won_by (sym c.winner.ensures ∙ c.in-Some.is)) (same_true the_type (search rules) _ _ (sym c.if-eq.ensures))

pub returns-else-eq-clause-right : goal.returns-else-eq-clause-right
returns-else-eq-clause-right c =
    λ log way h. right_lost c.args.game _ h c.turn-turn.result c.turn-turn.ensures c.in-Some.side (ap won_by (sym c.winner.ensures ∙ c.in-Some.is)) (same_false the_type _ _ (sym c.if-eq.ensures))

pub invariant_of-position : goal.invariant_of-position
invariant_of-position c =
    let (log, h) = c.requires.holds in record { whole = stones_long c.args.game _ h ∙ ap (λ s. s.n * s.n) (sym c.size.ensures) }

-- nobody has won
nobody : (c : After-can_force-verdict) → won_by c.args.game.winner ≡ 0
nobody c = ap won_by (sym c.winner.ensures ∙ c.in_default.is)

-- what was found holds on the game's board
judged : (c : After-can_force-verdict) → Judges c.args.game.size.n (number c.turn-turn.result) c.args.stones.now c.args.parents.now c.args.borders.now c.can_force-verdict.result.0
judged c = subst (λ s. Judges s.n (number c.turn-turn.result) c.args.stones.now c.args.parents.now c.args.borders.now c.can_force-verdict.result.0) c.size.ensures c.can_force-verdict.ensures.right

pub returns-in-Yes-clause-has_bytes : goal.returns-in-Yes-clause-has_bytes
returns-in-Yes-clause-has_bytes c =
    let (log, h) = c.requires.holds in
    let before = (goal.at.returns-in-Yes-clause-has_bytes c).After-can_force-verdict in
    let told = subst (Judges c.args.game.size.n (number c.turn-turn.result) c.args.stones.now c.args.parents.now c.args.borders.now) c.in-Yes.is (judged before) in
    let few : c.args.game.size.n * c.args.game.size.n ≤ 361 = mul-le-mul c.args.game.size.few c.args.game.size.few in
    omega (arith, small_cell c.args.game (lent c.args.stones.now log c.args.parents.now c.args.borders.now) h c.turn-turn.result c.turn-turn.ensures (nobody before) c.in-Yes.cell told)

pub returns-in-Yes-clause-right : goal.returns-in-Yes-clause-right
returns-in-Yes-clause-right c =
    let before = (goal.at.returns-in-Yes-clause-right c).After-can_force-verdict in
    let told = subst (Judges c.args.game.size.n (number c.turn-turn.result) c.args.stones.now c.args.parents.now c.args.borders.now) c.in-Yes.is (judged before) in
    λ log way h. right_yes c.args.game (lent c.args.stones.now log c.args.parents.now c.args.borders.now) h c.turn-turn.result c.turn-turn.ensures (nobody before) c.in-Yes.cell told

pub returns-in-No-clause-right : goal.returns-in-No-clause-right
returns-in-No-clause-right c =
    let before = (goal.at.returns-in-No-clause-right c).After-can_force-verdict in
    let told = subst (Judges c.args.game.size.n (number c.turn-turn.result) c.args.stones.now c.args.parents.now c.args.borders.now) c.in-No.is (judged before) in
    λ log way h. right_no c.args.game (lent c.args.stones.now log c.args.parents.now c.args.borders.now) h c.turn-turn.result c.turn-turn.ensures (nobody before) told

pub returns-in-TooMany-clause-right : goal.returns-in-TooMany-clause-right
returns-in-TooMany-clause-right c =
    let before = (goal.at.returns-in-TooMany-clause-right c).After-can_force-verdict in
    let told = subst (Judges c.args.game.size.n (number c.turn-turn.result) c.args.stones.now c.args.parents.now c.args.borders.now) c.in-TooMany.is (judged before) in
    λ log way h. right_many c.args.game (lent c.args.stones.now log c.args.parents.now c.args.borders.now) h c.turn-turn.result c.turn-turn.ensures (nobody before) told
