use Rattle.std.proofs.Common.{◌≡◌, get_or, arith}
use Rattle.hexboard.specs.Geometry.{laid}
use Rattle.hexboard.proofs.Boards.{good_set, number_few, empties_set, set_back}
use Rattle.hexboard.proofs.stones.place.Goals as goal

pub returns-in-Some-eq0-clause-good : goal.returns-in-Some-eq0-clause-good
returns-in-Some-eq0-clause-good c = λ n. good_set (laid n c.args.cells.now) c.from.result c.from-index.result (omega (arith, number_few c.args.side))

pub returns-in-Some-eq0-clause-fewer : goal.returns-in-Some-eq0-clause-fewer
returns-in-Some-eq0-clause-fewer c =
    let found = c.in-Some-eq0.ensures.lookup in
    let few = number_few c.args.side in
    λ _. empties_set c.args.cells.now c.from-index.result c.from.result found.3.0 (omega (arith, found.3.1 0)) (omega arith)

pub returns-in-Some-eq0-clause-back : goal.returns-in-Some-eq0-clause-back
returns-in-Some-eq0-clause-back c =
    let found = c.in-Some-eq0.ensures.lookup in
    let none : get_or c.args.cells.now c.from-index.result 0 ≡ 0 = omega (arith, found.3.1 0) in
    λ _. simp (← c.from-index.ensures) (set_back c.args.cells.now c.from-index.result c.from.result none)
