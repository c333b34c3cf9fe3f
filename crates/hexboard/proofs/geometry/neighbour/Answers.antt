use Rattle.std.proofs.Common.{◌≡◌, ◌∙◌, arith}
use Rattle.std.proofs.lemmas.Bool.Decides.{nat_tests}
use Rattle.hexboard.specs.Geometry.{neighbour_of}
use Rattle.hexboard.proofs.Adjacent.{neighbour_cases, neighbour_here}
use Rattle.hexboard.proofs.geometry.neighbour.Goals as goal

pub returns-in_err-row : goal.returns-in_err-row
unfolding neighbour_of
returns-in_err-row c =
    let past = c.in_err-row.ensures in
    let v : c.from_residual.result ≡ neighbour_of c.args.size.n c.args.cell c.args.k = grind (arith, nat_tests, c.in_err-row.was) in
    record { value = v; beside = neighbour_cases c.args.size.n c.args.cell c.args.k c.from_residual.result v }

pub returns : goal.returns
returns c =
    let on_board = c.in_ok-row.ensures in
    let v : c.neighbour_at.result ≡ neighbour_of c.args.size.n c.args.cell c.args.k =
    c.neighbour_at.ensures ∙ rw (on_board.1, on_board.2) (neighbour_here c.args.size.n c.args.cell c.args.k on_board.0)
    in
    record { value = v; beside = neighbour_cases c.args.size.n c.args.cell c.args.k c.neighbour_at.result v }
