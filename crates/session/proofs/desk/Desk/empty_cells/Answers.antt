use Rattle.std.proofs.Common.{◌*◌, ap, arith}
use Rattle.history.specs.Holds.{moves_in}
use Rattle.history.proofs.Filling.{moves_and_empties}
use Rattle.session.specs.Desks.{memory_of}
use Rattle.session.proofs.Keeping.{desk_holds}
use Rattle.session.proofs.desk.Desk.empty_cells.Goals as goal

pub returns : goal.returns
returns c =
    let d = c.args.self.now in
    let h = desk_holds d in
    omega (arith, moves_and_empties d.game.size.n (moves_in d.game (memory_of d)) h.played.legal, h.all, c.cells-cells.ensures.value, c.count.ensures, ap (λ s. s.n * s.n) c.size.ensures)
