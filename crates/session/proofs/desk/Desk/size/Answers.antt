use Rattle.std.proofs.Common.{sym, ap, ◌∙◌}
use Rattle.groups.specs.Moves.{stones_of}
use Rattle.groups.proofs.Positions.{board_wide}
use Rattle.history.specs.Holds.{moves_in}
use Rattle.session.specs.Desks.{memory_of}
use Rattle.session.proofs.desk.Desk.size.Goals as goal

pub returns : goal.returns
returns c =
    let d = c.args.self.now in
    ap (λ s. s.n) c.size.ensures ∙ sym (board_wide d.game.size.n (stones_of (moves_in d.game (memory_of d))))
