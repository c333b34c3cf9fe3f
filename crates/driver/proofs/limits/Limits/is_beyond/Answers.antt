use Rattle.std.proofs.Common.{◌≡◌, ◌<◌, rules, tests}
use Rattle.hexboard.specs.Board.{empties}
use Rattle.session.specs.Desks.{desk_game}
use Rattle.wire.specs.declared.call.Call.TheVariants.{CanForce}
use Rattle.driver.proofs.Outcomes.{open_if_nobody}
use Rattle.driver.proofs.limits.Limits.is_beyond.Goals as goal
use Rattle.driver.proofs.limits.Limits.is_beyond.Goals.{then-eq, else-eq}

pub returns-then-self-empty_cells : goal.returns-then-self-empty_cells
returns-then-self-empty_cells c =
    elim c.if-eq.branch [
      | then-eq w ↦
          let nobody = open_if_nobody _ c.winner.result c.is_none.result c.is_none.ensures c.winner.ensures.connected in
          let long : c.args.self.ends < empties (desk_game c.args.desk.now).board.cells = search (rules, tests) in
          let call : c.args.call ≡ CanForce = search (rules, tests) in
          rw call (λ t. (long, nobody.0 t), λ beyond. nobody.1 beyond.1)
      | else-eq w ↦ absurd cc
    ]
