use Rattle.std.proofs.Common.{Some, None, Ok, if◌then◌else◌, sym, subst, arith}
use Rattle.hexboard.specs.Games as games
use Rattle.session.specs.Desks.{desk_game}
use Rattle.session.specs.declared.desk.Desk.{Desk}
use Rattle.text.specs.declared.reading.Line.TheVariants as asks
use Rattle.driver.specs.Served.{Serves, answer}
use Rattle.driver.specs.Tables.{game_on}
use Rattle.driver.proofs.Answering.{refuses}
use Rattle.driver.proofs.table.Table.open.Goals as goal

pub returns-in-Ok-clause-served : goal.returns-in-Ok-clause-served
returns-in-Ok-clause-served c =
    let opens = c.in-Ok.ensures in
    rw (opens.2) (Serves.opens c.args.n (opens.0, omega (arith, opens.1, c.args.self.now.roomy)))

pub returns-in-Err-clause-served : goal.returns-in-Err-clause-served
returns-in-Err-clause-served c =
    let table = c.args.self.now in
    let no' = c.in-Err.ensures in
    subst (λ (d : Desk). Serves table.limits (Ok (asks.Board c.args.n)) (game_on table) (answer (games.refused 3 0)) (if table.is_open then Some (desk_game d) else None)) (sym no'.1)
    (Serves.out_of_range c.args.n (refuses table.limits c.args.n _ _ table.roomy no'.0))
