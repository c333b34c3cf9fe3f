use Rattle.session.proofs.Asking.{won_or_nobody}
use Rattle.session.proofs.Keeping.{desk_holds}
use Rattle.session.specs.Desks.{memory_of}
use Rattle.session.proofs.desk.Desk.winner.Goals as goal

pub returns-clause-connected : goal.returns-clause-connected
returns-clause-connected c = let d = c.args.self.now in won_or_nobody d.game (memory_of d) (desk_holds d) c.winner.result c.winner.ensures
