use Rattle.driver.specs.Served.{Serves}
use Rattle.driver.proofs.table.Table.serve.Goals as goal

pub returns-in-Err-clause-served : goal.returns-in-Err-clause-served
returns-in-Err-clause-served c = rw c.in-Err.is (Serves.unreadable c.in-Err.place)
