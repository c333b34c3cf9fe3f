-- Some lines have been served, each answer was heard, and the table goes as far as it did.
use Rattle.std.proofs.Common.{◌≡◌}
use Rattle.driver.specs.Tables.{game_on, limits_of}
use Rattle.driver.proofs.Running.{Running}
use Rattle.driver.proofs.serve.serve_lines.Given as goal

abbrev pub invariant-loop : goal.invariant-loop
invariant-loop g l = record {
  running : Running g.L.Listener.heard (limits_of l.fn.table) (g.R.Read.remaining l.fn.input) (g.R.Read.remaining l.input) (game_on l.fn.table) (game_on l.table) l.fn.listener l.listener l.counter;
  limits : limits_of l.table ≡ limits_of l.fn.table;
}
