use Rattle.std.proofs.Common.{refl, subst, ◌∙◌, arith}
use Rattle.driver.specs.Lines.{ReadLine}
use Rattle.driver.specs.Served.{Serves}
use Rattle.driver.specs.Tables.{game_on, limits_of, exchange_at}
use Rattle.driver.proofs.Answering.{is_read_kept}
use Rattle.driver.proofs.Running.{run_none, run_unread, run_long, run_more, run_unheard, of_error}
use Rattle.driver.proofs.serve.serve_lines.Goals as goal

pub loop-init : goal.loop-init
loop-init g c = record {
  running = run_none g.L.Listener.heard g.L.Listener.fails (limits_of c.args.table.now) g.R.Input.can_break (g.R.Read.remaining c.args.input.now) (game_on c.args.table.now) c.args.listener.now;
  limits = refl;
}

pub returns-in_err-next_line-clause-served : goal.returns-in_err-next_line-clause-served
returns-in_err-next_line-clause-served g c =
    of_error _ c.from_residual.result c.from_residual.ensures.0 (run_unread _ _ _ _ _ _ _ _ _ _ _ c.loop.invariant.running c.in_err-next_line.ensures.broke)

pub returns-in_err-hear-clause-served : goal.returns-in_err-hear-clause-served
returns-in_err-hear-clause-served g c =
    let read = subst (ReadLine _ _ _) c.if-not-branch.false c.in_ok-next_line.ensures.read in
    let x = exchange_at c.serve-served.new.self c.serve-served.result in
    let reads = is_read_kept read.0 _ c.serve-served.result.asked (c.deref.ensures.0 ∙ read.2) c.serve-served.ensures.read in
    let serves = subst (λ limits. Serves limits x.asked (game_on c.loop.table) x.reply x.game) c.loop.invariant.limits c.serve-served.ensures.served in
    let unheard = run_unheard _ _ _ _ _ _ _ _ _ _ _ c.loop.invariant.running _ read.0 x read.1 reads serves c.begin.new.self c.begin.ensures c.hear.new.self c.in_err-hear.ensures.failed in
    of_error _ c.from_residual-in_err-hear.result c.from_residual-in_err-hear.ensures.0 (rw c.hear.ensures.kept unheard)

pub loop-preserved : goal.loop-preserved
loop-preserved g c =
    let read = subst (ReadLine _ _ _) c.if-not-branch.false c.in_ok-next_line.ensures.read in
    let x = exchange_at c.serve-served.new.self c.serve-served.result in
    let reads = is_read_kept read.0 _ c.serve-served.result.asked (c.deref.ensures.0 ∙ read.2) c.serve-served.ensures.read in
    let serves = subst (λ limits. Serves limits x.asked (game_on c.loop.table) x.reply x.game) c.loop.invariant.limits c.serve-served.ensures.served in
    let more = run_more _ g.L.Listener.fails _ g.R.Input.can_break _ _ _ _ _ _ _ c.loop.invariant.running _ read.0 x read.1 reads serves c.begin.new.self c.begin.ensures c.hear.new.self c.in_ok-hear.ensures.heard in
    record { running = rw c.hear.ensures.kept more; limits = c.hear.ensures.limits ∙ c.serve-served.ensures.limits ∙ c.loop.invariant.limits }

pub returns-clause-served : goal.returns-clause-served
returns-clause-served g c = run_long _ _ _ _ _ _ _ _ _ _ _ c.loop.invariant.running (omega arith)
