use Rattle.std.proofs.Common.{◌-◌, sym, ap, subst, arith}
use Rattle.endgame.specs.Ends.{Node, Tells}
use Rattle.endgame.specs.Findings.{StepsInto}
use Rattle.endgame.proofs.Once.{accounts_first}
use Rattle.endgame.proofs.Starting.{node_first, looked_first}
use Rattle.endgame.proofs.search.Search.look_through.Goals as goal

pub solve-requires-clause-node : goal.solve-requires-clause-node
solve-requires-clause-node c =
    let e = c.args.self.now.ranking.cells in subst (λ z. Node e 0 0 (z - 1)) (sym c.one.ensures) (node_first e)

pub solve-requires-clause-accounts : goal.solve-requires-clause-accounts
solve-requires-clause-accounts c = rw c.requires.new (accounts_first c.args.self.now.ranking.cells _ c.clear.new.table c.clear.ensures)

pub returns-clause-stepped : goal.returns-clause-stepped
returns-clause-stepped c = subst (λ z. StepsInto c.solve.result (z - 1)) c.one.ensures c.solve.ensures.stepped

pub returns-clause-named : goal.returns-clause-named
returns-clause-named c = c.solve.ensures.named (c.clear.ensures _)

pub returns-clause-told : goal.returns-clause-told
returns-clause-told c =
    let e = c.args.self.now.ranking.cells in
    looked_first e c.args.mine.now c.args.theirs.now c.clear.new.table c.solve.new.table c.solve.result c.clear.ensures
    (subst (λ z. Tells e c.args.mine.now c.args.theirs.now (record { mine = 0; theirs = 0; free = z - 1 }) c.clear.new.table c.solve.new.table c.solve.result) c.one.ensures c.solve.ensures.tells)

pub returns-clause-searched : goal.returns-clause-searched
returns-clause-searched c = c.solve.ensures.once.searched

pub returns-clause-looks : goal.returns-clause-looks
returns-clause-looks c = omega (arith, c.solve.ensures.once.looks_few, ap (λ done. done.looks) c.requires.new)
