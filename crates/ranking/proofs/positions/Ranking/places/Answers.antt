use Rattle.std.proofs.Common.{◌+◌, arith}
use Rattle.ranking.proofs.Ranks.{total_most}
use Rattle.ranking.proofs.positions.Ranking.places.Goals as goal

pub returns-clause-most : goal.returns-clause-most
returns-clause-most c =
    let e = c.args.self.now.cells in
    omega (arith, c.args.self.now.begins (e + 1) (omega (arith, c.args.self.now.few)), total_most e c.args.self.now.few)
