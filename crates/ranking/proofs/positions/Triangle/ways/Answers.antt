use Rattle.std.proofs.Common.{◌*◌, ap₂}
use Rattle.ranking.specs.Positions.{count}
use Rattle.ranking.proofs.positions.Triangle.ways.Goals as goal

pub returns : goal.returns
unfolding count
returns c = ap₂ (λ m n. m * n) c.choose.ensures c.choose-2.ensures
