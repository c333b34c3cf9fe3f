use Rattle.std.proofs.Common.{arith}
use Rattle.ranking.proofs.Bits.{lowest_in, none_below}
use Rattle.ranking.proofs.sets.lowest.Goals as goal

pub returns-clause-within : goal.returns-clause-within
returns-clause-within c = (lowest_in 64 c.args.set c.requires (omega arith)).0

pub returns-clause-first : goal.returns-clause-first
returns-clause-first c = none_below 64 c.args.set
