use Rattle.std.proofs.Common.{refl}
use Rattle.hexboard.proofs.Adjacent.{all_neighbours, neighbour_below, next_mutual}
use Rattle.hexboard.proofs.geometry.directions.Goals as goal

pub returns : goal.returns
returns c = record { value = refl; all = all_neighbours; only = neighbour_below; symmetric = next_mutual }
