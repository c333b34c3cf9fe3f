use Rattle.theorems.proofs.Renaming.{force_renamed}
use Rattle.theorems.proofs.laying.renamed_alike.Goals as goal

pub returns : goal.returns
returns c = search force_renamed
