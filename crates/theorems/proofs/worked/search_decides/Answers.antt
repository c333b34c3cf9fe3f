use Rattle.theorems.proofs.Finding.{finds_way_decides}
use Rattle.theorems.proofs.worked.search_decides.Goals as goal

pub returns : goal.returns
returns c = finds_way_decides
