use Rattle.ranking.proofs.Ranks.{place_below, place_once, free_there}
use Rattle.ranking.proofs.positions_have_places.Goals as goal

pub returns : goal.returns
returns c = record { below = place_below; once = place_once; free = free_there }
