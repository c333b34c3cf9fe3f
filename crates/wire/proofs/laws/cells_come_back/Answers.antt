use Rattle.wire.specs.Laws.{CellsComeBack}
use Rattle.wire.proofs.Words.{words_joined, joined_words}
use Rattle.wire.proofs.laws.cells_come_back.Goals as goal

pub returns : goal.returns
unfolding CellsComeBack
returns c = (words_joined, joined_words)
