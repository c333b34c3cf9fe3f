use Rattle.std.proofs.Common.{arith}
use Rattle.text.proofs.Words.{whole_word, word_stops}
use Rattle.text.proofs.reading.is_word.Goals as goal

pub returns-then-same-line : goal.returns-then-same-line
returns-then-same-line c = whole_word _ _ _ c.agree-same.ensures (omega arith) (omega arith)

pub returns-else-same-word : goal.returns-else-same-word
returns-else-same-word c = word_stops _ _ _ c.agree-same.ensures (omega arith)
