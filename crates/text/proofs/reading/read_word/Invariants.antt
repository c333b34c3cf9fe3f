-- The words that were tried so far, and how far the furthest of them went.
use Rattle.text.proofs.Words.{Tried}
use Rattle.text.proofs.reading.read_word.Given as goal

abbrev pub invariant-loop-word : goal.invariant-loop-word
invariant-loop-word l = Tried l.word-items l.word-index l.line l.furthest
