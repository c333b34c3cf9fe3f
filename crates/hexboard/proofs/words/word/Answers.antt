use Rattle.std.proofs.Common.{◌<◌, ◌/◌, length, arith}
use Rattle.std.proofs.lemmas.Bool.Decides.{nat_tests}
use Rattle.hexboard.proofs.TwoBytes.{word_paired, words_length}
use Rattle.hexboard.proofs.words.word.Goals as goal

pub returns-in_err-pair : goal.returns-in_err-pair
returns-in_err-pair c =
    let l = c.in_err-pair.ensures.lookup in
    let n = words_length c.args.bytes.now in
    grind (arith, nat_tests)

pub returns : goal.returns
returns c =
    let l = c.in_ok-pair.ensures.lookup in
    let n = words_length c.args.bytes.now in
    let i : c.from.result < length c.args.bytes.now / 2 = omega (arith, l.3.0) in
    let w = word_paired c.args.bytes.now (length c.args.bytes.now / 2) c.from.result 0 c.in_ok-pair.pair.now i (omega arith) in
    grind (arith, nat_tests)
