use Rattle.std.proofs.Common.{◌∙◌, ◌*◌, refl, arith}
use Rattle.std.proofs.lemmas.Bool.Decides.{nat_tests}
use Rattle.std.proofs.lemmas.Slice.{drop-put_mid}
use Rattle.hexboard.proofs.TwoBytes.{words_length, word_put, write_past}
use Rattle.hexboard.proofs.words.set_word.Goals as goal

pub returns-then-at-bytes : goal.returns-then-at-bytes
returns-then-at-bytes c =
    let n = words_length c.args.bytes.now in
    record { told = grind (arith, nat_tests); refused = λ e. refl; after = write_past c.args.bytes.now c.args.place _ (omega arith); behind = λ k l. refl }

pub returns : goal.returns
returns c =
    let n = words_length c.args.bytes.now in
    record {
      told = grind (arith, nat_tests);
      refused = λ e. cc;
      after = word_put c.args.bytes.now c.args.place _ _ _ _ _ c.copy_from_slice.new.self (omega arith) (omega arith) (omega arith) (c.copy_from_slice.ensures.after ∙ c.to_le_bytes.ensures) (omega arith);
      behind = λ k l. drop-put_mid _ _ c.args.bytes.now c.copy_from_slice.new.self (2 * k) (omega arith) (omega arith) (omega arith);
    }
