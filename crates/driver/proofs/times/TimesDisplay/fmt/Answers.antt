use Rattle.std.proofs.Common.{get_or, ◌≡◌, ap, refl}
use Rattle.std.proofs.Output.{has_written_append, has_written_of_eq}
use Rattle.std.proofs.lemmas.List.{take_more}
use Rattle.driver.specs.Timed.{name_of, tally_of, tally_line, all_kinds}
use Rattle.driver.specs.declared.times.Kind.TheVariants.{Board}
use Rattle.driver.proofs.Tallied.{lines_more}
use Rattle.driver.proofs.times.TimesDisplay.fmt.Goals as goal

pub loop-kind-preserved : goal.loop-kind-preserved
loop-kind-preserved g c = λ plain.
    let before = c.loop-kind.invariant plain in
    let tally : tally_line (name_of (get_or all_kinds c.loop-kind.kind-index Board)) c.of-tally.result ≡ tally_line (name_of (get_or all_kinds c.loop-kind.kind-index Board)) (tally_of c.args.self.now (get_or all_kinds c.loop-kind.kind-index Board)) = ap (tally_line (name_of (get_or all_kinds c.loop-kind.kind-index Board))) c.of-tally.ensures in
    has_written_of_eq _ _ _ _ _
    (lines_more (λ k. tally_line (name_of k) (tally_of c.args.self.now k)) all_kinds c.loop-kind.kind-index (get_or all_kinds c.loop-kind.kind-index Board)
    (take_more all_kinds c.loop-kind.kind-index Board c.loop-kind-test.true))
    (has_written_append _ _ _ _ _ _ before (has_written_of_eq _ _ _ _ _ tally (c.in_ok-write.ensures.writes before.plain refl)))
