-- The lines of the kinds so far are written.
use Rattle.std.proofs.Common.{take}
use Rattle.std.specs.Fmt.{HasWritten, IsPlainFormatter}
use Rattle.std.specs.List.{flat_map}
use Rattle.driver.specs.Timed.{name_of, tally_of, tally_line}
use Rattle.driver.proofs.times.TimesDisplay.fmt.Given as goal

abbrev pub invariant-loop-kind : goal.invariant-loop-kind
invariant-loop-kind g l =
    IsPlainFormatter l.initial.f → HasWritten g.W.Write.write_str_gives l.initial.f (flat_map (λ k. tally_line (name_of k) (tally_of l.self k)) (take l.kind-index l.kind-items)) l.f
