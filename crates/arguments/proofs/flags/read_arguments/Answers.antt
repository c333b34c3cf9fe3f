use Rattle.std.proofs.Common.{rules, tests, ◌≡◌, ◌≢◌, map, string_bytes, sym, ap, ◌∙◌, arith}
use Rattle.std.proofs.lemmas.List.{get_or-map}
use Rattle.arguments.specs.declared.flags.Flag.TheVariants.{Help}
use Rattle.arguments.specs.Flags.{argument_at}
use Rattle.arguments.proofs.Heard.{takes_more, told_more}
use Rattle.arguments.proofs.flags.read_arguments.Goals as goal

pub loop-argument-preserved : goal.loop-argument-preserved
loop-argument-preserved c =
    let known = map string_bytes c.args.arguments.now in
    let k = c.loop-argument.argument-index in
    let other : c.in-Some.flag ≢ Help = λ e. search (rules, tests) in
    let at : argument_at known k ≡ c.as_str.result.now =
    get_or-map string_bytes c.args.arguments.now k c.argument-item.result _ (omega arith) ∙ ap string_bytes (sym c.argument-item.is) ∙ sym c.as_str.ensures.value in
    let (written, takes) = c.in-Some.ensures in (
      takes_more c.args.taken.now known k c.loop-argument.invariant.0 (rw at (takes other)),
      rw c.with-asked.ensures (told_more known k c.in-Some.flag c.loop-argument.asked (at ∙ written) c.loop-argument.invariant.1),
    )
