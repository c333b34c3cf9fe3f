-- Of the arguments before the one that is looked at: the program takes each, and which flags are among them is known.
use Rattle.std.proofs.Common.{map, string_bytes}
use Rattle.arguments.specs.Flags.{TakesFirst}
use Rattle.arguments.proofs.Heard.{Told}
use Rattle.arguments.proofs.flags.read_arguments.Given as goal

abbrev pub invariant-loop-argument : goal.invariant-loop-argument
invariant-loop-argument l =
    TakesFirst l.taken (map string_bytes l.arguments) l.argument-index × Told (map string_bytes l.arguments) l.argument-index l.asked
