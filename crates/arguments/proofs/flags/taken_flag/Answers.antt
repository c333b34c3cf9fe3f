use Rattle.arguments.proofs.Heard.{no_flag}
use Rattle.arguments.proofs.flags.taken_flag.Goals as goal

pub returns-in_err-flag : goal.returns-in_err-flag
returns-in_err-flag c = rw c.from_residual.ensures (no_flag _ _ c.in_err-flag.ensures)
