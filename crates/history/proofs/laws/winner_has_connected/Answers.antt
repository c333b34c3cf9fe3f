use Rattle.std.proofs.Common.{arith}
use Rattle.history.proofs.Turns.{winner_open, winner_won, connects_won}
use Rattle.history.proofs.Taking.{open_none}
use Rattle.history.proofs.laws.winner_has_connected.Goals as goal

pub returns : goal.returns
returns c = record {
  side = λ n s ms h side. (λ e. (winner_won n ms h s e (omega (arith, side))).0, connects_won n ms h s side);
  nobody = λ n ms h. (winner_open n ms h, open_none n ms h);
}
