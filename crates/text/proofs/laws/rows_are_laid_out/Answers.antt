use Rattle.text.proofs.Columns.{rows_laid_out}
use Rattle.text.proofs.laws.rows_are_laid_out.Goals as goal

pub returns : goal.returns
returns c = rows_laid_out
