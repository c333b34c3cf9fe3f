use Rattle.std.proofs.Common.{mul-le-mul, mul-pos}
use Rattle.hexboard.proofs.size.Size.cells.Goals as goal

pub returns : goal.returns
returns c =
    let n = c.width-n.ensures in
    record { value = rw n.value; some = mul-pos n.some n.some; few = mul-le-mul n.few n.few }
