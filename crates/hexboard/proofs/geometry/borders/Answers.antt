use Rattle.std.proofs.Common.{◌≡◌, ◌+◌, ◌*◌, arith}
use Rattle.std.proofs.lemmas.Bool.Decides.{nat_tests}
use Rattle.hexboard.specs.Geometry.{touch}
use Rattle.hexboard.specs.Sides.{number}
use Rattle.hexboard.proofs.Adjacent.{touch_first, touch_last, touch_few}
use Rattle.hexboard.proofs.geometry.borders.Goals as goal

pub returns : goal.returns
unfolding touch
returns c =
    let n = c.args.size.n in
    let s = number c.args.side in
    let i = c.args.cell in
    let v : c.from.result + 2 * c.from-2.result ≡ touch n s i = grind (arith, nat_tests) in
    record { value = v; first = rw v (touch_first n s i); last = rw v (touch_last n s i); few = rw v (touch_few n s i) }
