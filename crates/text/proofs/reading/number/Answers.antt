use Rattle.std.proofs.Common.{◌≡◌, sym, subst, arith, true-eqb, false-eqb, if◌then◌else◌}
use Rattle.std.proofs.lemmas.Result.{err_from_is_err_and}
use Rattle.text.proofs.Numbers.{Sofar, sofar_more, sofar_all, sofar_stops, empty_stops}
use Rattle.text.proofs.reading.number.Goals as goal

pub returns-in_err-value : goal.returns-in_err-value
returns-in_err-value c =
    let p = err_from_is_err_and c.from_residual.result c.from_residual.ensures.1 in
    let other = rw c.in_err-value.ensures.ok_part at c.with_digit.ensures in
    let place : c.in_err-value.field-0.0 ≡ c.loop-at.at = let e = rw c.in_err-value.ensures.ok_part at c.in_err-value.ensures.value in cc in
    rw (p.1, p.2, place) (sofar_stops _ _ _ (omega arith) c.loop-at.invariant other)

pub loop-at-preserved : goal.loop-at-preserved
loop-at-preserved c =
    let told = rw c.in_ok-value.ensures.ok_part at c.with_digit.ensures in
    subst (Sofar c.args.bytes.now _) (sym told.1) (sofar_more _ _ _ (omega arith) c.loop-at.invariant told.0)

pub returns-then-is_empty : goal.returns-then-is_empty
returns-then-is_empty c = empty_stops _ (true-eqb _ 0 c.if-is_empty.ensures)

pub returns : goal.returns
returns c = sofar_all _ _ _ (omega arith) (omega (arith, false-eqb _ 0 c.if-is_empty.ensures)) c.loop-at.invariant
