use Rattle.std.proofs.Common.{◌≡◌, not, length, ◌==◌, rules, arith}
use Rattle.driver.proofs.Keeping.{some_more, line_read, last_read, cut_off}
use Rattle.driver.proofs.line.next_line.Goals as goal

pub returns-in-LineEnd-clause-read : goal.returns-in-LineEnd-clause-read
returns-in-LineEnd-clause-read g c =
    line_read _ _ _ _ c.loop.line c.take_some.new.line c.trim.new.line c.loop.counter _ c.in-LineEnd.is c.loop.invariant c.in_ok-take_some.ensures.taken c.trim.ensures

pub returns-in-InputEnd-clause-read : goal.returns-in-InputEnd-clause-read
returns-in-InputEnd-clause-read g c =
    let is : not c.is_empty-some.result ≡ not (length c.take_some.new.line.items == 0) = search rules in
    last_read _ _ _ _ c.loop.line c.take_some.new.line c.trim-in-InputEnd.new.line c.loop.counter _ _ c.in-InputEnd.is c.loop.invariant c.in_ok-take_some.ensures.taken
    c.trim-in-InputEnd.ensures is

pub loop-preserved : goal.loop-preserved
loop-preserved g c = some_more _ _ _ _ c.loop.line c.take_some.new.line c.loop.counter _ c.in-InLine.is c.loop.invariant c.in_ok-take_some.ensures.taken

pub returns-clause-broke : goal.returns-clause-broke
returns-clause-broke g c = cut_off _ _ _ c.loop.line c.loop.counter (omega arith) c.loop.invariant
