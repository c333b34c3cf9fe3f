use Rattle.std.proofs.Common.{◌≡◌, ◌-◌, ◌++◌, min, length, take, ◌∙◌, rules}
use Rattle.driver.specs.declared.line.TheConstants.{ROOM}
use Rattle.driver.proofs.Keeping.{kept_more}
use Rattle.driver.proofs.line.extend.Goals as goal

pub returns : goal.returns
returns c = λ all is.
    let put : c.try_extend_from_slice.new.self.items ≡ c.args.line.now.items ++ take (min (length c.args.bytes.now) (ROOM - length c.args.line.now.items)) c.args.bytes.now = search rules in
    put ∙ kept_more ROOM all c.args.line.now.items c.args.bytes.now is
