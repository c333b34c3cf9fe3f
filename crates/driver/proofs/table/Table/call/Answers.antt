use Rattle.std.proofs.Common.{sym, ◌∙◌, true≢false}
use Rattle.session.specs.Desks.{desk_game}
use Rattle.driver.proofs.Answering.{closed, put_off, answered}
use Rattle.driver.proofs.table.Table.call.Goals as goal

pub returns-then-not-self-clause-served : goal.returns-then-not-self-clause-served
returns-then-not-self-clause-served c = closed _ c.args.call (desk_game c.args.self.now.desk) c.args.self.now.is_open c.if-not-self.true

pub returns-then-is_beyond-clause-served : goal.returns-then-is_beyond-clause-served
returns-then-is_beyond-clause-served c = put_off _ c.args.call (desk_game c.args.self.now.desk) c.args.self.now.is_open c.if-not-self.false (c.is_beyond.ensures.0 c.if-is_beyond.true)

pub returns-clause-served : goal.returns-clause-served
returns-clause-served c =
    answered _ c.args.call (desk_game c.args.self.now.desk) c.args.self.now.is_open _ _ c.if-not-self.false (λ far. true≢false (sym (c.is_beyond.ensures.1 far) ∙ c.if-is_beyond.false)) c.serve.ensures.right c.serve.ensures.short
