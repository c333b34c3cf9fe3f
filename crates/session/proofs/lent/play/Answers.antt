use Rattle.std.proofs.Common.{ap, ◌∙◌}
use Rattle.session.proofs.Promising.{plays, plays_suffice}
use Rattle.session.proofs.lent.play.Goals as goal

pub returns : goal.returns
returns g c =
    let new = c.in_ok-parts.ensures in
    let wide = ap (λ s. s.n) c.new-2.ensures.size ∙ (rw c.unwrap-size.ensures at c.new.ensures) in
    let all =
    plays c.args.n _ (g.S.Sink.heard c.args.sink.now) (g.S.Sink.heard c.serve_all.new.sink) _ c.serve_all.ensures.0 new.some new.few
    (new.new c.new-2.result (wide, c.new-2.ensures.count, c.new-2.ensures.nobody)) c.serve_all.ensures.1 in
    record { plays = all; promise = plays_suffice }

pub returns-in_err-parts-clause-promise : goal.returns-in_err-parts-clause-promise
returns-in_err-parts-clause-promise g c = plays_suffice
