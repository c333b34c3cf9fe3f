use Rattle.std.proofs.Common.{[], sym, ◌∙◌, true≢false}
use Rattle.std.proofs.KnownBytes.{Appends-nil}
use Rattle.driver.specs.Tables.{game_on, exchange_at, way_of}
use Rattle.driver.proofs.Writing.{more_made, leads_nowhere, draws_none, draws, shows_one}
use Rattle.driver.proofs.printing.Positions.write_position.Goals as goal

pub returns-then-not-leads_on-clause-written : goal.returns-then-not-leads_on-clause-written
returns-then-not-leads_on-clause-written g c =
    let x = exchange_at c.args.table.now c.args.served in
    ([], leads_nowhere x (λ leads. true≢false (sym ((c.leads_on.ensures (way_of c.args.table.now)).1 leads) ∙ c.if-not-leads_on.true)), Appends-nil _)

pub returns-in-Some-clause-written : goal.returns-in-Some-clause-written
returns-in-Some-clause-written g c =
    let x = exchange_at c.args.table.now c.args.served in
    let leads = (c.leads_on.ensures (way_of c.args.table.now)).0 c.if-not-leads_on.false in
    let drawn = draws (game_on c.args.table.now) _ _ _ c.find_way-way.ensures.kept c.find_way-way.ensures.way c.in-Some.ensures in
    more_made c.write.result (λ added. (_, shows_one x _ leads drawn, added)) c.write.ensures.bytes

pub returns-in-None-clause-written : goal.returns-in-None-clause-written
returns-in-None-clause-written g c =
    let x = exchange_at c.args.table.now c.args.served in
    let leads = (c.leads_on.ensures (way_of c.args.table.now)).0 c.if-not-leads_on.false in
    ([], shows_one x [] leads (draws_none (game_on c.args.table.now) _ (sym c.find_way-way.ensures.kept ∙ c.in-None.ensures)), Appends-nil _)
