use Rattle.std.proofs.Common.{◌≡◌, ◌*◌, take, ap, ◌∙◌, rules}
use Rattle.std.proofs.lemmas.List.{take_min}
use Rattle.session.specs.Desks.{desk_game}
use Rattle.driver.specs.Tables.{way_of}
use Rattle.driver.proofs.Answering.{is_open_with, same_lines}
use Rattle.driver.proofs.table.Table.position.Goals as goal

pub returns : goal.returns
returns c =
    let wide : c.size.result.n ≡ (desk_game c.args.self.now.desk).board.wide = c.size.ensures in
    let cells : c.cells.result.now ≡ (desk_game c.args.self.now.desk).board.cells = c.cells.ensures in
    let way : take c.min-end.result c.way-way.result.now ≡ take (2 * c.args.marked) (way_of c.args.self.now) =
    ap (λ k. take k c.way-way.result.now) c.min-end.ensures ∙ take_min (2 * c.from.result) c.way-way.result.now ∙ ap (take (2 * c.from.result)) c.way-way.ensures
    ∙ ap (λ k. take (2 * k) (way_of c.args.self.now)) c.from.ensures in
    is_open_with c.args.self.now.is_open (desk_game c.args.self.now.desk) _ (search rules)
    (c.winner.result, c.winner.ensures.connected, same_lines _ wide cells way)
