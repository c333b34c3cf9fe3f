use Rattle.std.proofs.Common.{rules, replicate, ap, ◌∙◌}
use Rattle.hexboard.specs.Board.{all_cells}
use Rattle.history.specs.Holds.{lent}
use Rattle.history.proofs.Taking.{new_held}
use Rattle.history.proofs.moves.start.Goals as goal

pub returns : goal.returns
returns c =
    let long = c.requires in
    let held = new_held c.args.size.n _ (lent c.clear.new.cells c.fill.new.self _ _)
    (search rules) (search rules) (search rules)
    (c.clear.ensures.after ∙ ap all_cells long.stones)
    (c.fill.ensures.after (λ y e. e) ∙ ap (λ k. replicate k 0) long.log)
    c.clear-2.ensures.bare (search rules) in
    record { holds = held.0; new = held.1; size = search rules; fresh = (search rules, search rules) }
