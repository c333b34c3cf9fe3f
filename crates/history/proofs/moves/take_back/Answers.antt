use Rattle.std.proofs.Common.{rules, ◌≡◌, ◌+◌, [], ◌∷◌, ◌++◌, take, set, sym, refl, ap, ◌∙◌, subst, arith}
use Rattle.hexboard.specs.Words.{words}
use Rattle.groups.specs.Stones.{stone, forest_of, AreLegal}
use Rattle.groups.specs.Moves.{stones_of, turn_of}
use Rattle.groups.proofs.InTurn.{stones_push}
use Rattle.history.specs.Holds.{lent}
use Rattle.history.proofs.Taking.{right_none_made, legal_now, groups_now, last_there, last_is, served_back}
use Rattle.history.proofs.moves.take_back.Goals as goal

pub returns-in_default : goal.returns-in_default
returns-in_default c = record { right = right_none_made _ (lent _ _ _ _) c.requires (omega (arith, c.in_default.ensures)); unchanged = refl }

pub unwrap-cell-requires : goal.unwrap-cell-requires
unwrap-cell-requires c = last_there c.args.game (lent _ c.args.log.now _ _) c.requires c.in-Some.last (omega (arith, c.in-Some.ensures)) _ c.word.ensures

pub returns : goal.returns
returns c =
    let one : c.in-Some.last + 1 ≡ c.args.game.count = omega (arith, c.in-Some.ensures) in
    let m = lent c.args.stones.now c.args.log.now c.args.parents.now c.args.borders.now in
    let last = c.in-Some.last in
    let ks = take last (words c.args.log.now) in
    let is = last_is c.args.game m c.requires last one _ _ c.word.ensures c.unwrap-cell.ensures in
    let laid = stones_push ks _ ∙ ap (λ x. stones_of ks ++ stone (turn_of ks) x ∷ []) (sym is) in
    served_back c.args.game m c.requires last one _ _ refl refl refl (c.lift-2.ensures.after ∙ ap (λ x. set c.args.stones.now x 0) is) c.set_word.ensures.after
    (omega (arith, c.set_word.auto.bytes))
    (c.lift.ensures.back (stones_of ks) (turn_of ks) (subst (AreLegal c.args.game.size.n) laid (legal_now c.args.game m c.requires last one))
    (groups_now c.args.game m c.requires last one ∙ ap (forest_of c.args.game.size.n) laid))
    (search rules)
