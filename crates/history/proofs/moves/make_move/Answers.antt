use Rattle.std.proofs.Common.{◌≡◌, ◌<◌, length, get_or, set, sym, refl, ap, ◌∙◌, inl, rules, arith, if◌then◌else◌}
use Rattle.std.proofs.lemmas.List.{get_or_default}
use Rattle.std.proofs.lemmas.Bool.Decides.{nat_tests}
use Rattle.groups.specs.Stones.{forest_of}
use Rattle.groups.specs.Moves.{stones_of}
use Rattle.groups.proofs.InTurn.{last_stone}
use Rattle.history.specs.Holds.{lent, moves_in, won_by}
use Rattle.history.proofs.Serving.{some_side, won_then, right_no_cell, right_over, right_taken, mover, room_in, served_made}
use Rattle.history.proofs.moves.make_move.Goals as goal

pub returns-in_default : goal.returns-in_default
returns-in_default c = record {
  right = right_no_cell _ _ c.args.stones.now c.args.cell c.requires.played c.requires.kept.stones_are (search rules);
  unchanged = refl;
}

pub returns-in_default-winner : goal.returns-in_default-winner
returns-in_default-winner c = record {
  right =
      right_over _ _ c.args.stones.now c.args.cell c.requires.played c.requires.kept.stones_are (search rules) _
      (sym c.requires.winner ∙ ap won_by c.in_default-winner.is) (some_side c.in_default-winner.field-0);
  unchanged = refl;
}

pub returns-in_default-standing : goal.returns-in_default-standing
returns-in_default-standing c = record {
  right =
      right_taken _ _ c.args.stones.now c.args.cell c.requires.played c.requires.kept.stones_are (search rules)
      (sym c.requires.winner ∙ ap won_by c.in-None.is)
      (λ e. let seen = get_or_default c.args.stones.now c.args.cell c.in-Some.field-0.now 0 (search rules) in grind (arith, nat_tests));
  unchanged = refl;
}

pub invariant_of-result : goal.invariant_of-result
invariant_of-result c =
    let on : c.args.cell < length c.args.stones.now = search rules in
    let bare : get_or c.args.stones.now c.args.cell 0 ≡ 0 = grind (arith, nat_tests) in
    record { few = omega (arith, room_in _ (lent _ _ _ _) c.requires c.args.cell on bare) }

pub returns : goal.returns
returns c =
    let on : c.args.cell < length c.args.stones.now = search rules in
    let bare : get_or c.args.stones.now c.args.cell 0 ≡ 0 = grind (arith, nat_tests) in
    let m = lent c.args.stones.now c.args.log.now c.args.parents.now c.args.borders.now in
    let ms = moves_in c.args.game m in
    let turn = c.turn-side.ensures ∙ sym (mover c.args.game m c.requires c.args.cell) in
    served_made c.args.game m c.requires c.args.cell _ _ refl refl on (ap won_by c.in-None.is) bare
    (λ i. set c.args.stones.now (c.from-3.ensures i) ((c.from-2.ensures ∙ turn) i)) c.set_word.ensures.after (omega (arith, c.set_word.auto.bytes))
    (c.place.ensures.grows (stones_of ms) (inl c.requires.kept.stones_are) c.requires.kept.groups_are ∙ ap (forest_of c.args.game.size.n) (last_stone ms _ _ turn)) (search rules)
    (ap won_by c.then_some.ensures ∙ won_then _ _ ∙ (λ i. if c.touches_both.ensures.value i then turn i else 0))
