use Rattle.std.proofs.Common.{◌≡◌, ◌+◌, ◌-◌, ◌*◌, ◌≤◌, length, sym, ap, ◌∙◌, arith}
use Rattle.std.proofs.lemmas.List.{length-drop, take_rest}
use Rattle.session.specs.Replies.{replied}
use Rattle.session.proofs.Showing.{lent_long, served_shown, right_read, refuses_only}
use Rattle.session.proofs.lent.call.Goals as goal
use Rattle.session.proofs.lent.call.Goals.{After-serve-reply}

-- the answer has room
roomy : (c : After-serve-reply) → 2 * (c.args.game.size.n * c.args.game.size.n) + 8 ≤ length c.args.answer.now
roomy c = omega (arith, c.cells.ensures.value, ap (λ s. s.n * s.n) c.size.ensures, c.if-answer-cells.false)

-- what was lent for the way is as long as it was
way_long : (c : After-serve-reply) → length c.serve-reply.new.way ≡ length c.args.answer.now - 5
way_long c = c.serve-reply.auto.way ∙ (ap length (take_rest c.args.answer.now 5) ∙ length-drop 5 c.args.answer.now)

pub show-requires : goal.show-requires
show-requires c =
    let before = (goal.at.show-requires c).After-serve-reply in
    let long = lent_long c.args.answer.now c.serve-reply.new.way (omega (arith, roomy before)) (way_long before) in
    record { room = omega (arith, long, roomy before); way = omega (arith, long, roomy before, c.serve-reply.ensures.fits); has_bytes = c.serve-reply.ensures.has_bytes }

pub returns-clause-called : goal.returns-clause-called
returns-clause-called c =
    let before = (goal.at.returns-clause-called c).After-serve-reply in
    let way = c.serve-reply.new.way in
    let reply = c.serve-reply.result.1 in (
      roomy before,
      record {
        answer = replied reply way;
        right = right_read _ _ c.args.bytes.now c.in-Ok.call (replied reply way) (sym c.in-Ok.is ∙ c.read_call.ensures.value) c.serve-reply.ensures.right;
        short = c.serve-reply.ensures.short;
        shown_in =
            served_shown c.args.answer.now way c.show.new.answer reply c.show.result (omega (arith, roomy before, c.serve-reply.ensures.fits)) (way_long before)
            c.serve-reply.ensures.behind c.show.ensures;
        holds = c.serve-reply.ensures.holds;
        room = c.serve-reply.auto.scratch;
        same_size = c.serve-reply.ensures.same_size;
        refused = λ h. let (why, is) = refuses_only reply way h in let (g, m, s) = c.serve-reply.ensures.refused why is in (g, m, ap (λ t. t.scratch) s);
      },
    )
