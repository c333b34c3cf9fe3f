use Rattle.std.proofs.Common.{◌≡◌, ◌-◌, ◌^◌, ◌<◌, sym, ◌∙◌, arith}
use Rattle.ranking.specs.Sets.{bit, members}
use Rattle.ranking.proofs.Members.{members_rest, members_empty}
use Rattle.endgame.proofs.Threats.{no_threat, one_threat, two_threats}
use Rattle.endgame.proofs.search.replies.Goals as goal
use Rattle.endgame.proofs.search.replies.Goals.{In-Some, In-Some-next}

-- the first threat, and what is left without it
first : (c : In-Some) → (bit c.in-Some.threat c.args.threats ≡ 1) × (c.in-Some.threat < 64) × (c.next.new.self ≡ members (c.args.threats - 2 ^ c.in-Some.threat))
first c = members_rest c.args.threats c.in-Some.threat c.next.new.self (omega arith) (sym c.of-cells.ensures ∙ c.in-Some.ensures.steps)

second : (c : In-Some-next) → (bit c.in-Some-next.another (c.args.threats - 2 ^ c.in-Some.threat) ≡ 1) × (c.in-Some-next.another < 64)
second c =
    let left = (first (goal.at.one-requires c).In-Some).2 in
    let (is, small, _) = members_rest (c.args.threats - 2 ^ c.in-Some.threat) c.in-Some-next.another c.next-2.new.self (omega arith) (sym left ∙ c.in-Some-next.ensures.steps) in (is, small)

pub returns-in_default : goal.returns-in_default
returns-in_default c = no_threat c.args.threats c.args.free (members_empty c.args.threats (omega arith) (sym c.of-cells.ensures ∙ c.in_default.ensures.steps.0))

pub one-first-requires : goal.one-first-requires
one-first-requires c = (first (goal.at.one-first-requires c).In-Some).1

pub returns-in_default-next : goal.returns-in_default-next
returns-in_default-next c =
    let (is, _, left) = first (goal.at.returns-in_default-next c).In-Some in
    rw c.one-first.ensures
    (one_threat c.args.threats c.args.free c.in-Some.threat c.requires is (members_empty (c.args.threats - 2 ^ c.in-Some.threat) (omega arith) (sym left ∙ c.in_default-next.ensures.steps.0)))

pub one-requires : goal.one-requires
one-requires c = (second (goal.at.one-requires c).In-Some-next).1

pub returns : goal.returns
returns c =
    rw (c.one-first.ensures, c.one.ensures)
    (two_threats c.args.threats c.args.free c.in-Some.threat c.in-Some-next.another (first (goal.at.returns c).In-Some).0 (second (goal.at.returns c).In-Some-next).0)
