-- Who has connected, and the way that shows it.
use Rattle.std.proofs.Common.{◌≡◌, ℕ, ◌*◌, List, length, take, Some, None, Option, sym, ap, ◌∙◌, subst, arith}
use Rattle.hexboard.specs.Geometry.{laid}
use Rattle.hexboard.specs.Games as games
use Rattle.hexboard.specs.Sides.{number}
use Rattle.hexboard.specs.Words.{words}
use Rattle.hexboard.specs.declared.side.Side.{Side}
use Rattle.paths.specs.Ways.{Written}
use Rattle.groups.specs.Moves.{stones_of}
use Rattle.groups.proofs.Positions.{board_cells, board_laid}
use Rattle.history.specs.Holds.{won_by, Memory, moves_in, formal, Holds}
use Rattle.history.specs.declared.game.Game.{Game}
use Rattle.history.proofs.Serving.{some_side, not_won, winner_connects, right_way}
use Rattle.history.proofs.Turns.{winner_open, winner_won}
use Rattle.wire.specs.declared.answer.Answer.TheVariants as reply
use Rattle.session.specs.Desks.{Outcome}
use Rattle.session.specs.Replies.{Reply}
use Rattle.session.specs.Short.{Short}
use Rattle.wire.specs.declared.refusal.Refusal.{Refusal}

-- there is a stone's byte for each cell
pub stones_long : (g : Game) (m : Memory) → Holds g m → length m.stones ≡ g.size.n * g.size.n
stones_long g m h = ap length h.kept.stones_are ∙ board_cells g.size.n (stones_of (moves_in g m)) h.played.legal

-- a way of the winner that was written to the front of some bytes is the right answer
pub right_found : (g : Game) (m : Memory) → Holds g m → (side : Side) → won_by g.winner ≡ number side → (old new : List ℕ) (k : ℕ) →
    Written (laid g.size.n m.stones) (number side) old new k →
    games.Right (formal g m) games.who (games.way (number side) (words (take (2 * k) new))) (formal g m)
right_found g m h side e old new k w =
    right_way g m h (number side) _ (winner_connects g m h side e).1 w.shortest.way w.shortest.few

-- and a shortest
pub short_found : (g : Game) (m : Memory) → Holds g m → (side : Side) (old new : List ℕ) (k : ℕ) → Written (laid g.size.n m.stones) (number side) old new k →
    Short (formal g m).board (games.way (number side) (words (take (2 * k) new)))
short_found g m h side old new k w =
    subst (λ b. Short b (games.way (number side) (words (take (2 * k) new)))) (board_laid g.size.n (stones_of (moves_in g m)) m.stones h.kept.stones_are) w.shortest.least

-- no other reply is a refusal
pub not_refused_number : (n : ℕ) (why : Refusal) → ◌≡◌ {A = Reply} (reply.Number n) (reply.Refused why) → ⊥
not_refused_number n why e = let z : ◌≡◌ {A = ℕ} 0 1 = cc in omega arith

pub not_refused_way : (side : Side) (k : ℕ) (why : Refusal) → ◌≡◌ {A = Reply} (reply.Way side k) (reply.Refused why) → ⊥
not_refused_way side k why e = let z : ◌≡◌ {A = ℕ} 0 1 = cc in omega arith

-- nobody has won, or the winner has connected
pub won_or_nobody : (g : Game) (m : Memory) → Holds g m → (r : Option Side) → r ≡ g.winner → Outcome (formal g m) r
won_or_nobody g m h None e = not_won (formal g m) (winner_open g.size.n (moves_in g m) h.played (sym h.winner ∙ ap won_by (sym e)))
won_or_nobody g m h (Some side) e =
    (winner_won g.size.n (moves_in g m) h.played (number side) (sym h.winner ∙ ap won_by (sym e)) (some_side side)).0
