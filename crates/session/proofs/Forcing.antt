-- Whether the side to move can force that it connects: somebody has won already, or the end is looked through.
use Rattle.std.proofs.Common.{◌≡◌, ℕ, ◌+◌, ◌*◌, ◌%◌, ◌<◌, eqb, ◌≢◌, sym, refl, ap, ◌∙◌, subst, inl, inr, add-one, if◌then◌else◌}
use Rattle.hexboard.specs.Board.{Board, Connects}
use Rattle.hexboard.specs.Games as games
use Rattle.hexboard.specs.Promise.{Good, OneOfBoth}
use Rattle.hexboard.specs.Sides.{number}
use Rattle.hexboard.specs.declared.side.Side.{Side}
use Rattle.hexboard.specs.declared.side.Side.TheVariants.{One, Two}
use Rattle.theorems.proofs.Decided.{one_of_both_lem}
use Rattle.groups.specs.Moves.{stones_of}
use Rattle.groups.proofs.Positions.{board_good, board_cells}
use Rattle.endgame.specs.Verdicts as Verdicts
use Rattle.endgame.specs.Verdicts.{Judges}
use Rattle.endgame.specs.declared.verdict.Verdict.{Verdict}
use Rattle.endgame.specs.declared.verdict.Verdict.TheVariants as verdict
use Rattle.history.specs.Holds.{won_by, Memory, moves_in, formal, Holds}
use Rattle.history.specs.declared.game.Game.{Game}
use Rattle.history.proofs.Serving.{some_side, not_won, mover}
use Rattle.history.proofs.Turns.{winner_open, winner_won}

-- never both force: who has connected leaves the other nothing
lost_to : (b : Board) (s t : Side) → Good b → s ≢ t → Connects b (number s) → games.Forces (number t) b (number t) → ⊥
unfolding OneOfBoth
lost_to b One One good apart c f = apart refl
lost_to b One Two good apart c f = (one_of_both_lem b 2 good (inr refl)).1 (games.has 2 c) f
lost_to b Two One good apart c f = (one_of_both_lem b 1 good (inl refl)).1 f (games.has 1 c)
lost_to b Two Two good apart c f = apart refl

module _ (g : Game) (m : Memory) (h : Holds g m) (turn : Side) (is : number turn ≡ (if eqb (g.count % 2) 0 then 1 else 2)) where
  abbrev now_game : games.Game
  now_game = formal g m

  turn_is : now_game.turn ≡ number turn
  turn_is = mover g m h 0 ∙ sym is

  connected : (side : Side) → won_by g.winner ≡ number side → Connects now_game.board (number side)
  connected side e = (winner_won g.size.n (moves_in g m) h.played (number side) (sym h.winner ∙ e) (some_side side)).0

  -- the side to move has connected
  pub right_has : (side : Side) → won_by g.winner ≡ number side → side ≡ turn → games.Right now_game games.can_force (games.yes 0) now_game
  right_has side e same = games.has_it (subst (Connects now_game.board) (ap number same ∙ sym turn_is) (connected side e))

  -- the other has
  pub right_lost : (side : Side) → won_by g.winner ≡ number side → side ≢ turn → games.Right now_game games.can_force games.no now_game
  right_lost side e apart =
      games.not_forced
      (subst (λ t. games.Forces t now_game.board t → ⊥) (sym turn_is) (lost_to now_game.board side turn (board_good g.size.n (stones_of (moves_in g m)) h.played.legal g.size.some) apart (connected side e)))

  -- nobody has, and the end was looked through
  module _ (none : won_by g.winner ≡ 0) where
    nobody_won : games.Won now_game → ⊥
    nobody_won = not_won now_game (winner_open g.size.n (moves_in g m) h.played (sym h.winner ∙ none))

    judged : (v : Verdict) → Judges g.size.n (number turn) m.stones m.parents m.borders v → Verdicts.Right now_game.board now_game.turn v
    judged v told =
        subst (λ t. Verdicts.Right now_game.board t v) (sym turn_is)
        (told (stones_of (moves_in g m)) (record { legal = h.played.legal; cells = h.kept.stones_are; groups = h.kept.groups_are }) (winner_open g.size.n (moves_in g m) h.played (sym h.winner ∙ none)))

    pub right_yes : (i : ℕ) → Judges g.size.n (number turn) m.stones m.parents m.borders (verdict.Yes i) → games.Right now_game games.can_force (games.yes (i + 1)) now_game
    right_yes i told =
        let (on, bare, forces) = judged (verdict.Yes i) told in
        subst (λ k. games.Right now_game games.can_force (games.yes k) now_game) (sym (add-one i)) (games.forced i on nobody_won bare forces)

    -- the cell is one of the board's, so its number has room for one more
    pub small_cell : (i : ℕ) → Judges g.size.n (number turn) m.stones m.parents m.borders (verdict.Yes i) → i < g.size.n * g.size.n
    small_cell i told = subst (λ k. i < k) (board_cells g.size.n (stones_of (moves_in g m)) h.played.legal) (judged (verdict.Yes i) told).0

    pub right_no : Judges g.size.n (number turn) m.stones m.parents m.borders verdict.No → games.Right now_game games.can_force games.no now_game
    right_no told = games.not_forced (judged verdict.No told)

    pub right_many : Judges g.size.n (number turn) m.stones m.parents m.borders verdict.TooMany → games.Right now_game games.can_force games.too_many now_game
    right_many told = games.many (judged verdict.TooMany told) nobody_won
