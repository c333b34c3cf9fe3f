-- Rows and columns of a square exchanged, and the sides: what one side had, the other has.
use Rattle.std.proofs.Common.{◌≡◌, ℕ, ◌*◌, ◌<◌, true, List, map, length, sym, refl, subst}
use Rattle.hexboard.specs.Board.{Board, is_way, other}
use Rattle.hexboard.specs.Games.{Forces}
use Rattle.hexboard.specs.Geometry.{laid}
use Rattle.hexboard.specs.Laying.{Renamed, Exchanges, square_rules}
use Rattle.hexboard.specs.Promise.{Good, across, Turned, TurnedOver}
use Rattle.theorems.proofs.Stones.{Side}
use Rattle.theorems.proofs.Leading.{carried_row, carried}
use Rattle.theorems.proofs.Ways.{way_leads, leads_way, of_board, to_board}
use Rattle.theorems.proofs.Renaming.{force_renamed}
use Rattle.theorems.proofs.Turning.{turned_on, turned_back, turned_carries}
use Rattle.theorems.proofs.Squares.{to_game, of_game, position}

-- On a square, to be across is to be turned over: so a way of one side becomes a way of the other, each cell across,
across_way : (n : ℕ) (b c : List ℕ) (s : ℕ) (w : List ℕ) → length b ≡ n * n → Renamed (across n) b c → Side s →
    is_way (laid n b) s w ≡ true → is_way (laid n c) (other s) (map (across n) w) ≡ true
unfolding across
across_way n b c s w long m side e =
    leads_way (laid n c) (other s) (map (across n) w) (carried_row (turned_carries n n b c s long m side) w (way_leads (laid n b) s w e))

-- and the game is itself with the sides exchanged.
pub squares_exchange : (n : ℕ) → 0 < n → Exchanges (square_rules n) (square_rules n) (across n) (across n)
unfolding across
squares_exchange n pos = record {
  same_count = refl;
  inside = λ i h. turned_on n n i h;
  back_inside = λ i h. turned_on n n i h;
  there = λ i h. turned_back n n i h;
  again = λ i h. turned_back n n i h;
  wins = λ s b c side p m w. to_board (laid n c) (other s) (carried (turned_carries n n b c s p.long m side) (of_board (laid n b) s w));
}

-- two boards, turned over
module _ (b c : Board) (g : Good b) (m : Turned b c) where
  -- Their cells are renamed.
  renamed : Renamed (across b.wide) b.cells c.cells
  renamed = record { long = m.1; stones = m.2 }

  -- A way of one side becomes a way of the other, each cell across.
  pub turned_way : (s : ℕ) (w : List ℕ) → Side s → is_way b s w ≡ true → is_way c (other s) (map (across b.wide) w) ≡ true
  turned_way s w side e =
      subst (λ n. is_way (laid n c.cells) (other s) (map (across b.wide) w) ≡ true) (sym m.0)
      (across_way b.wide b.cells c.cells s w g.1 renamed side e)

  -- What one side can force, the other can on the board turned over.
  turned : (s t : ℕ) → Side s → Forces s b t → Forces (other s) c (other t)
  turned s t side f =
      subst (λ n. Forces (other s) (laid n c.cells) (other t)) (sym m.0)
      (of_game (force_renamed (squares_exchange b.wide g.0) side (to_game f) c.cells (position g) renamed))

-- Turned over: with rows and columns exchanged, and the sides, each can force what the other could.
pub turned_over_lem : TurnedOver
unfolding TurnedOver
turned_over_lem b c s t g m side _ f = turned b c g m s t side f
