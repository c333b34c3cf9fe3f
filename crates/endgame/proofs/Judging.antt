-- The answer on a position that stones lead to, from what the search tells of its end.
use Rattle.std.proofs.Common.{ℕ, Some, List, length, get_or, sym, ap, ◌∙◌, subst}
use Rattle.hexboard.specs.Board.{other}
use Rattle.hexboard.proofs.Boards.{other_side}
use Rattle.groups.specs.Meaning.{Open}
use Rattle.groups.specs.Stones.{Placement, board_of}
use Rattle.groups.proofs.Positions.{board_good}
use Rattle.groups.proofs.Theorems.{neither}
use Rattle.theorems.proofs.Stones.{Side}
use Rattle.endgame.specs.declared.links.Links.{Links}
use Rattle.endgame.specs.declared.grouped.Grouped.{Grouped}
use Rattle.endgame.specs.Cells.{zeros_from, Lists}
use Rattle.endgame.specs.Ends.{Numbered}
use Rattle.endgame.specs.Prepared.{LeadTo, ArePrepared}
use Rattle.endgame.proofs.Numbering.{free_numbered}
use Rattle.endgame.specs.declared.search.Found.TheVariants.{Won, Lost}
use Rattle.endgame.specs.declared.verdict.Verdict.TheVariants.{Yes, No}
use Rattle.endgame.specs.Ends.{Ending}
use Rattle.endgame.specs.Searched.{TellsWinner}
use Rattle.endgame.specs.Verdicts.{Judges}
use Rattle.endgame.proofs.Starting.{ending, not_forced, forced_by_move}

module _ (g : Grouped) (s : ℕ) {cells : List ℕ} {mine theirs : Links} (side : Side s) (lists : Lists g.stones.now cells)
    (own : ArePrepared g.size.n s g.stones.now g.parents.now g.borders.now cells mine) (others : ArePrepared g.size.n (other s) g.stones.now g.parents.now g.borders.now cells theirs) where
  end_of : (laid : List Placement) → LeadTo g.size.n laid g.stones.now g.parents.now g.borders.now → Open (board_of g.size.n laid) → Ending (length cells) (board_of g.size.n laid) cells s mine theirs
  end_of laid lead not_yet =
      let b = board_of g.size.n laid in
      let num : Numbered b cells = subst (Numbered b) (sym (lists.cells ∙ ap (λ l. zeros_from 0 l) lead.cells)) (free_numbered b) in
      ending (board_good g.size.n laid lead.legal g.size.some) side num (own laid lead num) (others laid lead num) (neither b s not_yet side) (neither b (other s) not_yet (other_side s side))

  -- the search says no
  pub judged_no : (carrier : ℕ) → TellsWinner (length cells) mine theirs (Lost carrier) → Judges g.size.n s g.stones.now g.parents.now g.borders.now No
  judged_no carrier looked laid lead not_yet = let end = end_of laid lead not_yet in not_forced carrier end (looked (board_of g.size.n laid) cells s end)

  -- or it says yes, and names a move
  pub judged_yes : (carrier k : ℕ) → TellsWinner (length cells) mine theirs (Won carrier (Some k)) → Judges g.size.n s g.stones.now g.parents.now g.borders.now (Yes (get_or cells k 0))
  judged_yes carrier k looked laid lead not_yet =
      let end = end_of laid lead not_yet in forced_by_move carrier k end (looked (board_of g.size.n laid) cells s end)
