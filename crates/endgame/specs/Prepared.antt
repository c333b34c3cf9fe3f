-- What is prepared for a side from the memory that keeps its groups. Definitions only.
use Rattle.std.specs.Prelude.{◌≡◌, ℕ, List}
use Rattle.groups.specs.Stones.{Placement, board_of, AreLegal, KeepsGroups}
use Rattle.endgame.specs.declared.links.Links.{Links}
use Rattle.endgame.specs.Ends.{Numbered}
use Rattle.endgame.specs.Linked.{Linked}

-- These stones, of either side and in any order, lead to the cells in memory, and to the groups
-- that it keeps.
pub record LeadTo (n : ℕ) (laid : List Placement) (stones parents borders : List ℕ) : Type 0 where
  pub legal : AreLegal n laid
  pub cells : stones ≡ (board_of n laid).cells
  pub groups : KeepsGroups n laid parents borders

-- Whatever stones lead to what is in memory, the links of side w tell what its stones make of the
-- empty cells es.
abbrev pub ArePrepared : ℕ → ℕ → List ℕ → List ℕ → List ℕ → List ℕ → Links → Type 0
ArePrepared n w stones parents borders es l =
    (laid : List Placement) → LeadTo n laid stones parents borders →
    Numbered (board_of n laid) es → Linked (board_of n laid) es w l
