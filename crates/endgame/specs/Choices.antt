-- Which of the cells that must be tried is tried first. Definitions only.
use Rattle.std.specs.Prelude.{◌≡◌, ℕ, ◌+◌, ◌<◌, ◌≤◌, bit_and}
use Rattle.ranking.specs.Sets.{bit}
use Rattle.endgame.specs.Floods.{Weighs}
use Rattle.endgame.specs.declared.links.Links.{Links}
use Rattle.endgame.specs.declared.search.Position.{Position}
use Rattle.endgame.specs.declared.search.TheConstants.{CELLS}

-- the stones of a set that stand on cells of the end
abbrev pub stones_in_end : ℕ → ℕ
stones_in_end stones = bit_and stones CELLS

-- cell k weighs w for both sides together
abbrev pub WeighsBoth : Links → Links → Position → ℕ → ℕ → Type 0
WeighsBoth mine theirs p k w =
    (u : ℕ) × (v : ℕ) × Weighs mine k (stones_in_end p.mine) p.free u
    × Weighs theirs k (stones_in_end p.theirs) p.free v × (w ≡ u + v)

-- Of the cells of a set, which weigh what W says, the first of those that weigh most.
pub record FirstHeaviest (W : ℕ → ℕ → Type 0) (set best : ℕ) : Type 0 where
  pub chosen : bit best set ≡ 1
  pub most : ℕ
  pub weighs : W best most
  pub others : (k : ℕ) → bit k set ≡ 1 → (w : ℕ) × W k w × (w ≤ most) × (k < best → w < most)
