-- Rows of stones of one side, each next to the one before: what makes stones one group.
use Rattle.std.specs.Prelude.{◌≡◌, ℕ, ◌<◌, Bool, true, length}
use Rattle.hexboard.specs.Board.{Board, at, next_to}

-- A chain over places of one's own, each near the one before, from one place to another. It is
-- stated for any nearness, since not every board is a square of six-sided cells.
pub data Chain (near : ℕ → ℕ → Bool) (own : ℕ → Type 0) : ℕ → ℕ → Type 0 where
  here : {i j : ℕ} → own i → i ≡ j → Chain near own i j
  step : {i j k : ℕ} → own i → near i j ≡ true → Chain near own j k → Chain near own i k

-- a stone of side s stands on cell i
abbrev pub Stone : Board → ℕ → ℕ → Type 0
Stone b s i = (i < length b.cells) × (at b i ≡ s)

-- a row of stones of side s from cell i to cell j, each next to the one before
abbrev pub Row : Board → ℕ → ℕ → ℕ → Type 0
Row b s = Chain (next_to b.wide) (Stone b s)
