-- What must be tried where the other side threatens to connect at once. Definitions only.
use Rattle.std.specs.Prelude.{◌≡◌, ℕ, ◌≢◌}
use Rattle.ranking.specs.Sets.{bit, Within}
use Rattle.endgame.specs.declared.search.Cut.{Cut}

-- Of the free cells those in `must` meet every threat, and only they can help: each of the others
-- leaves a threat that is in `lost`.
pub record Replied (threats free : ℕ) (r : Cut) : Type 0 where
  pub inside : Within r.must free
  pub meets : (k t : ℕ) → bit k r.must ≡ 1 → bit t threats ≡ 1 → t ≡ k
  pub lost_in : Within r.lost threats
  pub left : (k : ℕ) → bit k free ≡ 1 → bit k r.must ≡ 0 → (t : ℕ) × (t ≢ k) × (bit t r.lost ≡ 1)
