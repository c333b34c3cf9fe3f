-- What opening in lent memory answers.
use Rattle.std.specs.Prelude.{◌≡◌, ℕ, ◌*◌, ◌<◌, ◌≤◌, ◌⊎◌}
use Rattle.hexboard.specs.Games as games
use Rattle.wire.specs.declared.refusal.Refusal.{Refusal}
use Rattle.wire.specs.declared.refusal.Refusal.TheVariants.{BadSize, SmallMemory}
use Rattle.history.specs.Holds.{won_by, Memory, lent, formal, Holds}
use Rattle.history.specs.declared.game.Game.{Game}
use Rattle.session.specs.Serving.{Room}
use Rattle.session.specs.Sizes.{asked}
use Rattle.session.specs.declared.lent.Parts.{Parts}

-- what the parts of the lent memory hold of a game
abbrev pub memory_in : Parts → Memory
memory_in p = lent p.stones.now p.log.now p.parents.now p.borders.now

-- a game by value without moves, on a board n wide
abbrev pub Fresh : ℕ → Game → Type 0
Fresh n g = (g.size.n ≡ n) × (g.count ≡ 0) × (won_by g.winner ≡ 0)

-- Memory m holds a new game n wide, and there is scratch for every call.
pub record New (n : ℕ) (m : Memory) (scratch : ℕ) : Type 0 where
  pub some : 0 < n
  pub few : n ≤ 19
  pub holds : (g : Game) → Fresh n g → Holds g m
  pub new : (g : Game) → Fresh n g → formal g m ≡ games.new_game n
  pub room : Room n scratch (2 * (n * n))

-- The first of the checks that fails: n is out of range, or there are not so many bytes as are
-- asked for.
abbrev pub NotOpened : ℕ → ℕ → Refusal → Type 0
NotOpened n bytes why =
    ((why ≡ BadSize) × (0 < n → n ≤ 19 → ⊥))
    ⊎ ((why ≡ SmallMemory) × (0 < n) × (n ≤ 19) × (bytes < asked n))
