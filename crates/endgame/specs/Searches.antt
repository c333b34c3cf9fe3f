-- How much is looked at and searched: no position of an end is searched twice. Definitions only.
use Rattle.std.specs.Prelude.{◌≡◌, ◌≢◌, ℕ, ◌+◌, ◌*◌, ◌<◌, ◌≤◌, ◌⊎◌, List, count_ones}
use Rattle.ranking.specs.Positions.{start, total, place, free_at}
use Rattle.ranking.specs.Table.{entry, sum_over_entries}
use Rattle.endgame.specs.declared.links.Links.{Links}
use Rattle.endgame.specs.declared.search.Effort.{Effort}
use Rattle.endgame.specs.declared.search.Position.{Position}
use Rattle.endgame.specs.Ends.{IsSeen}

-- how many positions have an entry
abbrev pub entries : ℕ → List ℕ → ℕ
entries e t = sum_over_entries (λ i. 1) t (total e)

-- how many moves there are in the positions that have an entry: one to each free cell
abbrev pub moves : ℕ → List ℕ → ℕ
moves e t = sum_over_entries (free_at e) t (total e)

-- how many stones were laid
abbrev pub stones_of : Position → ℕ
stones_of p = count_ones p.mine + count_ones p.theirs

-- each entry is 0, which says nothing, or a winner's
abbrev pub IsReadable : List ℕ → Type 0
IsReadable t = (i : ℕ) → entry t i < 3

-- What was done before position p is looked at: as many positions were searched as have an entry;
-- and each look was at what a move leads to, in one of those or in a position on the way here.
-- There is one of these for each stone, with at most 16 moves.
pub record Accounts (e : ℕ) (p : Position) (done : Effort) (t : List ℕ) : Type 0 where
  pub readable : IsReadable t
  pub searched : done.searched ≡ entries e t
  pub looks : done.looks ≤ moves e t + 16 * stones_of p

-- Table u has each entry of table t, and more only for positions with m stones and more.
pub record Extends (e m : ℕ) (t u : List ℕ) : Type 0 where
  pub keeps : (i : ℕ) → entry t i ≢ 0 → entry u i ≡ entry t i
  pub outside : (i : ℕ) → (i < start e m) ⊎ (total e ≤ i) → entry u i ≡ entry t i

-- Position p is looked at, with table t before and u afterwards: no position is searched twice.
pub record SearchesOnce (e : ℕ) (mine theirs : Links) (p : Position) (before after : Effort)
    (t u : List ℕ) : Type 0 where
  -- what is decided by looking at it, or has an entry, is not searched;
  pub seen : IsSeen mine theirs p → u ≡ t
  pub known : entry t (place e p.mine p.theirs) ≢ 0 → u ≡ t
  -- an entry stays as it is, and those that are new are winners';
  pub extends : Extends e (stones_of p) t u
  pub readable : IsReadable u
  -- as many positions are searched as have an entry;
  pub searched : after.searched ≡ entries e u
  -- this is a look, and each of the others is at what a move leads to, in a position entered since.
  pub looks_more : before.looks < after.looks
  pub looks_few : after.looks + moves e t ≤ before.looks + 1 + moves e u

-- What was done for a whole question, of an end with e cells, with table t afterwards: as many
-- positions were searched as have an entry, so none was searched twice; they are no more than there
-- are; and beside the first look there was at most one for each of their moves.
pub record IsOnce (e : ℕ) (done : Effort) (t : List ℕ) : Type 0 where
  pub searched : done.searched ≡ entries e t
  pub few : done.searched ≤ total e
  pub looks : done.looks ≤ 1 + moves e t
