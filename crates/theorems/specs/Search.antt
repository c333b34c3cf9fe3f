-- Looking for a way through all rows of stones in which none stands twice. Definitions only.
use Rattle.std.specs.Prelude.{ℕ, zero, suc, Bool, false, ◌&&◌, ◌||◌, length, ◌==◌}
use Rattle.hexboard.specs.Board.{Board, at, next_to, begins, ends, put}

-- a test holds of some number below n
unfoldable pub some_below : (ℕ → Bool) → ℕ → Bool
some_below test zero = false
some_below test (suc n) = test n || some_below test n

-- A row of at most so many stones of side s, none of them twice, leads to its last border from a
-- cell that may be the first. Each stone is taken off the board as the row comes to it, and the
-- next one is next to it. (What a `let` names is looked at only if it is needed.)
unfoldable pub finds : ℕ → Board → ℕ → (ℕ → Bool) → Bool
finds zero b s first = false
finds (suc k) b s first =
    some_below (λ j. let on : Bool = finds k (put b 0 j) s (next_to b.wide j) in let rest : Bool =
    ends b.wide s j || on in (at b j == s && first j) && rest) (length b.cells)

-- the search finds a way of side s: a row from its first border of no more stones than there are
-- cells
abbrev pub finds_way : Board → ℕ → Bool
finds_way b s = finds (length b.cells) b s (begins b.wide s)
