-- A way that is shown is a shortest one. Definitions only.
use Rattle.std.specs.Prelude.{◌≡◌, ℕ, ◌≤◌, true, List, length, ⊤}
use Rattle.hexboard.specs.Board.{Board, is_way}
use Rattle.hexboard.specs.Games as games

-- the answer shows no way, or one than which no way of that side on the board has fewer cells
abbrev pub Short : Board → games.Answer → Type 0
Short b (games.refused r p) = ⊤
Short b (games.number n) = ⊤
Short b (games.way s w) = (v : List ℕ) → is_way b s v ≡ true → length w ≤ length v
Short b (games.yes next) = ⊤
Short b games.no = ⊤
Short b games.too_many = ⊤
