-- Whether a cell is among those that bytes give.
use Rattle.std.proofs.Common.{◌≡◌, ℕ, eqb, ◌||◌, List, [], ◌∷◌, refl, ap}
use Rattle.std.specs.List.{list_any}
use Rattle.text.specs.Boards.{among}

pub among_any : (cells : List ℕ) (cell : ℕ) → list_any (λ c. eqb c cell) cells ≡ among cells cell
among_any [] cell = refl
among_any (c ∷ cells) cell = ap (λ b. eqb c cell || b) (among_any cells cell)
