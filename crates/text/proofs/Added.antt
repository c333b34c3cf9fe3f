-- What has been added to a text, part by part.
use Rattle.std.proofs.Common.{◌≡◌, ℕ, ◌+◌, List, ◌++◌, sym, ap, ◌∙◌, add-one}
use Rattle.std.proofs.lemmas.List.{append_assoc}
use Rattle.text.specs.Boards.{each}

-- one part more
pub each_more : (f : ℕ → List ℕ) (k : ℕ) (before written after : List ℕ) → written ≡ before ++ each k f → after ≡ written ++ f k → after ≡ before ++ each (k + 1) f
each_more f k before written after sofar more =
    more ∙ (ap (λ (xs : List ℕ). xs ++ f k) sofar ∙ (append_assoc before (each k f) (f k) ∙ ap (λ n. before ++ each n f) (sym (add-one k))))
