-- The lines of the kinds of which a line came.
use Rattle.std.proofs.Common.{◌≡◌, ℕ, List, ◌++◌, ◌+◌, [], ◌∷◌, take, sym, ap, ◌∙◌}
use Rattle.std.proofs.lemmas.List.{flat_map_more}
use Rattle.std.specs.List.{flat_map}
use Rattle.driver.specs.declared.times.Kind.{Kind}

-- the lines of some kinds, and that of one more
pub lines_more : (f : Kind → List ℕ) (ks : List Kind) (i : ℕ) (k : Kind) → take (i + 1) ks ≡ take i ks ++ k ∷ [] → flat_map f (take i ks) ++ f k ≡ flat_map f (take (i + 1) ks)
lines_more f ks i k more = flat_map_more f [] (take i ks) k ∙ ap (flat_map f) (sym more)
