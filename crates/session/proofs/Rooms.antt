-- Room for a board and for every smaller one; and vectors that get longer in the room that they have.
use Rattle.std.proofs.Common.{◌≡◌, ℕ, ◌+◌, ◌-◌, ◌*◌, ◌≤◌, List, ◌∷◌, [], ◌++◌, length, replicate, sym, ap, ◌∙◌, append_assoc, mul-le-mul, arith}
use Rattle.std.proofs.lemmas.List.{replicate-append-replicate}
use Rattle.std.proofs.lemmas.Bool.Decides.{nat_tests}
use Rattle.std.specs.List.{insert}
use Rattle.std.proofs.lemmas.List.Edits.{insert_end}
use Rattle.endgame.specs.Verdicts.{bytes_of_table}
use Rattle.session.specs.Keeps.{Roomy}
use Rattle.session.specs.Serving.{Room}

-- what is enough for a board is enough for every smaller one
pub room_below : (n most scratch way : ℕ) → n ≤ most → Roomy most scratch way → Room n scratch way
room_below n most scratch way less r =
    let fewer : n * n ≤ most * most = mul-le-mul less less in
    record { searched = omega (arith, r); tabled = table_below; written = omega (arith, r) }
  where
    table_below : bytes_of_table n ≤ scratch
    table_below = grind (arith, nat_tests, r)

-- zeros were put behind what was there until there were so many in all, in the same room
pub record IsLonger (first : List ℕ) (start : ℕ) (items : List ℕ) (len count room before : ℕ) : Type 0 where
  pub items_are : items ≡ first ++ replicate (count - start) 0
  pub long : len ≡ count
  pub in_place : room ≡ before

-- one more at the end
pub longer_more : (first items : List ℕ) (start count : ℕ) → start ≤ count → length items ≡ count → items ≡ first ++ replicate (count - start) 0 →
    insert items count 0 ≡ first ++ replicate (count + 1 - start) 0
longer_more first items start count more long is =
    ap (λ k. insert items k 0) (sym long) ∙ (insert_end items 0 ∙ (ap (λ (xs : List ℕ). xs ++ 0 ∷ []) is ∙ (append_assoc first (replicate (count - start) 0) (replicate 1 0) ∙
    ap (λ (xs : List ℕ). first ++ xs) (replicate-append-replicate (count - start) 1 0 ∙ ap (λ k. replicate k 0) next))))
  where
    next : count - start + 1 ≡ count + 1 - start
    next = omega (arith, more)
