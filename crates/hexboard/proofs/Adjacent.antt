-- The six neighbours of a cell are the cells that are next to it, and the bits of its borders are the borders it touches.
use Rattle.std.proofs.Common.{◌≡◌, ℕ, zero, suc, ◌+◌, ◌*◌, ◌/◌, ◌%◌, ◌<◌, ◌≤◌, ◌↔◌, Bool, true, false, ◌||◌, ℤ, pos, negsuc, ◌+ℤ◌, [], IfSome, Some, None, Decides, Option, sym, refl, ap, ◌∙◌, arith, lit<}
use Rattle.std.proofs.lemmas.Bool.Decides.{nat_tests, same_from_decides}
use Rattle.std.proofs.lemmas.Bool.{lt-ltb}
use Rattle.std.proofs.lemmas.Int.{ints}
use Rattle.std.proofs.lemmas.Option.{none-some}
use Rattle.std.proofs.lemmas.Nat.{div-mul-add, mod-mul-add, mul-add-lt, div-add-mod', div_below, mod_below}
use Rattle.hexboard.specs.Board.{right_of, below, up_right, next_to, begins, ends}
use Rattle.std.specs.List.{Contains}
use Rattle.hexboard.specs.Geometry.{cell_of, step_to, toward, neighbour_at, neighbour_of, neighbours, given, Beside, AllNeighbours, touch}
use Rattle.hexboard.proofs.Given.{given_none, given_same, given_only, given_all}

-- A board that has a cell is at least one wide.
pub some_width : (n i : ℕ) → i < n * n → 0 < n
some_width zero i h = omega arith
some_width (suc n) i h = omega arith

-- The cell in row r and column c has them as quotient and rest.
at_place : (n r c j : ℕ) → (r < n) × (c < n) × (j ≡ r * n + c) → (r ≡ j / n) × (c ≡ j % n) × (j < n * n)
at_place n r c j h = (
  sym (ap (λ x. x / n) h.2 ∙ div-mul-add r n c h.1),
  sym (ap (λ x. x % n) h.2 ∙ mod-mul-add r n c h.1),
  omega (arith, mul-add-lt r n c n h.0 h.1),
)

-- What stands in a row and a column of the board has them as quotient and rest, and is on the board.
on_place : (n : ℕ) (r c : ℤ) (j : ℕ) → cell_of n r c ≡ Some j → (r ≡ pos (j / n)) × (c ≡ pos (j % n)) × (j < n * n)
on_place n (pos r) (pos c) j h =
    let p : (r < n) × (c < n) × (j ≡ r * n + c) = grind (arith, nat_tests) in
    let q = at_place n r c j p in
    (ap pos q.0, ap pos q.1, q.2)
on_place n (pos r) (negsuc c) j h = absurd (none-some _ h)
on_place n (negsuc r) (pos c) j h = absurd (none-some _ h)
on_place n (negsuc r) (negsuc c) j h = absurd (none-some _ h)

-- Each cell of the board stands in the row and the column that its quotient and rest name.
in_place : (n j : ℕ) → j < n * n → cell_of n (pos (j / n)) (pos (j % n)) ≡ Some j
in_place n j h =
    let w = some_width n j h in
    let d = div_below j n n w h in
    let m = mod_below j n w in
    let e = div-add-mod' j n in
    grind (arith, nat_tests)

-- The step toward the k-th neighbour leads from row a and column b to row c and column d.
abbrev pub Leads : ℕ → ℕ → ℕ → ℕ → ℕ → Type 0
Leads k a b c d = (down right : ℤ) × ((step_to k ≡ Some (down, right)) × (pos a +ℤ down ≡ pos c) × (pos b +ℤ right ≡ pos d))

-- Where a step leads onto the board there is a step, and it leads to the cell's row and column.
toward_parts : (n r c : ℕ) (o : Option (ℤ × ℤ)) (j : ℕ) → toward n r c o ≡ Some j → (j < n * n)
    × ((down right : ℤ) × ((o ≡ Some (down, right)) × (pos r +ℤ down ≡ pos (j / n)) × (pos c +ℤ right ≡ pos (j % n))))
toward_parts n r c None j h = absurd (none-some _ h)
toward_parts n r c (Some (down, right)) j h =
    let q = on_place n (pos r +ℤ down) (pos c +ℤ right) j h in
    (q.2, (down, right, (refl, q.0, q.1)))

-- The k-th neighbour of a cell is on the board, as is the cell, and the k-th step leads to it.
neighbour_leads : (n i k j : ℕ) → neighbour_of n i k ≡ Some j → (i < n * n) × (j < n * n) × Leads k (i / n) (i % n) (j / n) (j % n)
unfolding neighbour_of
neighbour_leads n i k j h =
    let p : (i < n * n) × (toward n (i / n) (i % n) (step_to k) ≡ Some j) = grind (arith, nat_tests) in
    let q = toward_parts n (i / n) (i % n) (step_to k) j p.1 in
    (p.0, q.0, q.1)

-- Where the k-th step leads from one cell of the board to another, that is the k-th neighbour.
leads_neighbour : (n i k j : ℕ) → i < n * n → j < n * n → Leads k (i / n) (i % n) (j / n) (j % n) → neighbour_of n i k ≡ Some j
unfolding neighbour_of
leads_neighbour n i k j h g (down, right, (s, p, q)) = simp (lt-ltb i (n * n) h, s, p, q) (in_place n j g)

-- Each of the six steps leads to a cell that is next to the first.
pub leads_next : (n i j k : ℕ) → Leads k (i / n) (i % n) (j / n) (j % n) → next_to n i j ≡ true
leads_next n i j k (down, right, (s, p, q)) = grind (arith, nat_tests, ints)

-- One of six is at hand where one of the tests holds.
one_of_six : {P : Type 0} (s t u v w x : Bool) → (s ≡ true → P) → (t ≡ true → P) → (u ≡ true → P) → (v ≡ true → P) → (w ≡ true → P)
    → (x ≡ true → P) → ((s || t) || ((u || v) || (w || x))) ≡ true → P
one_of_six true t u v w x a b c d e f h = a refl
one_of_six false true u v w x a b c d e f h = b refl
one_of_six false false true v w x a b c d e f h = c refl
one_of_six false false false true w x a b c d e f h = d refl
one_of_six false false false false true x a b c d e f h = e refl
one_of_six false false false false false x a b c d e f h = f h

-- Of two cells that are next to each other one of the six steps leads to the other.
pub next_leads : (n i j : ℕ) → next_to n i j ≡ true → (k : ℕ) × (k < 6) × Leads k (i / n) (i % n) (j / n) (j % n)
next_leads n i j =
    one_of_six (right_of n i j) (right_of n j i) (below n i j) (below n j i) (up_right n i j) (up_right n j i)
    (λ h. (0, lit< tt, (pos 0, pos 1, grind (arith, nat_tests, ints))))
    (λ h. (1, lit< tt, (pos 0, negsuc 0, grind (arith, nat_tests, ints))))
    (λ h. (2, lit< tt, (pos 1, pos 0, grind (arith, nat_tests, ints))))
    (λ h. (3, lit< tt, (negsuc 0, pos 0, grind (arith, nat_tests, ints))))
    (λ h. (4, lit< tt, (negsuc 0, pos 1, grind (arith, nat_tests, ints))))
    (λ h. (5, lit< tt, (pos 1, negsuc 0, grind (arith, nat_tests, ints))))

-- Every neighbour is next to the cell, and both are on the board.
pub neighbour_beside : (n i k j : ℕ) → neighbour_of n i k ≡ Some j → Beside n i j
neighbour_beside n i k j h =
    let l = neighbour_leads n i k j h in
    record { from = l.0; inside = l.1; near = leads_next n i j k l.2 }

-- The same of what the code gives, in its three forms: by cases, that it is next to the cell, that both are on the board.
pub neighbour_cases : (n i k : ℕ) (r : Option ℕ) → r ≡ neighbour_of n i k → IfSome r (Beside n i)
neighbour_cases n i k None h = tt
neighbour_cases n i k (Some j) h = neighbour_beside n i k j (sym h)

pub neighbour_next : (n i k j : ℕ) → neighbour_of n i k ≡ Some j → next_to n i j ≡ true
neighbour_next n i k j h = (neighbour_beside n i k j h).near

pub neighbour_inside : (n i k j : ℕ) → neighbour_of n i k ≡ Some j → (i < n * n) × (j < n * n)
neighbour_inside n i k j h = let b = neighbour_beside n i k j h in (b.from, b.inside)

-- Every cell that is next to a cell is one of its six neighbours.
pub neighbour_all : (n i j : ℕ) → i < n * n → j < n * n → next_to n i j ≡ true → (k : ℕ) × (k < 6) × (neighbour_of n i k ≡ Some j)
neighbour_all n i j h g e = let l = next_leads n i j e in (l.0, l.1, leads_neighbour n i l.0 j h g l.2)

pub all_neighbours : AllNeighbours 6
unfolding AllNeighbours
all_neighbours n i j b = neighbour_all n i j b.from b.inside b.near

-- The list of the neighbours has the cells that are next to the cell, and no other.
pub neighbours_beside : (n i j : ℕ) → Beside n i j ↔ Contains (neighbours n i) j
unfolding AllNeighbours
neighbours_beside n i j = (to, from)
  where
    to : Beside n i j → Contains (neighbours n i) j
    to b = let (k, few, is) = all_neighbours n i j b in given_all (neighbour_of n i) 6 0 k j (omega arith) (omega arith) is

    from : Contains (neighbours n i) j → Beside n i j
    from h = let (d, low, high, is) = given_only (neighbour_of n i) 6 0 j h in neighbour_beside n i d j is

-- What lies around the row and the column of a cell of the board are its neighbours; a cell that is not on the board has none.
pub neighbour_here : (n i k : ℕ) → i < n * n → neighbour_at n (i / n) (i % n) k ≡ neighbour_of n i k
unfolding neighbour_of
neighbour_here n i k h = rw (lt-ltb i (n * n) h) refl

pub neighbour_past : (n i k : ℕ) → n * n ≤ i → neighbour_of n i k ≡ None
unfolding neighbour_of
neighbour_past n i k h = grind (arith, nat_tests)

pub neighbours_here : (n i : ℕ) → i < n * n → given (neighbour_at n (i / n) (i % n)) 0 6 ≡ neighbours n i
neighbours_here n i h = given_same (neighbour_at n (i / n) (i % n)) (neighbour_of n i) 0 6 (λ k. neighbour_here n i k h)

pub neighbours_past : (n i : ℕ) → n * n ≤ i → neighbours n i ≡ []
neighbours_past n i h = given_none (neighbour_of n i) 0 6 (λ k low high. neighbour_past n i k h)

-- There are six.
pub neighbour_below : (n i k j : ℕ) → neighbour_of n i k ≡ Some j → k < 6
neighbour_below n i k j h = let l = (neighbour_leads n i k j h).2 in grind (arith, nat_tests, l.2.0)

-- Two cells are next to each other, whichever is named first.
pub next_symmetric : (n i j : ℕ) → next_to n i j ≡ true → next_to n j i ≡ true
next_symmetric n i j h = grind (arith, nat_tests)

pub next_mutual : (n i j : ℕ) → next_to n i j ≡ next_to n j i
next_mutual n i j =
    same_from_decides {P = next_to n j i ≡ true} (next_to n i j) (next_to n j i)
    (next_symmetric n i j, next_symmetric n j i) ((λ h. h), (λ h. h))

pub beside_symmetric : {n i j : ℕ} → Beside n i j → Beside n j i
beside_symmetric {n} {i} {j} b = record { from = b.inside; inside = b.from; near = next_symmetric n i j b.near }

-- No cell is next to itself.
pub next_apart : (n i : ℕ) → next_to n i i ≡ false
next_apart n i = grind (arith, nat_tests)

-- No two of the six steps are one,
step_once : (k m : ℕ) (down right : ℤ) → step_to k ≡ Some (down, right) → step_to m ≡ Some (down, right) → k ≡ m
step_once k m down right h g = grind (arith, nat_tests, ints)

-- so no two of the six neighbours of a cell are.
pub neighbour_once : (n i j k m : ℕ) → neighbour_of n i k ≡ Some j → neighbour_of n i m ≡ Some j → k ≡ m
neighbour_once n i j k m h g = leads_once (neighbour_leads n i k j h).2 (neighbour_leads n i m j g).2
  where
    leads_once : Leads k (i / n) (i % n) (j / n) (j % n) → Leads m (i / n) (i % n) (j / n) (j % n) → k ≡ m
    leads_once (down, right, (s, p, q)) (down', right', (t, u, v)) =
        let d : down ≡ down' = omega (arith, ints) in
        let e : right ≡ right' = omega (arith, ints) in
        let f : step_to k ≡ Some (down', right') = cc in
        step_once k m down' right' f t

-- The bits of the borders that a cell touches: there are two, the first tells whether it is at the first border, the second whether
-- it is at the last.
pub touch_few : (n s i : ℕ) → touch n s i < 4
unfolding touch
touch_few n s i = grind (arith, nat_tests)

pub touch_first : (n s i : ℕ) → Decides (begins n s i) (touch n s i % 2 ≡ 1)
unfolding touch
touch_first n s i = grind (arith, nat_tests)

pub touch_last : (n s i : ℕ) → Decides (ends n s i) (touch n s i / 2 ≡ 1)
unfolding touch
touch_last n s i = grind (arith, nat_tests)
