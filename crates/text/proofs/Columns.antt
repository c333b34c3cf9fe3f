-- Where the cells of a row stand in its line.
use Rattle.std.proofs.Common.{◌≡◌, ℕ, zero, suc, ◌+◌, ◌-◌, ◌*◌, ◌<◌, Bool, true, false, eqb, List, [], ◌++◌, length, get_or, codes, refl, ap, ◌∙◌, subst, ⊎_elim, arith, if◌then◌else◌}
use Rattle.std.proofs.lemmas.List.{get_or-append-add, get_or_append_left, length-append}
use Rattle.std.proofs.lemmas.Bool.Decides.{nat_tests}
use Rattle.std.proofs.str.Laws.{order}
use Rattle.text.specs.Boards.{mark, among, each, gap, cell_shown, row_cells, spaces, row_line, RowsLaidOut}

-- the k-th byte of the last part
last_part : (f : ℕ → List ℕ) (n k : ℕ) → k < length (f n) →
    (length (each n f) + k < length (each (suc n) f)) × (get_or (each (suc n) f) (length (each n f) + k) 0 ≡ get_or (f n) k 0)
last_part f n k h = (omega (arith, length-append (each n f) (f n)), get_or-append-add (each n f) (f n) k 0)

-- the k-th byte of a part stands k behind the parts before it
part_at : (f : ℕ → List ℕ) (n c k : ℕ) → c < n → k < length (f c) →
    (length (each c f) + k < length (each n f)) × (get_or (each n f) (length (each c f) + k) 0 ≡ get_or (f c) k 0)
part_at f zero c k h l = absurd (omega arith)
part_at f (suc n) c k h l =
    ⊎_elim
    (λ less.
    let found = part_at f n c k less l in
    (omega (arith, length-append (each n f) (f n), found.0), get_or_append_left (each n f) (f n) 0 _ found.0 ∙ found.1))
    (λ more.
    let same : n ≡ c = omega arith in
    subst
    (λ m. k < length (f m) → (length (each m f) + k < length (each (suc n) f)) × (get_or (each (suc n) f) (length (each m f) + k) 0 ≡ get_or (f m) k 0))
    same (last_part f n k) l)
    (order c n)

spaces_long : (r : ℕ) → length (spaces r) ≡ r
spaces_long zero = refl
spaces_long (suc r) = omega (arith, length-append (spaces r) (codes " "), spaces_long r)

mark_long : (stone : ℕ) (marked : Bool) → length (mark stone marked) ≡ 1
mark_long stone marked = by_case (eqb stone 1) (eqb stone 2) marked
  where
    by_case : (one two m : Bool) → length (if one then (if m then codes "A" else codes "1") else if two then (if m then codes "B" else codes "2") else codes ".") ≡ 1
    by_case true two true = refl
    by_case true two false = refl
    by_case false true true = refl
    by_case false true false = refl
    by_case false false m = refl

later_gap : (c : ℕ) → 0 < c → gap c ≡ codes " "
later_gap c h = let not_first : eqb c 0 ≡ false = grind (arith, nat_tests) in ap (λ b. if b then [] else codes " ") not_first

gap_long : (c : ℕ) → 0 < c → length (gap c) ≡ 1
gap_long c h = ap length (later_gap c h)

module _ (n : ℕ) (cells way : List ℕ) (r : ℕ) where
  -- the mark of the cell in column c
  abbrev mark_of : ℕ → List ℕ
  mark_of c = mark (get_or cells (r * n + c) 0) (among way (r * n + c))

  shown_long : (c : ℕ) → length (cell_shown n cells way r c) ≡ length (gap c) + 1
  shown_long c = length-append (gap c) (mark_of c) ∙ ap (λ k. length (gap c) + k) (mark_long (get_or cells (r * n + c) 0) (among way (r * n + c)))

  -- two characters for each cell before this one
  cells_before : (c : ℕ) → length (each c (cell_shown n cells way r)) + length (gap c) ≡ 2 * c
  cells_before zero = refl
  cells_before (suc c) =
      omega (arith, length-append (each c (cell_shown n cells way r)) (cell_shown n cells way r c), shown_long c, cells_before c, gap_long (suc c) (omega arith))

  row_long : 0 < n → length (row_line n cells way r) ≡ r + 2 * n
  row_long some =
      let all = row_cells n cells way r in
      omega
      (arith, length-append (spaces r) (all ++ codes "\n"), length-append all (codes "\n"), spaces_long r, cells_before n, gap_long n some)

  cell_at : (c : ℕ) → c < n → get_or (row_line n cells way r) (r + 2 * c) 0 ≡ get_or (mark_of c) 0 0
  cell_at c h =
      let all = row_cells n cells way r in
      let before = length (each c (cell_shown n cells way r)) + (length (gap c) + 0) in
      let found = part_at (cell_shown n cells way r) n c (length (gap c) + 0) h (omega (arith, shown_long c)) in
      let place : r + 2 * c ≡ length (spaces r) + before = omega (arith, spaces_long r, cells_before c) in
      ap (λ k. get_or (row_line n cells way r) k 0) place ∙
      (get_or-append-add (spaces r) (all ++ codes "\n") before 0 ∙
      (get_or_append_left all (codes "\n") 0 before found.0 ∙ (found.1 ∙ get_or-append-add (gap c) (mark_of c) 0 0)))

  -- The space before a cell stands just behind the cell before it,
  space_at : (c : ℕ) → c + 1 < n → get_or (row_line n cells way r) (r + 2 * c + 1) 0 ≡ 32
  space_at c h =
      let all = row_cells n cells way r in
      let before = length (each (suc c) (cell_shown n cells way r)) + 0 in
      let found = part_at (cell_shown n cells way r) n (suc c) 0 (omega arith) (omega (arith, shown_long (suc c))) in
      let place : r + 2 * c + 1 ≡ length (spaces r) + before = omega (arith, spaces_long r, cells_before (suc c), gap_long (suc c) (omega arith)) in
      ap (λ k. get_or (row_line n cells way r) k 0) place ∙
      (get_or-append-add (spaces r) (all ++ codes "\n") before 0 ∙ (get_or_append_left all (codes "\n") 0 before found.0 ∙ (found.1 ∙ ap (λ (xs : List ℕ). get_or (xs ++ mark_of (suc c)) 0 0) (later_gap (suc c) (omega arith)))))

  -- and the line's end just behind the last.
  end_at : 0 < n → get_or (row_line n cells way r) (r + 2 * n - 1) 0 ≡ 10
  end_at some =
      let all = row_cells n cells way r in
      let place : r + 2 * n - 1 ≡ length (spaces r) + (length all + 0) = omega (arith, spaces_long r, cells_before n, gap_long n some) in
      ap (λ k. get_or (row_line n cells way r) k 0) place ∙
      (get_or-append-add (spaces r) (all ++ codes "\n") (length all + 0) 0 ∙ get_or-append-add all (codes "\n") 0 0)

  -- Before the first cell stand spaces.
  indent_at : (k : ℕ) → k < r → get_or (row_line n cells way r) k 0 ≡ 32
  indent_at k h =
      let found = part_at (λ _. codes " ") r k 0 h (omega arith) in
      let place : k ≡ length (spaces k) + 0 = omega (arith, spaces_long k) in
      ap (λ j. get_or (row_line n cells way r) j 0) place ∙
      (get_or_append_left (spaces r) (row_cells n cells way r ++ codes "\n") 0 (length (spaces k) + 0) found.0 ∙ found.1)

pub rows_laid_out : RowsLaidOut
rows_laid_out n cells way r some = record {
  long = row_long n cells way r some;
  places = cell_at n cells way r;
  indent = indent_at n cells way r;
  between = space_at n cells way r;
  last = end_at n cells way r some;
}
