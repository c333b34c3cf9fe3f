-- Rows of cells that lead from a first one to a last one, whatever is next to what: taken apart, put together, and carried to other cells.
use Rattle.std.proofs.Common.{◌≡◌, ℕ, Bool, true, ◌&&◌, List, [], ◌∷◌, map}
use Rattle.std.proofs.lemmas.Bool.{and_parts, and_from}
use Rattle.hexboard.specs.Shapes.{leads_on, leads}

-- what a row of cells goes by: which are next to each other, which are one's own, which are first and which last
pub record Track : Type 0 where
  pub next : ℕ → ℕ → Bool
  pub own : ℕ → Bool
  pub first : ℕ → Bool
  pub last : ℕ → Bool

-- cells lead on from one, and a row of them leads all the way
abbrev pub LeadsOn : Track → ℕ → List ℕ → Type 0
LeadsOn k i js = leads_on k.next k.own k.last i js ≡ true

abbrev pub Leads : Track → List ℕ → Type 0
Leads k is = leads k.next k.own k.first k.last is ≡ true

-- there is a row that does
abbrev pub IsLed : Track → Type 0
IsLed k = (is : List ℕ) × Leads k is

-- Two tests and the rest, all together.
three : (a b c : Bool) → ((a && b) && c) ≡ true → (a ≡ true) × (b ≡ true) × (c ≡ true)
three a b c e = let p = and_parts (a && b) c e in let q = and_parts a b p.0 in (q.0, q.1, p.1)

from_three : (a b c : Bool) → a ≡ true → b ≡ true → c ≡ true → ((a && b) && c) ≡ true
from_three a b c x y z = and_from (a && b) c (and_from a b x y) z

module _ (k : Track) where
  -- What leads on has its next cell beside the last.
  pub on_parts : (i j : ℕ) (js : List ℕ) → LeadsOn k i (j ∷ js) → (k.next i j ≡ true) × (k.own j ≡ true) × LeadsOn k j js
  unfolding leads_on
  on_parts i j js e = three (k.next i j) (k.own j) (leads_on k.next k.own k.last j js) e

  -- And with such a cell it leads on.
  pub on_from : (i j : ℕ) (js : List ℕ) → k.next i j ≡ true → k.own j ≡ true → LeadsOn k j js → LeadsOn k i (j ∷ js)
  unfolding leads_on
  on_from i j js n o e = from_three (k.next i j) (k.own j) (leads_on k.next k.own k.last j js) n o e

  -- A row begins with a first cell of one's own.
  pub row_parts : (i : ℕ) (is : List ℕ) → Leads k (i ∷ is) → (k.first i ≡ true) × (k.own i ≡ true) × LeadsOn k i is
  unfolding leads
  row_parts i is e = three (k.first i) (k.own i) (leads_on k.next k.own k.last i is) e

  -- And with such a cell it is one.
  pub row_from : (i : ℕ) (is : List ℕ) → k.first i ≡ true → k.own i ≡ true → LeadsOn k i is → Leads k (i ∷ is)
  unfolding leads
  row_from i is f o e = from_three (k.first i) (k.own i) (leads_on k.next k.own k.last i is) f o e

-- f takes cells of one's own to cells of one's own, so that what is next stays next, and first and last cells stay so
pub record Carries (k m : Track) (f : ℕ → ℕ) : Type 0 where
  pub own : (i : ℕ) → k.own i ≡ true → m.own (f i) ≡ true
  pub next : (i j : ℕ) → k.own i ≡ true → k.own j ≡ true → k.next i j ≡ true → m.next (f i) (f j) ≡ true
  pub first : (i : ℕ) → k.own i ≡ true → k.first i ≡ true → m.first (f i) ≡ true
  pub last : (i : ℕ) → k.own i ≡ true → k.last i ≡ true → m.last (f i) ≡ true

module _ {k m : Track} {f : ℕ → ℕ} (over : Carries k m f) where
  -- What leads on from cell i leads on from where i was taken.
  carried_on : (i : ℕ) (js : List ℕ) → k.own i ≡ true → LeadsOn k i js → LeadsOn m (f i) (map f js)
  unfolding leads_on
  carried_on i [] o e = over.last i o e
  carried_on i (j ∷ js) o e =
      let p = on_parts k i j js e in
      on_from m (f i) (f j) (map f js) (over.next i j o p.1 p.0) (over.own j p.1) (carried_on j js p.1 p.2)

  -- So does the whole row.
  pub carried_row : (is : List ℕ) → Leads k is → Leads m (map f is)
  unfolding leads
  carried_row [] e = e
  carried_row (i ∷ is) e =
      let p = row_parts k i is e in
      row_from m (f i) (map f is) (over.first i p.1 p.0) (over.own i p.1) (carried_on i is p.1 p.2)

  pub carried : IsLed k → IsLed m
  carried w = (map f w.0, carried_row w.0 w.1)
