-- What a search says of every way: where it has looked round all places up to a depth, a way that is no longer has met the first border.
use Rattle.std.proofs.Common.{◌≡◌, ℕ, ◌+◌, ◌<◌, ◌≤◌, true, ◌&&◌, List, [], ◌∷◌, length, get_or, ap, subst, ⊎_elim, arith}
use Rattle.std.proofs.lemmas.Bool.{and_parts, cases_lt, false≢true}
use Rattle.paths.specs.Ways.{Ground, leads, crosses}
use Rattle.paths.specs.Search.{Reached, Spread, Front, Ahead}

-- Nearness goes both ways.
abbrev pub Mutual : Ground → Type 0
Mutual g = (i j : ℕ) → g.near i j ≡ true → g.near j i ≡ true

-- The search has come to place h of the queue, and what stands from there on is as deep as the bound or deeper.
module _ {g : Ground} {queue from : List ℕ} {h t : ℕ} {depth : ℕ → ℕ} (bound : ℕ) (both : Mutual g) (front : Front g queue from h t depth)
    (late : (p : ℕ) → h ≤ p → p < t → bound ≤ depth (get_or queue p 0)) where
  -- A place that is less deep stands before h.
  spread_below : (y : ℕ) → Reached from y → depth y < bound → Spread g from depth y
  spread_below y r low =
      let (p, l, e) = front.tree.placed y r in
      ⊎_elim
      (λ before. subst (Spread g from depth) e (front.done p before))
      (λ after. absurd (let b = late p after l in omega (arith, ap depth e)))
      (cases_lt p h)

  -- Places that lead to the last border are reached, and are no deeper than they are many.
  follows : (i : ℕ) (js : List ℕ) → g.own i ≡ true → leads g i js ≡ true → length js ≤ bound → Reached from i × (depth i ≤ length js)
  unfolding leads
  follows i [] own on short = let (r, d) = front.sources i own on in (r, omega arith)
  follows i (j ∷ js) own on short =
      let (here, later) = and_parts (g.near i j && g.own j) (leads g j js) on in
      let (near, mine) = and_parts (g.near i j) (g.own j) here in
      let (r, d) = follows j js mine later (omega arith) in
      let (s, e) = spread_below j r (omega arith) i (both i j near) own in
      (s, omega arith)

  -- No way is as short as the bound and one step more.
  pub beyond : (w : List ℕ) → crosses g w ≡ true → bound + 1 < length w
  unfolding crosses
  beyond [] way = absurd (false≢true way)
  beyond (i ∷ is) way =
      let (here, on) = and_parts (g.first i && g.own i) (leads g i is) way in
      let (first, own) = and_parts (g.first i) (g.own i) here in
      ⊎_elim
      (λ long. omega arith)
      (λ short. absurd (front.unmet i (follows i is own on short).0 first))
      (cases_lt bound (length is))

-- Once all listed places are looked round, there is no way.
pub no_way : {g : Ground} {queue from : List ℕ} {h t : ℕ} → Mutual g → Ahead g queue from h t → t ≤ h → (w : List ℕ) → crosses g w ≡ true → ⊥
no_way both (depth, front) all w way =
    let b = beyond (length w) both front (λ p h k. absurd (omega arith)) w way in
    omega arith
