-- One step of the search: it looks round a place, neighbour by neighbour, and lists those of one's own that are not reached yet.
use Rattle.std.proofs.Common.{◌≡◌, ℕ, ◌+◌, ◌<◌, ◌≤◌, true, false, cond, ◌&&◌, eqb, List, get_or, set, Some, None, Option, sym, refl, ap, ◌∙◌, subst, inr, ⊎_elim, arith, below_more}
use Rattle.std.proofs.lemmas.List.{get_or-set_other}
use Rattle.std.proofs.lemmas.Bool.{eq-eqb, ne_eqb, eqb-true, eqb-false, cond-true, cond-false, and_parts, and_cases, both_ways}
use Rattle.std.proofs.lemmas.Option.{none-some, same_Some}
use Rattle.paths.specs.Ways.{Ground}
use Rattle.paths.specs.Search.{Reached, Tree, Spread, Front, Ahead, Met}
use Rattle.paths.proofs.Trees.{Comes, stays, reaches, each_reached, each_listed, tree_more}
use Rattle.paths.proofs.Crossings.{Mutual, beyond}

-- the depths with place x at depth d
abbrev deepen : (ℕ → ℕ) → ℕ → ℕ → ℕ → ℕ
deepen depth x d z = cond (eqb z x) d (depth z)

-- each of one's own among the first k neighbours of y is reached, at most one step deeper than y
abbrev pub Looked : Ground → List ℕ → (ℕ → ℕ) → ℕ → (ℕ → Option ℕ) → ℕ → Type 0
Looked g from depth y next k =
    (m : ℕ) → m < k → (x : ℕ) → next m ≡ Some x → g.own x ≡ true → Reached from x × (depth x ≤ depth y + 1)

-- The search looks round place y, at h of the queue, and has come to its k-th neighbour.
pub record Looking (g : Ground) (queue from : List ℕ) (h t y : ℕ) (next : ℕ → Option ℕ) (k : ℕ) : Type 0 where
  pub depth : ℕ → ℕ
  pub front : Front g queue from h t depth
  pub inside : h < t
  pub here : get_or queue h 0 ≡ y
  pub looked : Looked g from depth y next k

pub look : (g : Ground) (queue from : List ℕ) (h t y : ℕ) (next : ℕ → Option ℕ) → Ahead g queue from h t → h < t → get_or queue h 0 ≡ y
    → Looking g queue from h t y next 0
look g queue from h t y next (depth, front) inside here =
    record { depth = depth; front = front; inside = inside; here = here; looked = λ m l x e o. absurd (omega arith) }

module _ {g : Ground} {queue from : List ℕ} {h t y : ℕ} {next : ℕ → Option ℕ} {k : ℕ} (l : Looking g queue from h t y next k) where
  -- One more neighbour is looked at if, being one's own, it is reached and no deeper than one step.
  passed : ((x : ℕ) → next k ≡ Some x → g.own x ≡ true → Reached from x × (l.depth x ≤ l.depth y + 1)) → Looking g queue from h t y next (k + 1)
  passed more = record {
    depth = l.depth;
    front = l.front;
    inside = l.inside;
    here = l.here;
    looked = below_more (λ m. (x : ℕ) → next m ≡ Some x → g.own x ≡ true → Reached from x × (l.depth x ≤ l.depth y + 1)) k l.looked more;
  }

  -- One that is not one's own needs no more,
  look_past_other : (x : ℕ) → next k ≡ Some x → g.own x ≡ false → Looking g queue from h t y next (k + 1)
  look_past_other x e other =
      passed (λ z f o. absurd (let s : x ≡ z = same_Some _ _ (sym e ∙ f) in both_ways (g.own x) other (subst (λ z. g.own z ≡ true) (sym s) o)))

  -- nor does one that is reached already.
  look_past_reached : (x : ℕ) → next k ≡ Some x → Reached from x → Looking g queue from h t y next (k + 1)
  look_past_reached x e r =
      passed
      (λ z f o. let s : x ≡ z = same_Some _ _ (sym e ∙ f) in
      let (p, b, q) = l.front.tree.placed x r in
      let d = l.front.level l.inside p b in
      (subst (Reached from) s r, omega (arith, ap l.depth s, ap l.depth q, ap l.depth l.here)))

  -- So a neighbour that is not to be listed is passed over.
  pub look_past : (x : ℕ) → next k ≡ Some x → (g.own x && eqb (get_or from x 0) 0) ≡ false → Looking g queue from h t y next (k + 1)
  look_past x e test =
      ⊎_elim (look_past_other x e)
      (λ held. look_past_reached x e (let n = eqb-false (get_or from x 0) 0 held in omega arith))
      (and_cases (g.own x) (eqb (get_or from x 0) 0) test)

  pub look_own : g.own y ≡ true
  look_own = l.front.tree.own y (subst (Reached from) l.here (l.front.tree.listed h l.inside))

  -- Once all neighbours of y are looked at, the search goes on to the next place.
  pub look_on : ((x : ℕ) → g.near y x ≡ true → g.own x ≡ true → (m : ℕ) × (m < k) × (next m ≡ Some x)) → Ahead g queue from (h + 1) t
  look_on all = (
    l.depth,
    record {
      tree = l.front.tree;
      unmet = l.front.unmet;
      sources = l.front.sources;
      level = λ more p b. let a = l.front.level l.inside p b in let s = l.front.tree.sorted h (h + 1) (omega arith) more in omega arith;
      done =
          below_more (λ p. Spread g from l.depth (get_or queue p 0)) h l.front.done
          (subst (Spread g from l.depth) (sym l.here) (λ x near own. let (m, b, e) = all x near own in l.looked m b x e own));
    },
  )

-- Where the board ends there is no neighbour to look at.
pub look_end : {g : Ground} {queue from : List ℕ} {h t y : ℕ} {next : ℕ → Option ℕ} (k : ℕ) → next k ≡ None → Looking g queue from h t y next k
    → Looking g queue from h t y next (k + 1)
look_end k none l = passed l (λ x e o. absurd (none-some _ (sym none ∙ e)))

-- Place x, near y, is one's own and not reached yet.
module _ {g : Ground} {queue from : List ℕ} {h t y : ℕ} {next : ℕ → Option ℕ} {k x : ℕ} (l : Looking g queue from h t y next k)
    (near : g.near y x ≡ true) (test : (g.own x && eqb (get_or from x 0) 0) ≡ true) where
  look_mine : g.own x ≡ true
  look_mine = (and_parts (g.own x) (eqb (get_or from x 0) 0) test).0

  new : Reached from x → ⊥
  new r = let e = eqb-true (get_or from x 0) 0 (and_parts (g.own x) (eqb (get_or from x 0) 0) test).1 in omega arith

  depth' : ℕ → ℕ
  depth' = deepen l.depth x (l.depth y + 1)

  -- What was reached keeps its depth, and x is one step deeper than y.
  same_depth : (z : ℕ) → Reached from z → depth' z ≡ l.depth z
  unfolding depth'
  same_depth z r =
      cond-false (eqb z x) (l.depth y + 1) (l.depth z) (ne_eqb z x (λ e. new (subst (Reached from) e r)))

  new_depth : depth' x ≡ l.depth y + 1
  unfolding depth'
  new_depth = cond-true (eqb x x) (l.depth y + 1) (l.depth x) (eq-eqb x x refl)

  y_reached : Reached from y
  y_reached = subst (Reached from) l.here (l.front.tree.listed h l.inside)

  comes : Comes g queue from t x y l.depth depth'
  comes = record {
    own = look_mine;
    new = new;
    same = same_depth;
    hangs = inr (y_reached, near, new_depth);
    shallow =
        let s = l.front.tree.shallow h l.inside in let i = l.inside in omega (arith, new_depth, ap l.depth l.here);
    deepest = λ p b. let d = l.front.level l.inside p b in omega (arith, new_depth, ap l.depth l.here);
  }

  tree : Tree g (set queue t x) (set from x (y + 1)) (t + 1) depth'
  tree = tree_more l.front.tree comes

  still : (z : ℕ) → Reached from z → Reached (set from x (y + 1)) z
  still = stays l.front.tree comes

  arrived : Reached (set from x (y + 1)) x
  arrived = reaches l.front.tree comes

  -- What was reached at most one step deeper than a place still is.
  still_near : (a z : ℕ) → Reached from a → Reached from z × (l.depth z ≤ l.depth a + 1)
      → Reached (set from x (y + 1)) z × (depth' z ≤ depth' a + 1)
  still_near a z r (s, d) = let e = same_depth a r in let f = same_depth z s in (still z s, omega arith)

  still_there : (p : ℕ) → p < t → get_or (set queue t x) p 0 ≡ get_or queue p 0
  still_there p b = get_or-set_other queue t p x 0 (omega arith)

  -- A place at the first border ends the search: no way is shorter than that from here.
  pub look_met : Mutual g → g.first x ≡ true → Met g (set queue t x) (set from x (y + 1)) x
  look_met both first = record {
    t = t + 1;
    depth = depth';
    tree = tree;
    reached = arrived;
    first = first;
    least = λ w way.
        let b = beyond (l.depth y) both l.front
        (λ p late b. let s = l.front.tree.sorted h p late b in omega (arith, ap l.depth l.here)) w way
        in
        omega (arith, new_depth);
  }

  -- Any other is listed, and the search looks at the next neighbour.
  pub look_more : next k ≡ Some x → g.first x ≡ false → Looking g (set queue t x) (set from x (y + 1)) h (t + 1) y next (k + 1)
  look_more e inner = record {
    depth = depth';
    front = record {
      tree = tree;
      unmet = each_reached l.front.tree comes (λ z. g.first z ≡ true → ⊥) l.front.unmet (both_ways (g.first x) inner);
      sources = λ z o b. let (r, d) = l.front.sources z o b in (still z r, same_depth z r ∙ d);
      level = λ more. each_listed l.front.tree comes
          (λ p z. depth' z ≤ depth' (get_or (set queue t x) h 0) + 1)
          (λ p b.
          let d = l.front.level l.inside p b in
          let a = same_depth (get_or queue p 0) (l.front.tree.listed p b) in
          omega (arith, h_depth, ap l.depth l.here))
          (omega (arith, h_depth, new_depth));
      done = λ p b.
          let r = l.front.tree.listed p (let i = l.inside in omega arith) in
          subst (Spread g (set from x (y + 1)) depth') (sym (still_there p (let i = l.inside in omega arith)))
          (λ z near own. still_near (get_or queue p 0) z r (l.front.done p b z near own));
    };
    inside = let i = l.inside in omega arith;
    here = still_there h l.inside ∙ l.here;
    looked =
        below_more (λ m. (z : ℕ) → next m ≡ Some z → g.own z ≡ true → Reached (set from x (y + 1)) z × (depth' z ≤ depth' y + 1)) k
        (λ m b z f o. still_near y z y_reached (l.looked m b z f o))
        (λ z f o.
        let s : x ≡ z = same_Some _ _ (sym e ∙ f) in
        subst (λ z. Reached (set from x (y + 1)) z × (depth' z ≤ depth' y + 1)) s
        (arrived, let d = same_depth y y_reached in omega (arith, new_depth)));
  }
    where
      h_depth : depth' (get_or (set queue t x) h 0) ≡ l.depth y
      h_depth = ap depth' (still_there h l.inside ∙ l.here) ∙ same_depth y y_reached
