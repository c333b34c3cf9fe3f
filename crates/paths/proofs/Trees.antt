-- The places that a search has reached: none at first, and then one more and one more.
use Rattle.std.proofs.Common.{◌≡◌, ℕ, zero, suc, ◌+◌, ◌-◌, ◌<◌, ◌≤◌, true, cond, eqb, ◌⊎◌, List, length, get_or, set, replicate, count_by, sym, ap, ◌∙◌, subst, inl, inr, ⊎_elim, arith, length-set}
use Rattle.std.proofs.lemmas.List.{get_or-set_same, get_or-set_other, length-replicate}
use Rattle.std.proofs.lemmas.List.Folds.{sum_by-replicate}
use Rattle.std.proofs.lemmas.List.Sums.{sum_by-set, get_or-le-sum_by}
use Rattle.std.proofs.lemmas.Bool.{cases_eq}
use Rattle.std.proofs.lemmas.Bool.Decides.{nat_tests}
use Rattle.paths.specs.Ways.{Ground}
use Rattle.paths.specs.Search.{Reached, parent, Child, Tree}

-- the weight of a place in the count of those that are not reached
abbrev free : ℕ → ℕ
free v = cond (eqb 0 v) 1 0

-- Of places that are all 0 none is reached.
pub none_reached : (n x : ℕ) → Reached (replicate n 0) x → ⊥
none_reached zero x h = omega arith
none_reached (suc n) zero h = omega arith
none_reached (suc n) (suc x) h = none_reached n x h

pub tree_none : (g : Ground) (queue : List ℕ) (n : ℕ) (depth : ℕ → ℕ) → length queue ≡ n → ((x : ℕ) → g.own x ≡ true → x < n)
    → Tree g queue (replicate n 0) 0 depth
tree_none g queue n depth whole inside = record {
  whole = let r = length-replicate {A = ℕ} n 0 in omega arith;
  inside = λ x own. let r = length-replicate {A = ℕ} n 0 in let i = inside x own in omega arith;
  count = omega (arith, sum_by-replicate free n 0, length-replicate {A = ℕ} n 0);
  listed = λ p h. absurd (omega arith);
  placed = λ x h. absurd (none_reached n x h);
  own = λ x h. absurd (none_reached n x h);
  hangs = λ x h. absurd (none_reached n x h);
  shallow = λ p h. absurd (omega arith);
  sorted = λ p q h k. absurd (omega arith);
}

-- A place that is not reached has its place in the count, so there is room in a queue as long as `from`.
room : {g : Ground} {queue from : List ℕ} {t : ℕ} {depth : ℕ → ℕ} (x : ℕ) → Tree g queue from t depth → g.own x ≡ true
    → (Reached from x → ⊥) → t < length from
room {from = from} x tree own new =
    let inside = tree.inside x own in
    let z : get_or from x 0 ≡ 0 = omega (arith, new) in
    let one : 1 ≤ count_by (eqb 0) from = subst (λ v. free v ≤ count_by (eqb 0) from) z (get_or-le-sum_by free from x 0 inside) in
    omega (arith, tree.count)

-- Place x is listed after t others, as reached from y: what is known of the queue and of `from` then.
record Added (queue from : List ℕ) (t x y : ℕ) (queue' from' : List ℕ) : Type 0 where
  same : (z : ℕ) → Reached from z → get_or from' z 0 ≡ get_or from z 0
  there : get_or from' x 0 ≡ y + 1
  only : (z : ℕ) → Reached from' z → (z ≡ x) ⊎ Reached from z
  before : (p : ℕ) → p < t → get_or queue' p 0 ≡ get_or queue p 0
  end : get_or queue' t 0 ≡ x

added : (queue from : List ℕ) (t x y : ℕ) → t < length queue → x < length from → (Reached from x → ⊥)
    → Added queue from t x y (set queue t x) (set from x (y + 1))
added queue from t x y room inside new = record {
  same = λ z h. get_or-set_other from x z (y + 1) 0 (λ e. new (subst (Reached from) e h));
  there = get_or-set_same from x (y + 1) 0 inside;
  only = λ z h. ⊎_elim inl (λ n. inr (subst (λ v. 0 < v) (get_or-set_other from x z (y + 1) 0 n) h)) (cases_eq z x);
  before = λ p h. get_or-set_other queue t p x 0 (omega arith);
  end = get_or-set_same queue t x 0 room;
}

-- what place x comes to when it is listed: it is one's own, at the last border or a step deeper than y, and no less deep than those before
pub record Comes (g : Ground) (queue from : List ℕ) (t x y : ℕ) (depth depth' : ℕ → ℕ) : Type 0 where
  pub own : g.own x ≡ true
  pub new : Reached from x → ⊥
  pub same : (z : ℕ) → Reached from z → depth' z ≡ depth z
  pub hangs : (g.last x ≡ true) ⊎ (Reached from y × (g.near y x ≡ true) × (depth' x ≡ depth y + 1))
  pub shallow : depth' x ≤ t
  pub deepest : (p : ℕ) → p < t → depth (get_or queue p 0) ≤ depth' x

module _ {g : Ground} {queue from : List ℕ} {t x y : ℕ} {depth depth' : ℕ → ℕ} (tree : Tree g queue from t depth)
    (comes : Comes g queue from t x y depth depth') where
  now : Added queue from t x y (set queue t x) (set from x (y + 1))
  now =
      let r = room x tree comes.own comes.new in
      added queue from t x y (omega (arith, tree.whole)) (tree.inside x comes.own) comes.new

  -- What was reached still is, from where it was,
  pub stays : (z : ℕ) → Reached from z → Reached (set from x (y + 1)) z
  stays z h = subst (λ v. 0 < v) (sym (now.same z h)) h

  -- and so is the new place.
  pub reaches : Reached (set from x (y + 1)) x
  reaches = omega (arith, now.there)

  -- What holds of the places that were reached and of the new one holds of all.
  pub each_reached : (P : ℕ → Type 0) → ((z : ℕ) → Reached from z → P z) → P x → (z : ℕ) → Reached (set from x (y + 1)) z → P z
  each_reached P old new z h = ⊎_elim (λ e. subst P (sym e) new) (old z) (now.only z h)

  pub each_listed : (P : ℕ → ℕ → Type 0) → ((p : ℕ) → p < t → P p (get_or queue p 0)) → P t x → (p : ℕ) → p < t + 1 → P p (get_or (set queue t x) p 0)
  each_listed P old new p h =
      ⊎_elim
      (λ e. subst (λ q. P q (get_or (set queue t x) q 0)) (sym e) (subst (P t) (sym now.end) new))
      (λ n. let l : p < t = omega arith in subst (P p) (sym (now.before p l)) (old p l))
      (cases_eq p t)

  -- The depth of what was listed is what it was.
  listed_depth : (p : ℕ) → p < t → depth' (get_or queue p 0) ≡ depth (get_or queue p 0)
  listed_depth p h = comes.same (get_or queue p 0) (tree.listed p h)

  new_child : Reached from y × (g.near y x ≡ true) × (depth' x ≡ depth y + 1) → Child g (set from x (y + 1)) depth' x
  new_child (r, near, deeper) =
      let e : y ≡ parent (set from x (y + 1)) x = omega (arith, now.there) in
      record {
        reached = subst (Reached (set from x (y + 1))) e (stays y r);
        near = subst (λ z. g.near z x ≡ true) e near;
        deeper = subst (λ z. depth' x ≡ depth' z + 1) e (deeper ∙ ap (λ d. d + 1) (sym (comes.same y r)));
      }

  old_child : (z : ℕ) → Reached from z → Child g from depth z → Child g (set from x (y + 1)) depth' z
  old_child z h child =
      let e : parent from z ≡ parent (set from x (y + 1)) z = ap (λ v. v - 1) (sym (now.same z h)) in
      record {
        reached = subst (Reached (set from x (y + 1))) e (stays (parent from z) child.reached);
        near = subst (λ y. g.near y z ≡ true) e child.near;
        deeper =
            subst (λ y. depth' z ≡ depth' y + 1) e
            (comes.same z h ∙ child.deeper ∙ ap (λ d. d + 1) (sym (comes.same (parent from z) child.reached)));
      }

  fewer_free : t + 1 + count_by (eqb 0) (set from x (y + 1)) ≡ length (set from x (y + 1))
  fewer_free =
      let z : get_or from x 0 ≡ 0 = omega (arith, comes.new) in
      let e = sum_by-set free from x (y + 1) 0 (tree.inside x comes.own) in
      let one : free (get_or from x 0) ≡ 1 = ap free z in
      let gone : free (y + 1) ≡ 0 = grind (arith, nat_tests) in
      omega (arith, tree.count, length-set from x (y + 1))

  in_order : (p q : ℕ) → p ≤ q → q < t + 1 → depth' (get_or (set queue t x) p 0) ≤ depth' (get_or (set queue t x) q 0)
  in_order p q h k =
      each_listed (λ q z. (p : ℕ) → p ≤ q → p < t + 1 → depth' (get_or (set queue t x) p 0) ≤ depth' z)
      (λ q l p h k. let a = now.before p (omega arith) in let b = listed_depth p (omega arith) in let c = listed_depth q l in let s = tree.sorted p q h l in omega (arith, ap depth' a))
      (λ p h k. each_listed (λ p z. depth' z ≤ depth' x) (λ p l. let b = listed_depth p l in let d = comes.deepest p l in omega arith) (omega arith) p k)
      q k p h (omega arith)

  -- With one place more the tree stands.
  pub tree_more : Tree g (set queue t x) (set from x (y + 1)) (t + 1) depth'
  tree_more = record {
    whole = length-set queue t x ∙ tree.whole ∙ sym (length-set from x (y + 1));
    inside = λ z own. let i = tree.inside z own in omega (arith, length-set from x (y + 1));
    count = fewer_free;
    listed = each_listed (λ p z. Reached (set from x (y + 1)) z) (λ p h. stays (get_or queue p 0) (tree.listed p h)) reaches;
    placed =
        each_reached (λ z. (p : ℕ) × (p < t + 1) × (get_or (set queue t x) p 0 ≡ z))
        (λ z h. let (p, l, e) = tree.placed z h in (p, omega arith, now.before p l ∙ e))
        (t, omega arith, now.end);
    own = each_reached (λ z. g.own z ≡ true) tree.own comes.own;
    hangs =
        each_reached (λ z. (g.last z ≡ true) ⊎ Child g (set from x (y + 1)) depth' z)
        (λ z h. ⊎_elim inl (λ c. inr (old_child z h c)) (tree.hangs z h))
        (⊎_elim inl (λ c. inr (new_child c)) comes.hangs);
    shallow =
        each_listed (λ p z. depth' z ≤ p)
        (λ p h. let e = listed_depth p h in let s = tree.shallow p h in omega arith)
        comes.shallow;
    sorted = in_order;
  }
