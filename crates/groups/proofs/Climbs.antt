-- Climbs in a forest: each way up ends at a root within as many steps as cells hang, and what a join does to roots.
use Rattle.std.proofs.Common.{◌≡◌, ℕ, zero, suc, ◌+◌, ◌-◌, ◌<◌, ◌≤◌, eqb, ◌≢◌, List, [], ◌∷◌, length, get_or, set, sym, refl, ap, ◌∙◌, ⊎_elim, suc-add, zero-add, arith, if◌then◌else◌}
use Rattle.std.proofs.lemmas.List.{get_or-set_same, get_or-set_other}
use Rattle.std.proofs.lemmas.Bool.{cases_eq}
use Rattle.std.proofs.lemmas.Bool.Decides.{nat_tests}
use Rattle.groups.specs.Forest.{parent, climb, root}

-- how many cells hang from another, where the first has number i
pub hung_from : ℕ → List ℕ → ℕ
hung_from i [] = 0
hung_from i (p ∷ ps) = (if eqb p i then 0 else 1) + hung_from (suc i) ps

-- how many cells hang from another
abbrev pub hung : List ℕ → ℕ
hung = hung_from 0

-- No more cells hang than there are.
hung_few : (i : ℕ) (ps : List ℕ) → hung_from i ps ≤ length ps
unfolding hung_from
hung_few i [] = omega arith
hung_few i (p ∷ ps) = let h = hung_few (suc i) ps in grind (arith, nat_tests)

-- A root that is hung up makes one more.
hung_more : (i k x d : ℕ) (ps : List ℕ) → k < length ps → get_or ps k d ≡ i + k → x ≢ i + k → hung_from i (set ps k x) ≡ suc (hung_from i ps)
unfolding hung_from
hung_more i k x d [] l e n = omega arith
hung_more i zero x d (p ∷ ps) l e n = grind (arith, nat_tests)
hung_more i (suc k) x d (p ∷ ps) l e n =
    let h = hung_more (suc i) k x d ps (omega arith) (omega arith) (omega arith) in omega arith

-- A root is its own root, however far one climbs.
pub climb_root : (ps : List ℕ) (k r : ℕ) → parent ps r ≡ r → climb ps k r ≡ r
unfolding climb
climb_root ps zero r e = refl
climb_root ps (suc k) r e = ap (climb ps k) e ∙ climb_root ps k r e

-- To climb k steps and then j is to climb k + j.
climb_on : (ps : List ℕ) (k j i : ℕ) → climb ps j (climb ps k i) ≡ climb ps (k + j) i
unfolding climb
climb_on ps zero j i = rw zero-add
climb_on ps (suc k) j i = rw suc-add (climb_on ps k j (parent ps i))

-- What is left to climb is left from the parent, one step less.
pub climb_step : (ps : List ℕ) (k m i above : ℕ) → m ≡ suc k → above ≡ parent ps i → climb ps k above ≡ climb ps m i
unfolding climb
climb_step ps k m i above e p = ap (climb ps k) p ∙ ap (λ j. climb ps j i) (sym e)

pub climb_none : (ps : List ℕ) (m i : ℕ) → m ≡ 0 → i ≡ climb ps m i
unfolding climb
climb_none ps m i e = rw e

-- Past a root there is nothing to climb.
climb_enough : (ps : List ℕ) (k m i : ℕ) → k ≤ m → parent ps (climb ps k i) ≡ climb ps k i → climb ps m i ≡ climb ps k i
climb_enough ps k m i l e =
    let split : m ≡ k + (m - k) = omega arith in
    ap (λ j. climb ps j i) split ∙ sym (climb_on ps k (m - k) i) ∙ climb_root ps (m - k) (climb ps k i) e

-- each way up ends at a root within as many steps as cells hang
abbrev pub Rooted : List ℕ → Type 0
Rooted ps = (i : ℕ) → parent ps (climb ps (hung ps) i) ≡ climb ps (hung ps) i

module _ (ps : List ℕ) (ends : Rooted ps) where
  root_is : (i : ℕ) → root ps i ≡ climb ps (hung ps) i
  root_is i = climb_enough ps (hung ps) (length ps) i (hung_few 0 ps) (ends i)

  -- The root of a cell is a root.
  pub root_top : (i : ℕ) → parent ps (root ps i) ≡ root ps i
  root_top i = rw (root_is i) (ends i)

  -- A cell and its parent have one root.
  pub root_parent : (i : ℕ) → root ps (parent ps i) ≡ root ps i
  unfolding climb
  root_parent i =
      let few = hung_few 0 ps in
      climb_enough ps (hung ps) (suc (length ps)) i (omega arith) (ends i) ∙ sym (root_is i)

-- the root of cells that had root q, when root r has been hung from root x
abbrev pub rerooted : ℕ → ℕ → ℕ → ℕ
rerooted r x q = if eqb q r then x else q

-- Who had root r has root x, and who had another keeps it.
pub rerooted_same : (r x q : ℕ) → q ≡ r → rerooted r x q ≡ x
rerooted_same r x q e = grind (arith, nat_tests)

pub rerooted_other : (r x q : ℕ) → q ≢ r → rerooted r x q ≡ q
rerooted_other r x q n = grind (arith, nat_tests)

module _ (ps : List ℕ) (r x : ℕ) (on : r < length ps) (is-r : parent ps r ≡ r) (is_x : parent ps x ≡ x) (apart : x ≢ r) where
  -- Who takes in stays a root.
  pub join_top : parent (set ps r x) x ≡ x
  join_top = get_or-set_other ps r x x x apart ∙ is_x

  from_r : (k : ℕ) → climb (set ps r x) (suc k) r ≡ rerooted r x (climb ps k r)
  unfolding climb
  from_r k =
      ap (climb (set ps r x) k) (get_or-set_same ps r x r on)
      ∙ climb_root (set ps r x) k x join_top
      ∙ sym (rerooted_same r x _ (climb_root ps k r is-r))

  -- One step more is enough after a join, and leads those who came to r on to x.
  climb_join : (k i : ℕ) → parent ps (climb ps k i) ≡ climb ps k i → climb (set ps r x) (suc k) i ≡ rerooted r x (climb ps k i)
  unfolding climb
  climb_join zero i e =
      ⊎_elim (λ same. rw same (from_r zero)) (λ other. get_or-set_other ps r i x i other ∙ e ∙ sym (rerooted_other r x i other)) (cases_eq i r)
  climb_join (suc k) i e =
      let next = climb_join k (parent ps i) e in
      ⊎_elim (λ same. rw same (from_r (suc k))) (λ other. ap (climb (set ps r x) (suc k)) (get_or-set_other ps r i x i other) ∙ next) (cases_eq i r)

  rerooted_top : (q : ℕ) → parent ps q ≡ q → parent (set ps r x) (rerooted r x q) ≡ rerooted r x q
  rerooted_top q e =
      ⊎_elim
      (λ same. rw (rerooted_same r x q same) join_top)
      (λ other. rw (rerooted_other r x q other) (get_or-set_other ps r q x q other ∙ e))
      (cases_eq q r)

  joined_hung : hung (set ps r x) ≡ suc (hung ps)
  joined_hung = hung_more 0 r x r ps on (rw zero-add is-r) (rw zero-add apart)

  module _ (ends : Rooted ps) where
    climb_joined : (i : ℕ) → climb (set ps r x) (hung (set ps r x)) i ≡ rerooted r x (climb ps (hung ps) i)
    climb_joined i = rw joined_hung (climb_join (hung ps) i (ends i))

    -- After a join each way up still ends,
    pub rooted_join : Rooted (set ps r x)
    rooted_join i = rw (climb_joined i) (rerooted_top (climb ps (hung ps) i) (ends i))

    -- and whoever had root r has root x.
    pub root_join : (i : ℕ) → root (set ps r x) i ≡ rerooted r x (root ps i)
    root_join i = root_is (set ps r x) rooted_join i ∙ climb_joined i ∙ ap (rerooted r x) (sym (root_is ps ends i))
