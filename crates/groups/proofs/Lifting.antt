-- A stone taken out again: what it took in is apart, and every number is what it was.
use Rattle.std.proofs.Common.{◌≡◌, ℕ, zero, suc, ◌+◌, ◌<◌, ◌≤◌, Bool, true, false, eqb, ◌≢◌, ◌⊎◌, List, length, set, Some, None, Option, sym, refl, ap, ◌∙◌, inl, inr, ⊎_elim, add-one, arith, if◌then◌else◌}
use Rattle.std.proofs.lemmas.List.{length-set, get_or-set_same, get_or-set_other, get_or_default, set-set, set-get_or, set_past, same_lists}
use Rattle.std.proofs.lemmas.Bool.{cases_eq, cases_lt}
use Rattle.std.proofs.lemmas.Bool.Decides.{nat_tests}
use Rattle.hexboard.specs.Board.{Board, at}
use Rattle.hexboard.specs.Rows.{Stone}
use Rattle.hexboard.specs.Geometry.{over}
use Rattle.groups.specs.Forest.{Forest, parent, root, join, take_in, adopt, alone, freed, free, lift}
use Rattle.groups.proofs.Chains.{last_own}
use Rattle.groups.proofs.Climbs.{Rooted, climb_root, root_top, root_parent}
use Rattle.groups.proofs.Placing.{Grouped, stone_here}

pub free_length : (x k : ℕ) (ps : List ℕ) → length (free x k ps) ≡ length ps
unfolding free
free_length x zero ps = refl
free_length x (suc k) ps = length-set (free x k ps) k _ ∙ free_length x k ps

-- Of the cells, those that have been looked at are freed, and the others are as they were.
pub free_ahead : (x k i : ℕ) (ps : List ℕ) → k ≤ i → parent (free x k ps) i ≡ parent ps i
unfolding free
free_ahead x zero i ps l = refl
free_ahead x (suc k) i ps l = get_or-set_other (free x k ps) k i _ i (omega arith) ∙ free_ahead x k i ps (omega arith)

free_behind : (x k i : ℕ) (ps : List ℕ) → i < k → k ≤ length ps → parent (free x k ps) i ≡ freed x i (parent ps i)
unfolding free
free_behind x zero i ps l h = omega arith
free_behind x (suc k) i ps l h =
    ⊎_elim
    (λ e. rw e (get_or-set_same (free x k ps) k _ k (omega (arith, free_length x k ps)) ∙ ap (freed x k) (free_ahead x k k ps (omega arith))))
    (λ d. get_or-set_other (free x k ps) k i _ i d ∙ free_behind x k i ps (omega arith) (omega arith))
    (cases_eq i k)

-- One cell more is looked at: it hangs from x and is freed, or it does not and stays.
free_more : (x k : ℕ) (ps ws new : List ℕ) → ws ≡ free x k ps → new ≡ set ws k (freed x k (parent ws k)) → new ≡ free x (k + 1) ps
unfolding free
free_more x k ps ws new e h = rw add-one (h ∙ ap (λ qs. set qs k (freed x k (parent qs k))) e)

pub free_hit : (x k : ℕ) (ps ws new : List ℕ) → ws ≡ free x k ps → parent ws k ≡ x → new ≡ set ws k k → new ≡ free x (k + 1) ps
free_hit x k ps ws new e is h =
    let root-again : k ≡ freed x k (parent ws k) = grind (arith, nat_tests) in free_more x k ps ws new e (h ∙ ap (set ws k) root-again)

pub free_miss : (x k : ℕ) (ps ws : List ℕ) → ws ≡ free x k ps → (parent ws k ≡ x → ⊥) → ws ≡ free x (k + 1) ps
free_miss x k ps ws e isnt =
    let as_was : parent ws k ≡ freed x k (parent ws k) = grind (arith, nat_tests) in
    free_more x k ps ws ws e (sym (set-get_or ws k k) ∙ ap (set ws k) as_was)

pub free_none : (x : ℕ) (ps : List ℕ) → ps ≡ free x 0 ps
unfolding free
free_none x ps = refl

-- the parents qs are ps but for roots that have come to hang from x
pub record Taken (x : ℕ) (ps qs : List ℕ) : Type 0 where
  pub long : length qs ≡ length ps
  pub each : (i : ℕ) → (parent qs i ≡ parent ps i) ⊎ ((parent qs i ≡ x) × (parent ps i ≡ i))

freed_back : (x i p q : ℕ) → (q ≡ p) ⊎ ((q ≡ x) × (p ≡ i)) → (p ≡ x → i ≡ x) → freed x i q ≡ p
freed_back x i p q h nobody = grind (arith, nat_tests)

-- Where nobody else hung from x, freeing gives back what was.
pub given_back : (x k : ℕ) (ps qs : List ℕ) → k ≡ length ps → Taken x ps qs → ((i : ℕ) → parent ps i ≡ x → i ≡ x) → free x k qs ≡ ps
given_back x k ps qs all t nobody =
    same_lists (free x k qs) ps (free_length x k qs ∙ t.long)
    (λ i d l.
    let on : i < k = omega (arith, free_length x k qs, t.long) in
    get_or_default (free x k qs) i d i l
    ∙ free_behind x k i qs on (omega (arith, t.long))
    ∙ freed_back x i (parent ps i) (parent qs i) (t.each i) (nobody i)
    ∙ get_or_default ps i i d (omega (arith, t.long)))

-- One root more hangs from x.
taken_here : (x r : ℕ) (ps qs : List ℕ) → Taken x ps qs → r < length qs → parent qs r ≡ r → Taken x ps (set qs r x)
taken_here x r ps qs t l top = record { long = length-set qs r x ∙ t.long; each = at_each }
  where
    was_root : (parent qs r ≡ parent ps r) ⊎ ((parent qs r ≡ x) × (parent ps r ≡ r)) → parent ps r ≡ r
    was_root (inl e) = sym e ∙ top
    was_root (inr e) = e.1

    as_was : (i : ℕ) → i ≢ r → (parent qs i ≡ parent ps i) ⊎ ((parent qs i ≡ x) × (parent ps i ≡ i)) →
        (parent (set qs r x) i ≡ parent ps i) ⊎ ((parent (set qs r x) i ≡ x) × (parent ps i ≡ i))
    as_was i d (inl e) = inl (get_or-set_other qs r i x i d ∙ e)
    as_was i d (inr e) = inr (get_or-set_other qs r i x i d ∙ e.0, e.1)

    at_each : (i : ℕ) → (parent (set qs r x) i ≡ parent ps i) ⊎ ((parent (set qs r x) i ≡ x) × (parent ps i ≡ i))
    at_each i = ⊎_elim (λ e. inr (rw e (get_or-set_same qs r x r l), rw e (was_root (t.each r)))) (λ d. as_was i d (t.each i)) (cases_eq i r)

-- A cell that is not there changes nothing.
taken_more : (x r : ℕ) (ps qs : List ℕ) → Taken x ps qs → parent qs r ≡ r → Taken x ps (set qs r x)
taken_more x r ps qs t top = ⊎_elim (λ l. taken_here x r ps qs t l top) (λ past. rw (set_past qs r x past) t) (cases_lt r (length qs))

-- What holds of both values holds of the one that is picked.
pick_both : {A : Type 0} (P : A → Type 0) (c : Bool) (u v : A) → P u → P v → P (if c then u else v)
pick_both P true u v p q = p
pick_both P false u v p q = q

-- A forest f to which a stone has come at x, its neighbours being looked at one by one.
module _ (b : Board) (s x bits : ℕ) (next : ℕ → Option ℕ) (f : Forest) (rooted : (m : ℕ) → Rooted (adopt b s x next m (alone x bits f)).parents) where
  taken_in : (h : Forest) (o : Option ℕ) → Rooted h.parents → Taken x f.parents h.parents → Taken x f.parents (take_in b s x o h).parents
  taken_in h None w t = t
  taken_in h (Some y) w t =
      pick_both (λ k. Taken x f.parents k.parents) (eqb (at b y) s) (join (root h.parents y) x h) h
      (taken_more x (root h.parents y) f.parents h.parents t (root_top h.parents w y)) t

  -- Roots come to hang from x, and nothing else happens to the parents.
  pub all_taken : (m : ℕ) → Taken x f.parents (adopt b s x next m (alone x bits f)).parents
  unfolding over
  all_taken zero = record { long = refl; each = λ i. inl refl }
  all_taken (suc m) = taken_in _ (next m) (rooted m) (all_taken m)

  cleared_in : (h : Forest) (o : Option ℕ) → set (take_in b s x o h).borders x 0 ≡ set h.borders x 0
  cleared_in h None = refl
  cleared_in h (Some y) =
      pick_both (λ k. set k.borders x 0 ≡ set h.borders x 0) (eqb (at b y) s) (join (root h.parents y) x h) h (set-set h.borders x _ 0) refl

  -- Nobody's bits change but those of x.
  pub cleared : (m : ℕ) → set (adopt b s x next m (alone x bits f)).borders x 0 ≡ set f.borders x 0
  unfolding over
  cleared zero = set-set f.borders x bits 0
  cleared (suc m) = cleared_in _ (next m) ∙ cleared m

-- Nobody hangs from an empty cell.
pub nobody_hangs : {near : ℕ → ℕ → Bool} {bits : ℕ → ℕ → ℕ} (b : Board) (f : Forest) → Grouped near bits b f →
    (x : ℕ) → at b x ≡ 0 → (i : ℕ) → parent f.parents i ≡ x → i ≡ x
nobody_hangs {near} b f g x free i e =
    ⊎_elim (λ none. sym (g.lone i none).0 ∙ e)
    (λ some.
    let up : root f.parents i ≡ x = sym (root_parent f.parents g.ends i) ∙ ap (root f.parents) e ∙ climb_root f.parents _ x (g.lone x free).0 in
    let top : Stone b (at b i) (root f.parents i) = last_own near (g.hangs (at b i) i some (stone_here b (at b i) i some refl)) in
    absurd (some (sym top.1 ∙ ap (at b) up ∙ free)))
    (cases_eq (at b i) 0)

-- Taking out the stone that came last to a cell that was empty leaves the forest as it was.
pub lifted : {near : ℕ → ℕ → Bool} {bits : ℕ → ℕ → ℕ} (b : Board) (f : Forest) → Grouped near bits b f → (s x m v : ℕ) (next : ℕ → Option ℕ) → at b x ≡ 0 →
    ((m : ℕ) → Rooted (adopt b s x next m (alone x v f)).parents) → lift (length b.cells) x (adopt b s x next m (alone x v f)) ≡ f
lifted b f g s x m v next free rooted = λ i. record { parents = ps i; borders = bs i }
  where
    ps : (lift (length b.cells) x (adopt b s x next m (alone x v f))).parents ≡ f.parents
    ps = given_back x (length b.cells) f.parents _ (sym g.parent_each) (all_taken b s x v next f rooted m) (nobody_hangs b f g x free)

    bs : (lift (length b.cells) x (adopt b s x next m (alone x v f))).borders ≡ f.borders
    bs = cleared b s x v next f rooted m ∙ ap (set f.borders x) (sym (g.lone x free).1) ∙ set-get_or f.borders x 0
