-- The cells there are among those that a function may give for some numbers, one after the other: what a walk over them knows.
use Rattle.std.proofs.Common.{rules, ◌≡◌, ℕ, zero, suc, ◌+◌, ◌-◌, ◌<◌, ◌≤◌, List, [], ◌∷◌, true, Some, None, Option, MatchOption, IfSome, sym, ap, ◌∙◌, refl, subst, ⊎_elim, add-one, arith}
use Rattle.std.specs.Bool.{IsTrue}
use Rattle.std.specs.Option.{option_map}
use Rattle.std.specs.List.{cons_option, FoldsTo, Contains}
use Rattle.std.specs.Iterator.{FindsMapped, Yields, YieldsThen, YieldsFirst, MakesProgress, item_count}
use Rattle.std.specs.Iterator.Runs.{Run, SomeRun, AllItemsGive}
use Rattle.std.specs.Fn.{Called}
use Rattle.std.proofs.lemmas.Bool.{cases_eq}
use Rattle.std.proofs.lemmas.Option.{none-some, same_Some}
use Rattle.std.proofs.iter.Yields.{nat_range_steps}
use Rattle.std.proofs.iter.runs.Sources.{range_runs}
use Rattle.std.specs.declared.ops.Range.{Range}
use denote.Param.Members.{Mut}
use Rattle.hexboard.specs.Geometry.{given, over}

-- Where there is none for any of the numbers, the list is empty.
pub given_none : (next : ℕ → Option ℕ) (k m : ℕ) → ((i : ℕ) → k ≤ i → i < k + m → next i ≡ None) → given next k m ≡ []
unfolding given
given_none next k zero h = refl
given_none next k (suc m) h = rw (h k (omega arith) (omega arith)) (given_none next (suc k) m (λ i low high. h i (omega arith) (omega arith)))

-- Two functions that give the same give the same list.
pub given_same : (one other : ℕ → Option ℕ) (k m : ℕ) → ((i : ℕ) → one i ≡ other i) → given one k m ≡ given other k m
unfolding given
given_same one other k zero h = refl
given_same one other k (suc m) h = rw (h k, given_same one other (suc k) m h) refl

-- The first number's cell, if there is one, comes before the others'.
pub given_more : (next : ℕ → Option ℕ) (k m : ℕ) → 0 < m → given next k m ≡ cons_option (next k) (given next (k + 1) (m - 1))
unfolding given
given_more next k zero h = absurd (omega arith)
given_more next k (suc m) h = let less : suc m - 1 ≡ m = omega arith in let more : k + 1 ≡ suc k = omega arith in rw (less, more) refl

-- A cell of the list is there for one of the numbers,
pub given_only : (next : ℕ → Option ℕ) (m k j : ℕ) → Contains (given next k m) j → (d : ℕ) × (k ≤ d) × (d < k + m) × (next d ≡ Some j)
unfolding given
given_only next zero k j (p, l, e) = absurd (omega arith)
given_only next (suc m) k j h = at (given_only next m (suc k) j) (next k) refl h
  where
    There : ℕ → ℕ → Type 0
    There i n = (d : ℕ) × (i ≤ d) × (d < i + n) × (next d ≡ Some j)

    later : There (suc k) m → There k (suc m)
    later (d, low, high, is) = (d, omega arith, omega arith, is)

    at : (Contains (given next (suc k) m) j → There (suc k) m) → (o : Option ℕ) → next k ≡ o → Contains (cons_option o (given next (suc k) m)) j → There k (suc m)
    at on None is h = later (on h)
    at on (Some y) is (zero, l, e) = (k, omega arith, omega arith, is ∙ ap Some e)
    at on (Some y) is (suc p, l, e) = later (on (p, omega arith, e))

-- and what is there for one is in the list.
pub given_all : (next : ℕ → Option ℕ) (m k d j : ℕ) → k ≤ d → d < k + m → next d ≡ Some j → Contains (given next k m) j
unfolding given
given_all next zero k d j low high is = absurd (omega arith)
given_all next (suc m) k d j low high is =
    ⊎_elim
    (λ here. let first : next k ≡ Some j = ap next here ∙ is in rw first (0, omega arith, refl))
    (λ apart. later (next k) (given_all next m (suc k) d j (omega arith) (omega arith) is))
    (cases_eq k d)
  where
    later : (o : Option ℕ) → Contains (given next (suc k) m) j → Contains (cons_option o (given next (suc k) m)) j
    later None h = h
    later (Some y) (p, l, e) = (suc p, omega arith, e)

-- what is given for the numbers of a range
abbrev pub in_range : (ℕ → Option ℕ) → Range ℕ → List ℕ
in_range next s = given next s.start (s.end - s.start)

module _ (next : ℕ → Option ℕ) {F : Type 0} {g : Mut F (ℕ × Unit {0}) (Option ℕ)} (f : F) (gives : (x : ℕ) (b : Option ℕ) (q : F) → Called g f (x, tt) b q → (q ≡ f) × (b ≡ next x)) where
  -- one step of a range: its first number, for which there may be a cell
  in_range_more : (s u : Range ℕ) (x : ℕ) → nat_range_steps s (Some x) u → in_range next s ≡ cons_option (next x) (in_range next u)
  in_range_more s u x h =
      given_more next s.start (s.end - s.start) h.1.0
      ∙ (let left : s.end - s.start - 1 ≡ u.end - u.start = omega (arith, h.0, h.1.2) in rw (left, h.1.1, h.1.2) refl)

  -- numbers for which there was no cell are passed
  passed : (xs : List ℕ) (s t : Range ℕ) (e h : F) → e ≡ f → Yields nat_range_steps s xs t → FoldsTo (λ p x q. Called g p (x, tt) None q) e xs h
      → (h ≡ f) × (in_range next s ≡ in_range next t) × (t.end ≡ s.end) × (s.start ≤ t.start)
  passed [] s t e h same y c = (sym c ∙ same, ap (in_range next) y, ap (λ (r : Range ℕ). r.end) (sym y), omega (arith, ap (λ (r : Range ℕ). r.start) y))
  passed (x ∷ xs) s t e h same y c =
      let here = gives x None c.0 (subst (λ p. Called g p (x, tt) None c.0) same c.1) in
      let rest = passed xs y.0 t c.0 h here.0 y.2 c.2 in
      (rest.0, in_range_more s y.0 x y.1 ∙ rw (sym here.1) rest.1, rest.2 ∙ y.1.0, omega (arith, rest.3, y.1.1.2))

  -- where a run through the whole range met no cell there is none for its numbers
  none_met : (s : Range ℕ) (p : Run nat_range_steps) → p.from ≡ s → p.whole ≡ true → AllItemsGive p g f None → (i : ℕ) → s.start ≤ i → i < s.end → next i ≡ None
  none_met s p from whole all i low high =
      let up = range_runs p p.seen in
      let start : p.from.start ≡ s.start = ap (λ (r : Range ℕ). r.start) from in
      let end : p.from.end ≡ s.end = ap (λ (r : Range ℕ). r.end) from in
      let k = i - s.start in
      let inside : k < p.len = omega (arith, up.1 whole, start, end) in
      let at : p.from.start + k ≡ i = omega (arith, start) in
      item (p.at k) (up.3 k inside ∙ ap Some at) (all (λ a r q c. (gives a.0 r q c).0) k)
    where
      item : (o : Option ℕ) → option_map (λ y. y) o ≡ Some i → IfSome o (λ x. Called g f (x, tt) None f) → next i ≡ None
      item None h c = absurd (none-some _ h)
      item (Some x) h c = ap next (sym (same_Some _ _ h)) ∙ sym (gives x None f c).1

  -- a step leaves no number before those of the range
  further : (o : Option ℕ) (s t u : Range ℕ) → (t.end ≡ s.end) × (s.start ≤ t.start) → nat_range_steps t o u → (u.end ≡ s.end) × (s.start ≤ u.start)
  further None s t u h last = (last.0 ∙ h.0, omega (arith, h.1, last.1.1))
  further (Some x) s t u h last = (last.0 ∙ h.0, omega (arith, h.1, last.1.1))

  -- what `find_map` finds is the first of the cells, and it leaves the others
  found : (Q : Run nat_range_steps → ℕ → Type 0) (s u : Range ℕ) (r : Option ℕ) → FindsMapped nat_range_steps g s f r u
      → SomeRun nat_range_steps s (λ p. MatchOption r (IsTrue p.whole × AllItemsGive p g f None) (Q p))
      → YieldsFirst (in_range next) s r u
  found Q s u None (xs, o, h, (t, steps, last), calls, end) (p, from, (whole, all)) =
      let past = passed xs s t f h refl steps calls in
      let none = none_met s p from whole all in
      let left = further o s t u (past.2, past.3) last in (
        given_none next s.start (s.end - s.start) (λ i low high. none i low (omega arith)),
        given_none next u.start (u.end - u.start) (λ i low high. none i (omega (arith, left)) (omega (arith, left))),
      )
  found Q s u (Some y) (xs, None, h, (t, steps, last), calls, end) runs = absurd (none-some _ (sym end))
  found Q s u (Some y) (xs, Some x, h, (t, steps, last), calls, (h', call)) runs =
      let past = passed xs s t f h refl steps calls in
      let here = gives x (Some y) h' (subst (λ p. Called g p (x, tt) (Some y) h') past.0 call) in
      past.1 ∙ (in_range_more t u x last ∙ rw (sym here.1) refl)

-- What `find_map` over a range finds, where its closure answers as `next` does, is the first of the cells, and it leaves the others.
pub found_given : (next : ℕ → Option ℕ) (Q : Run nat_range_steps → ℕ → Type 0) {F : Type 0} {g : Mut F (ℕ × Unit {0}) (Option ℕ)} (s u : Range ℕ) (f : F) (r : Option ℕ)
    → (xs : List ℕ) × (o : Option ℕ) × (j : F) × YieldsThen nat_range_steps s xs o u × FoldsTo (λ p x q. Called g p (x, tt) None q) f xs j
    × MatchOption o (r ≡ None) (λ x. (h : F) × Called g j (x, tt) r h)
    → SomeRun nat_range_steps s (λ p. MatchOption r (IsTrue p.whole × AllItemsGive p g f None) (Q p))
    → ((x : ℕ) (b : Option ℕ) (q : F) → Called g f (x, tt) b q → (q ≡ f) × (b ≡ next x)) → YieldsFirst (in_range next) s r u
found_given next Q s u f r ran runs gives = found next f gives Q s u r ran runs

-- An iterator that gives the first of what is left has less left with each.
pub goes_first : (can : List ℕ → Type 0) (s t : List ℕ) (r : Option ℕ) → ((l : List ℕ) → can l) → YieldsFirst (λ l. l) s r t → MakesProgress can (item_count (λ l. l)) s r t
goes_first can s t None may h = rw (h.0, h.1) (search rules)
goes_first can s t (Some x) may h = rw h (search (rules, may))

-- A walk over the cells for m numbers comes to number k, and has `rest` left.
abbrev pub At : (ℕ → Option ℕ) → ℕ → List ℕ → ℕ → Type 0
At next m rest k = (n : ℕ) × (k + n ≡ m) × (rest ≡ given next k n)

-- It has come to a number where P holds.
abbrev pub Upto : (ℕ → Option ℕ) → ℕ → List ℕ → (ℕ → Type 0) → Type 0
Upto next m rest P = (k : ℕ) × At next m rest k × P k

-- It begins with all of them.
pub upto_start : (next : ℕ → Option ℕ) (m : ℕ) {rest : List ℕ} (P : ℕ → Type 0) → rest ≡ given next 0 m → P 0 → Upto next m rest P
upto_start next m P h p = (0, (m, omega arith, h), p)

-- Where P passes numbers for which there is no cell, it holds at the number of the next cell, behind which the others are left; or,
-- where none is left, behind all numbers.
abbrev pub Ahead : (ℕ → Option ℕ) → ℕ → (ℕ → Type 0) → List ℕ → Type 0
Ahead next m P [] = P m
Ahead next m P (x ∷ others) = (k : ℕ) × (next k ≡ Some x) × P k × At next m others (k + 1)

module _ {next : ℕ → Option ℕ} {m : ℕ} {P : ℕ → Type 0} (pass : (k : ℕ) → next k ≡ None → P k → P (k + 1)) where
  ahead : (n k : ℕ) → k + n ≡ m → P k → Ahead next m P (given next k n)
  unfolding given
  ahead zero k e p = let last : k ≡ m = omega arith in subst P last p
  ahead (suc n) k e p = at (next k) refl (λ none. ahead n (suc k) (omega arith) (subst P (add-one k) (pass k none p)))
    where
      at : (o : Option ℕ) → next k ≡ o → (next k ≡ None → Ahead next m P (given next (suc k) n)) → Ahead next m P (cons_option o (given next (suc k) n))
      at None is on = on is
      at (Some x) is on = (k, is, p, (n, omega arith, ap (λ i. given next i n) (sym (add-one k))))

  pub upto_next : {rest others : List ℕ} {x : ℕ} → rest ≡ x ∷ others → Upto next m rest P
      → (k : ℕ) × (next k ≡ Some x) × P k × At next m others (k + 1)
  upto_next h (k, (n, e, left), p) = subst (Ahead next m P) (sym left ∙ h) (ahead n k e p)

  pub upto_end : {rest : List ℕ} → rest ≡ [] → Upto next m rest P → P m
  upto_end h (k, (n, e, left), p) = subst (Ahead next m P) (sym left ∙ h) (ahead n k e p)

-- What is known after looking at some: nothing new before the first, or where the board ends,
pub over_none : {S : Type 0} (look : Option ℕ → S → S) (next : ℕ → Option ℕ) (s : S) → s ≡ over look next 0 s
unfolding over
over_none look next s = refl

over_more : {S : Type 0} (look : Option ℕ → S → S) (next : ℕ → Option ℕ) (m : ℕ) (s now new : S) → now ≡ over look next m s →
    new ≡ look (next m) now → new ≡ over look next (m + 1) s
unfolding over
over_more look next m s now new e t = rw add-one (t ∙ ap (look (next m)) e)

pub over_end : {S : Type 0} (look : Option ℕ → S → S) → ((s : S) → s ≡ look None s) → (next : ℕ → Option ℕ) (s now : S) (m : ℕ) → next m ≡ None →
    now ≡ over look next m s → now ≡ over look next (m + 1) s
over_end look idle next s now m none so_far = over_more look next m s now now so_far (idle now ∙ ap (λ o. look o now) (sym none))

-- else what the neighbour tells.
pub over_met : {S : Type 0} (look : Option ℕ → S → S) (next : ℕ → Option ℕ) (m : ℕ) (s now new : S) (p : ℕ) → next m ≡ Some p →
    now ≡ over look next m s → new ≡ look (Some p) now → new ≡ over look next (m + 1) s
over_met look next m s now new p is so_far t = over_more look next m s now new so_far (t ∙ ap (λ o. look o now) (sym is))
