-- The empty cells gathered by what they touch: steps as the code takes them, and what is in the sets.
use Rattle.std.proofs.Common.{◌≡◌, ℕ, zero, suc, ◌+◌, ◌*◌, ◌^◌, ◌<◌, true, ◌≢◌, ◌⊎◌, List, length, get_or, replicate, Some, None, Option, sym, refl, ap, ap₂, ◌∙◌, subst, inl, inr, ⊎_elim, add-one, arith}
use lib.Bits.{bit_or}
use Rattle.std.proofs.lemmas.List.{length-set, length-replicate, get_or-set_same, get_or-set_other, set_past}
use Rattle.std.proofs.lemmas.Bool.{cases_eq, cases_lt, eq-eqb, ne_eqb}
use Rattle.hexboard.specs.Board.{Board, at, other, next_to}
use Rattle.hexboard.specs.Geometry.{neighbour_of, touch, over}
use Rattle.hexboard.specs.Rows.{Stone}
use Rattle.hexboard.proofs.Adjacent.{neighbour_next, neighbour_all}
use Rattle.hexboard.proofs.Given.{over_end, over_met}
use Rattle.groups.specs.Forest.{root}
use Rattle.groups.proofs.Placing.{stone_here}
use Rattle.ranking.specs.Sets.{bit}
use Rattle.ranking.proofs.Bits.{bit_none, own_bit, only_bit, in_or, or_left, or_right}
use Rattle.endgame.specs.Gathering.{enter, entered_at, entered_all, gathered, joined_at, by_root}

pub gathered_none : (b : Board) (w : ℕ) (ps es : List ℕ) → replicate 361 0 ≡ gathered b w ps es 0
unfolding gathered
gathered_none b w ps es = refl

-- one more cell has been gathered
pub gathered_more : (b : Board) (w : ℕ) (ps es : List ℕ) (m cell : ℕ) (now new : List ℕ) → now ≡ gathered b w ps es m →
    cell ≡ get_or es m 0 → new ≡ entered_all b w ps m cell now → new ≡ gathered b w ps es (m + 1)
unfolding gathered
gathered_more b w ps es m cell now new e is t = rw add-one (t ∙ ap₂ (entered_all b w ps m) is e)

-- The first m neighbours of cell i have been looked at: what is near and which borders are touched is joined so far.
pub record Looked (b : Board) (w : ℕ) (ps sets bs : List ℕ) (i near borders m : ℕ) : Type 0 where
  pub joined : near ≡ over (joined_at b w ps (by_root sets)) (neighbour_of b.wide i) m 0
  pub touched : borders ≡ over (joined_at b w ps (by_root bs)) (neighbour_of b.wide i) m (touch b.wide w i)

module _ {b : Board} {w : ℕ} {ps sets bs : List ℕ} {i near borders : ℕ} where
  pub looked_end : (m : ℕ) → neighbour_of b.wide i m ≡ None → Looked b w ps sets bs i near borders m → Looked b w ps sets bs i near borders (m + 1)
  looked_end m none l = record { joined = over_end _ (λ x. refl) _ _ _ m none l.joined; touched = over_end _ (λ x. refl) _ _ _ m none l.touched }

  module _ {m p : ℕ} (is : neighbour_of b.wide i m ≡ Some p) (l : Looked b w ps sets bs i near borders m) where
    -- A stone of the other side brings nothing,
    pub looked_theirs : at b p ≡ other w → Looked b w ps sets bs i near borders (m + 1)
    looked_theirs theirs =
        let same = eq-eqb (at b p) (other w) theirs in
        record { joined = over_met _ _ _ _ _ _ _ is l.joined (rw same refl); touched = over_met _ _ _ _ _ _ _ is l.touched (rw same refl) }

    -- and what else is there brings what its root has.
    pub looked_ours : (at b p ≡ other w → ⊥) → Looked b w ps sets bs i (bit_or near (get_or sets (root ps p) 0)) (bit_or borders (get_or bs (root ps p) 0)) (m + 1)
    looked_ours ours =
        let apart = ne_eqb (at b p) (other w) ours in
        record { joined = over_met _ _ _ _ _ _ _ is l.joined (rw apart refl); touched = over_met _ _ _ _ _ _ _ is l.touched (rw apart refl) }

-- p is one of the first m that lie next to a cell
abbrev pub Among : (ℕ → Option ℕ) → ℕ → ℕ → Type 0
Among next m p = (d : ℕ) × (d < m) × (next d ≡ Some p)

-- What is known in the end was known at first, or comes from one of those that were looked at.
module _ {S : Type 0} (look : Option ℕ → S → S) (next : ℕ → Option ℕ) (P : S → Type 0) where
  pub over_only : (Q : ℕ → Type 0) → ((o : Option ℕ) (s : S) → P (look o s) → P s ⊎ ((p : ℕ) × (o ≡ Some p) × Q p)) →
      (m : ℕ) (s : S) → P (over look next m s) → P s ⊎ ((p : ℕ) × Among next m p × Q p)
  unfolding over
  over_only Q one zero s h = inl h
  over_only Q one (suc m) s h =
      ⊎_elim
      (λ before. ⊎_elim inl (λ (p, (d, l, e), q). inr (p, (d, omega arith, e), q)) (over_only Q one m s before))
      (λ (p, e, q). inr (p, (m, omega arith, e), q))
      (one (next m) (over look next m s) h)

  -- It stays known,
  pub over_old : ((o : Option ℕ) (s : S) → P s → P (look o s)) → (m : ℕ) (s : S) → P s → P (over look next m s)
  unfolding over
  over_old keeps zero s h = h
  over_old keeps (suc m) s h = keeps (next m) _ (over_old keeps m s h)

  -- and what one of them brings is known.
  pub over_new : ((o : Option ℕ) (s : S) → P s → P (look o s)) → (m : ℕ) (s : S) {p : ℕ} → Among next m p →
      ((k : ℕ) → P (look (Some p) (over look next k s))) → P (over look next m s)
  unfolding over
  over_new keeps zero s (d, l, e) brings = absurd (omega arith)
  over_new keeps (suc m) s {p} (d, l, e) brings =
      ⊎_elim
      (λ same. subst (λ o. P (look o (over look next m s))) (sym (ap next (sym same) ∙ e)) (brings m))
      (λ apart. keeps (next m) _ (over_new keeps m s (d, omega arith, e) brings))
      (cases_eq d m)

-- Once k has come into the set at place r, that at place q is as it was, or q is r and it has k too.
entered : (k r : ℕ) (sets : List ℕ) (q : ℕ) →
    (get_or (enter k r sets) q 0 ≡ get_or sets q 0) ⊎ ((q ≡ r) × (get_or (enter k r sets) q 0 ≡ bit_or (get_or sets q 0) (2 ^ k)))
entered k r sets q = ⊎_elim
    (λ same. ⊎_elim
    (λ l. inr (same, ap (λ p. get_or (enter k r sets) p 0) same ∙ get_or-set_same sets r _ 0 l ∙ ap (λ p. bit_or (get_or sets p 0) (2 ^ k)) (sym same)))
    (λ past. inl (ap (λ l. get_or l q 0) (set_past sets r _ past)))
    (cases_lt r (length sets)))
    (λ apart. inl (get_or-set_other sets r q _ 0 apart))
    (cases_eq q r)

pub enter_only : (k r : ℕ) (sets : List ℕ) (q j : ℕ) → bit j (get_or (enter k r sets) q 0) ≡ 1 → (bit j (get_or sets q 0) ≡ 1) ⊎ ((j ≡ k) × (q ≡ r))
enter_only k r sets q j h =
    ⊎_elim
    (λ e. inl (sym (ap (bit j) e) ∙ h))
    (λ (same, e). ⊎_elim inl (λ new. inr (only_bit k j new, same)) (in_or j (get_or sets q 0) (2 ^ k) (sym (ap (bit j) e) ∙ h)))
    (entered k r sets q)

pub enter_old : (k r : ℕ) (sets : List ℕ) (q j : ℕ) → bit j (get_or sets q 0) ≡ 1 → bit j (get_or (enter k r sets) q 0) ≡ 1
enter_old k r sets q j h =
    ⊎_elim (λ e. ap (bit j) e ∙ h) (λ (_, e). ap (bit j) e ∙ or_left j (get_or sets q 0) (2 ^ k) h) (entered k r sets q)

pub enter_new : (k r : ℕ) (sets : List ℕ) → r < length sets → bit k (get_or (enter k r sets) r 0) ≡ 1
enter_new k r sets l = ap (bit k) (get_or-set_same sets r _ 0 l) ∙ or_right k (get_or sets r 0) (2 ^ k) (own_bit k)

-- no set has anything at first
pub nothing : (m q : ℕ) → get_or {A = ℕ} (replicate m 0) q 0 ≡ 0
nothing zero q = refl
nothing (suc m) zero = refl
nothing (suc m) (suc q) = nothing m q

-- a stone of side w lies next to cell i, and r is the root of its group
abbrev pub BesideGroup : Board → ℕ → List ℕ → ℕ → ℕ → Type 0
BesideGroup b w ps r i = (p : ℕ) × (next_to b.wide i p ≡ true) × Stone b w p × (root ps p ≡ r)

-- cell i is r, or lies next to the group of r
abbrev pub Meets : Board → ℕ → List ℕ → ℕ → ℕ → Type 0
Meets b w ps r i = (i ≡ r) ⊎ BesideGroup b w ps r i

module _ (b : Board) (w : ℕ) (side : w ≢ 0) (ps : List ℕ) where
  -- One neighbour is looked at: what it brings is in, what was in stays, and nothing else comes.
  at_only : (k q j : ℕ) (o : Option ℕ) (sets : List ℕ) → bit j (get_or (entered_at b w ps k o sets) q 0) ≡ 1 →
      (bit j (get_or sets q 0) ≡ 1) ⊎ ((p : ℕ) × (o ≡ Some p) × ((j ≡ k) × (at b p ≡ w) × (root ps p ≡ q)))
  at_only k q j None sets h = inl h
  at_only k q j (Some p) sets h = ⊎_elim
      (λ e. ⊎_elim inl (λ (is, here). inr (p, refl, (is, e, sym here))) (enter_only k (root ps p) sets q j (rw (eq-eqb (at b p) w e) at h)))
      (λ n. inl (rw (ne_eqb (at b p) w n) at h))
      (cases_eq (at b p) w)

  at_old : (k q j : ℕ) (o : Option ℕ) (sets : List ℕ) → bit j (get_or sets q 0) ≡ 1 → bit j (get_or (entered_at b w ps k o sets) q 0) ≡ 1
  at_old k q j None sets h = h
  at_old k q j (Some p) sets h =
      ⊎_elim (λ e. rw (eq-eqb (at b p) w e) (enter_old k (root ps p) sets q j h)) (λ n. rw (ne_eqb (at b p) w n) h) (cases_eq (at b p) w)

  at_long : (k : ℕ) (o : Option ℕ) (sets : List ℕ) → length sets ≡ 361 → length (entered_at b w ps k o sets) ≡ 361
  at_long k None sets h = h
  at_long k (Some p) sets h =
      ⊎_elim (λ e. rw (eq-eqb (at b p) w e) (length-set sets (root ps p) _ ∙ h)) (λ n. rw (ne_eqb (at b p) w n) h) (cases_eq (at b p) w)

  at_new : (k p : ℕ) (sets : List ℕ) → at b p ≡ w → root ps p < length sets → bit k (get_or (entered_at b w ps k (Some p) sets) (root ps p) 0) ≡ 1
  at_new k p sets is l = rw (eq-eqb (at b p) w is) (enter_new k (root ps p) sets l)

  -- All neighbours of cell i are looked at: the sets are as many, and what was in one stays.
  all_long : (k i : ℕ) (sets : List ℕ) (m : ℕ) → length sets ≡ 361 → length (over (entered_at b w ps k) (neighbour_of b.wide i) m (enter k i sets)) ≡ 361
  all_long k i sets m h = over_old (entered_at b w ps k) (neighbour_of b.wide i) (λ s. length s ≡ 361) (at_long k) m _ (length-set sets i _ ∙ h)

  all_old : (k i q j : ℕ) (sets : List ℕ) → bit j (get_or (enter k i sets) q 0) ≡ 1 → bit j (get_or (entered_all b w ps k i sets) q 0) ≡ 1
  all_old k i q j sets h = over_old (entered_at b w ps k) (neighbour_of b.wide i) (λ s. bit j (get_or s q 0) ≡ 1) (at_old k q j) 6 _ h

  gathered_long : (es : List ℕ) (m : ℕ) → length (gathered b w ps es m) ≡ 361
  unfolding gathered
  gathered_long es zero = length-replicate {A = ℕ} 361 0
  gathered_long es (suc m) = all_long m (get_or es m 0) (gathered b w ps es m) 6 (gathered_long es m)

  -- The set at q has those of the cells that are q or lie next to the group of q,
  pub gathered_only : (es : List ℕ) (m q j : ℕ) → bit j (get_or (gathered b w ps es m) q 0) ≡ 1 → (j < m) × Meets b w ps q (get_or es j 0)
  unfolding gathered
  gathered_only es zero q j h = absurd (omega (arith, ap (bit j) (nothing 361 q), bit_none j))
  gathered_only es (suc m) q j h =
      let i : ℕ = get_or es m 0 in
      ⊎_elim
      (λ own. ⊎_elim
      (λ before. let (l, meets) = gathered_only es m q j before in (omega arith, meets))
      (λ (is, here). (omega arith, inl (ap (λ x. get_or es x 0) is ∙ sym here)))
      (enter_only m i (gathered b w ps es m) q j own))
      (λ (p, (d, _, e), (is, stone, here)).
      (omega arith, inr (p, subst (λ x. next_to b.wide (get_or es x 0) p ≡ true) (sym is) (neighbour_next b.wide i d p e), stone_here b w p side stone, here)))
      (over_only (entered_at b w ps m) (neighbour_of b.wide i) (λ s. bit j (get_or s q 0) ≡ 1) (λ p. (j ≡ m) × (at b p ≡ w) × (root ps p ≡ q)) (at_only m q j) 6 _ h)

  -- and all of them.
  pub gathered_all : (es : List ℕ) → length b.cells ≡ b.wide * b.wide → (m q j : ℕ) → q < 361 → j < m → get_or es j 0 < length b.cells →
      Meets b w ps q (get_or es j 0) → bit j (get_or (gathered b w ps es m) q 0) ≡ 1
  unfolding gathered
  gathered_all es square zero q j small l on meets = absurd (omega arith)
  gathered_all es square (suc m) q j small l on meets =
      ⊎_elim
      (λ is. subst (λ x. bit x (get_or (gathered b w ps es (suc m)) q 0) ≡ 1) (sym is) (newest q small (subst (λ x. get_or es x 0 < length b.cells) is on) (subst (λ x. Meets b w ps q (get_or es x 0)) is meets)))
      (λ apart. all_old m (get_or es m 0) q j (gathered b w ps es m) (enter_old m (get_or es m 0) (gathered b w ps es m) q j (gathered_all es square m q j small (omega arith) on meets)))
      (cases_eq j m)
    where
      newest : (q : ℕ) → q < 361 → get_or es m 0 < length b.cells → Meets b w ps q (get_or es m 0) →
          bit m (get_or (entered_all b w ps m (get_or es m 0) (gathered b w ps es m)) q 0) ≡ 1
      newest q small on (inl is) =
          all_old m (get_or es m 0) q m (gathered b w ps es m)
          (subst (λ x. bit m (get_or (enter m (get_or es m 0) (gathered b w ps es m)) x 0) ≡ 1) is (enter_new m (get_or es m 0) (gathered b w ps es m) (omega (arith, gathered_long es m))))
      newest q small on (inr (p, near, stone, here)) =
          over_new (entered_at b w ps m) (neighbour_of b.wide (get_or es m 0)) (λ s. bit m (get_or s q 0) ≡ 1) (at_old m q m) 6 _
          (neighbour_all b.wide (get_or es m 0) p (omega arith) (omega (arith, stone.0)) near)
          (λ k. subst (λ x. bit m (get_or (entered_at b w ps m (Some p) (over (entered_at b w ps m) (neighbour_of b.wide (get_or es m 0)) k (enter m (get_or es m 0) (gathered b w ps es m)))) x 0) ≡ 1) here
          (at_new m p _ stone.1 (omega (arith, all_long m (get_or es m 0) (gathered b w ps es m) k (gathered_long es m)))))
