-- What lies around an empty cell, where the forest holds the groups of the board: the cells it is tied to, and the borders.
use Rattle.std.proofs.Common.{◌≡◌, ℕ, ◌*◌, ◌/◌, ◌^◌, ◌<◌, ◌≤◌, Bool, true, ◌≢◌, ◌⊎◌, List, length, get_or, Some, None, Decides, Option, sym, refl, ap, ◌∙◌, subst, inl, inr, ⊎_elim, arith}
use native.Mathlib.Nat.{zero-div}
use lib.Bits.{bit_or}
use Rattle.std.proofs.lemmas.Bool.{cases_eq, eq-eqb, ne_eqb}
use Rattle.hexboard.specs.Board.{Board, at, other, next_to}
use Rattle.hexboard.specs.Geometry.{neighbour_of, touch, over}
use Rattle.hexboard.specs.Promise.{Good}
use Rattle.hexboard.specs.Rows.{Stone}
use Rattle.hexboard.proofs.Boards.{good_at}
use Rattle.hexboard.proofs.Adjacent.{neighbour_next, neighbour_all, next_symmetric}
use Rattle.groups.specs.Forest.{Forest, root}
use Rattle.groups.proofs.Chains.{first_own, last_own, and_then}
use Rattle.groups.proofs.Climbs.{climb_root}
use Rattle.groups.proofs.Marks.{Has, has_left, has_right, has_either}
use Rattle.groups.proofs.Placing.{stone_here}
use Rattle.groups.proofs.Positions.{Holds, no_empty}
use Rattle.groups.proofs.Spanning.{same_root, one_root}
use Rattle.ranking.specs.Sets.{bit}
use Rattle.ranking.proofs.Bits.{bit_none, in_or, or_left, or_right}
use Rattle.endgame.specs.Ends.{Numbered}
use Rattle.endgame.specs.Gathering.{gathered, joined_at, by_root, near_at, borders_at}
use Rattle.endgame.specs.Linked.{Tied, direct, through, Bound, own, across}
use Rattle.endgame.proofs.Gathered.{over_only, over_old, over_new, Meets, gathered_only, gathered_all}

-- A way to tell what is in a set: `In` holds of a union just if it holds of one of the two.
record OfUnions (In : ℕ → Type 0) : Type 0 where
  pub either : (x y : ℕ) → In (bit_or x y) → In x ⊎ In y
  pub left : (x y : ℕ) → In x → In (bit_or x y)
  pub right : (x y : ℕ) → In y → In (bit_or x y)

bits : (j : ℕ) → OfUnions (λ x. bit j x ≡ 1)
bits j = record { either = in_or j; left = or_left j; right = or_right j }

border_bits : (t : ℕ) → OfUnions (Has t)
border_bits t = record { either = has_either t; left = has_left t; right = has_right t }

-- What a neighbour adds to a set.
module _ (b : Board) (w : ℕ) (ps : List ℕ) (f : ℕ → ℕ) {In : ℕ → Type 0} (unions : OfUnions In) where
  join_only : (o : Option ℕ) (x : ℕ) → In (joined_at b w ps f o x) → In x ⊎ ((p : ℕ) × (o ≡ Some p) × ((at b p ≢ other w) × In (f (root ps p))))
  join_only None x h = inl h
  join_only (Some p) x h = ⊎_elim
      (λ e. inl (rw (eq-eqb (at b p) (other w) e) at h))
      (λ n. ⊎_elim inl (λ new. inr (p, refl, (n, new))) (unions.either x (f (root ps p)) (rw (ne_eqb (at b p) (other w) n) at h)))
      (cases_eq (at b p) (other w))

  join_old : (o : Option ℕ) (x : ℕ) → In x → In (joined_at b w ps f o x)
  join_old None x h = h
  join_old (Some p) x h = ⊎_elim
      (λ e. rw (eq-eqb (at b p) (other w) e) h)
      (λ n. rw (ne_eqb (at b p) (other w) n) (unions.left x (f (root ps p)) h))
      (cases_eq (at b p) (other w))

  -- Around cell i: what was there at first, and what the roots of the neighbours have that are not of the other side.
  around_only : (i x : ℕ) → In (over (joined_at b w ps f) (neighbour_of b.wide i) 6 x) →
      In x ⊎ ((p : ℕ) × (next_to b.wide i p ≡ true) × (at b p ≢ other w) × In (f (root ps p)))
  around_only i x h =
      ⊎_elim inl (λ (p, (d, _, e), (isnt, has)). inr (p, neighbour_next b.wide i d p e, isnt, has))
      (over_only (joined_at b w ps f) (neighbour_of b.wide i) In (λ p. (at b p ≢ other w) × In (f (root ps p))) join_only 6 x h)

  around_old : (i x : ℕ) → In x → In (over (joined_at b w ps f) (neighbour_of b.wide i) 6 x)
  around_old i x h = over_old (joined_at b w ps f) (neighbour_of b.wide i) In join_old 6 x h

  around_new : (i x p : ℕ) → i < b.wide * b.wide → p < b.wide * b.wide → next_to b.wide i p ≡ true → at b p ≢ other w → In (f (root ps p)) →
      In (over (joined_at b w ps f) (neighbour_of b.wide i) 6 x)
  around_new i x p l m near isnt h =
      over_new (joined_at b w ps f) (neighbour_of b.wide i) In join_old 6 x (neighbour_all b.wide i p l m near)
      (λ k. rw (ne_eqb (at b p) (other w) isnt) (unions.right _ (f (root ps p)) h))

-- A board of at most 361 cells, the groups of its stones, and its empty cells numbered.
module _ (b : Board) (f : Forest) (g : Holds b f) (small : length b.cells ≤ 361) (good : Good b) (w : ℕ) (side : (w ≡ 1) ⊎ (w ≡ 2)) (es : List ℕ) (num : Numbered b es) where
  square : length b.cells ≡ b.wide * b.wide
  square = good.1

  abbrev ps : List ℕ
  ps = f.parents

  abbrev sets : List ℕ
  sets = gathered b w ps es (length es)

  a_side : w ≢ 0
  a_side = no_empty w side

  -- a neighbour that is not of the other side is empty and its own root, or a stone of the side
  sorted : (p : ℕ) → at b p ≢ other w → ((at b p ≡ 0) × (root ps p ≡ p)) ⊎ Stone b w p
  sorted p isnt = ⊎_elim
      (λ none. inl (none, climb_root ps (length ps) p (g.lone p none).0))
      (λ some. inr (stone_here b w p a_side (omega (arith, good_at b p good))))
      (cases_eq (at b p) 0)

  -- the root of a stone is a stone
  root_stone : (p : ℕ) → Stone b w p → Stone b w (root ps p)
  root_stone p o = last_own (next_to b.wide) (g.hangs w p a_side o)

  -- an empty cell is no stone
  apart : (p q : ℕ) → at b p ≡ 0 → Stone b w q → p ≡ q → ⊥
  apart p q none o same = a_side (sym o.1 ∙ ap (at b) (sym same) ∙ none)

  not_other : (p : ℕ) → Stone b w p → at b p ≢ other w
  not_other p o e = omega (arith, o.1, side)

  module _ (i : ℕ) (on : i < length b.cells) where
    -- The cells around cell i are those that it is tied to.
    tied : (p j : ℕ) → j < length es → next_to b.wide i p ≡ true → ((at b p ≡ 0) × (root ps p ≡ p)) ⊎ Stone b w p → Meets b w ps (root ps p) (get_or es j 0) → Tied b w i (get_or es j 0)
    tied p j l near (inl (none, top)) (inl is) = direct (subst (λ e. next_to b.wide i e ≡ true) (sym (is ∙ top)) near)
    tied p j l near (inl (none, top)) (inr (q, next, o, here)) = absurd (apart p (root ps q) none (root_stone q o) (sym (here ∙ top)))
    tied p j l near (inr o) (inl is) = absurd (apart (get_or es j 0) (root ps p) (num.empty j l) (root_stone p o) is)
    tied p j l near (inr o) (inr (q, next, o', here)) =
        through near ((same_root (next_symmetric b.wide) g w p q a_side o o').0 (sym here)) (next_symmetric b.wide (get_or es j 0) q next)

    pub near_only : (j : ℕ) → bit j (near_at b w ps sets i) ≡ 1 → (j < length es) × Tied b w i (get_or es j 0)
    near_only j h = ⊎_elim
        (λ none. absurd (omega (arith, bit_none j)))
        (λ (p, near, isnt, has). let (l, meets) = gathered_only b w a_side ps es (length es) (root ps p) j has in (l, tied p j l near (sorted p isnt) meets))
        (around_only b w ps (by_root sets) (bits j) i 0 h)

    -- whatever it meets at the root of a neighbour is near
    meets_near : (p j : ℕ) → j < length es → next_to b.wide i p ≡ true → p < length b.cells → at b p ≢ other w → root ps p < length b.cells →
        Meets b w ps (root ps p) (get_or es j 0) → bit j (near_at b w ps sets i) ≡ 1
    meets_near p j l near inside isnt top meets =
        around_new b w ps (by_root sets) (bits j) i 0 p (omega (arith, square)) (omega (arith, square)) near isnt
        (gathered_all b w a_side ps es square (length es) (root ps p) j (omega arith) l (num.inside j l) meets)

    pub near_all : (j : ℕ) → j < length es → Tied b w i (get_or es j 0) → bit j (near_at b w ps sets i) ≡ 1
    near_all j l (direct near) =
        let none = num.empty j l in
        let top : root ps (get_or es j 0) ≡ get_or es j 0 = climb_root ps (length ps) (get_or es j 0) (g.lone (get_or es j 0) none).0 in
        meets_near (get_or es j 0) j l near (num.inside j l) (λ e. omega (arith, side)) (omega (arith, num.inside j l)) (inl (sym top))
    near_all j l (through {p = p} {q = q} near row next) =
        let o = first_own (next_to b.wide) row in
        meets_near p j l near o.0 (not_other p o) (root_stone p o).0
        (inr (q, next_symmetric b.wide q (get_or es j 0) next, last_own (next_to b.wide) row, sym (one_root (next_symmetric b.wide) g w a_side row)))

    -- Its border bits are those of the borders to which it is bound.
    pub bound_only : (t : ℕ) (border : ℕ → Bool) → ((q : ℕ) → Decides (border q) (Has t (touch b.wide w q))) →
        Has t (borders_at b w ps f.borders i) → Bound b w border i
    bound_only t border tells h = ⊎_elim
        (λ first. own ((tells i).1 first))
        (λ (p, near, isnt, has). ⊎_elim
        (λ (none, top). absurd (no_bit (get_or f.borders (root ps p) 0) (ap (λ q. get_or f.borders q 0) top ∙ (g.lone p none).1) has))
        (λ o. let (q, row, touches) = g.seen w (root ps p) t a_side (root_stone p o) has in across near (and_then (next_to b.wide) (g.hangs w p a_side o) row) ((tells q).1 touches))
        (sorted p isnt))
        (around_only b w ps (by_root f.borders) (border_bits t) i (touch b.wide w i) h)
      where
        no_bit : (v : ℕ) → v ≡ 0 → Has t v → ⊥
        no_bit v e h = omega (arith, ap (λ u. u / 2 ^ t) e, zero-div (2 ^ t))

    pub bound_all : (t : ℕ) (border : ℕ → Bool) → ((q : ℕ) → Decides (border q) (Has t (touch b.wide w q))) →
        Bound b w border i → Has t (borders_at b w ps f.borders i)
    bound_all t border tells (own is) = around_old b w ps (by_root f.borders) (border_bits t) i (touch b.wide w i) ((tells i).0 is)
    bound_all t border tells (across {p = p} {q = q} near row is) =
        let o = first_own (next_to b.wide) row in
        around_new b w ps (by_root f.borders) (border_bits t) i (touch b.wide w i) p (omega (arith, square)) (omega (arith, square, o.0)) near (not_other p o)
        (subst (λ r. Has t (get_or f.borders r 0)) (sym (one_root (next_symmetric b.wide) g w a_side row)) (g.shows w q t a_side (last_own (next_to b.wide) row) ((tells q).0 is)))
