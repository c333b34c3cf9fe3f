-- What holds of a forest whose groups are those of a board's stones, for any nearness and any borders, and what one join does.
use Rattle.std.proofs.Common.{◌≡◌, ℕ, ◌<◌, Bool, true, ◌≢◌, ◌⊎◌, List, length, get_or, set, sym, refl, ap, ◌∙◌, subst, inl, inr, ⊎_elim, arith}
use lib.Bits.{bit_or, or_self}
use Rattle.std.proofs.lemmas.List.{length-set, get_or-set_same, get_or-set_other, set-get_or}
use Rattle.std.proofs.lemmas.Bool.{cases_eq}
use Rattle.hexboard.specs.Board.{Board, at}
use Rattle.hexboard.specs.Rows.{Chain, here, step, Stone}
use Rattle.groups.specs.Forest.{Forest, parent, root, join}
use Rattle.groups.proofs.Chains.{last_own, and_then, turned}
use Rattle.groups.proofs.Climbs.{Rooted, climb_root, root_top, rerooted, rerooted_same, rerooted_other, join_top, rooted_join, root_join}
use Rattle.groups.proofs.Marks.{Has, has_left, has_right, has_either}

-- The forest's groups are rows of stones of board b that hang together, where cells are near each other by `near`, and cell i touches
-- the borders `bits t i` of side t. Cells i and j of which `Met i j` holds are known to be in one group.
pub record Groups (near : ℕ → ℕ → Bool) (bits : ℕ → ℕ → ℕ) (b : Board) (Met : ℕ → ℕ → Type 0) (f : Forest) : Type 0 where
  pub parent_each : length f.parents ≡ length b.cells
  pub bits_each : length f.borders ≡ length b.cells
  pub ends : Rooted f.parents
  -- a row of stones leads from each stone to its root
  pub hangs : (t i : ℕ) → t ≢ 0 → Stone b t i → Chain near (Stone b t) i (root f.parents i)
  pub meets : (i j : ℕ) → Met i j → root f.parents i ≡ root f.parents j
  -- an empty cell is its own parent, and has no bits
  pub lone : (i : ℕ) → at b i ≡ 0 → (parent f.parents i ≡ i) × (get_or f.borders i 0 ≡ 0)
  -- a border that a stone touches shows at its root
  pub shows : (t i k : ℕ) → t ≢ 0 → Stone b t i → Has k (bits t i) → Has k (get_or f.borders (root f.parents i) 0)
  -- a border that shows at a stone is touched by a stone to which a row leads
  pub seen : (t i k : ℕ) → t ≢ 0 → Stone b t i → Has k (get_or f.borders i 0) → (j : ℕ) × Chain near (Stone b t) i j × Has k (bits t j)

-- A root joined to itself changes nothing.
pub join_itself : (r x : ℕ) (f : Forest) → parent f.parents x ≡ x → r ≡ x → join r x f ≡ f
join_itself r x f top e = λ i. record { parents = ps i; borders = bs i }
  where
    ps : set f.parents r x ≡ f.parents
    ps = ap (λ q. set f.parents q x) e ∙ ap (set f.parents x) (sym top) ∙ set-get_or f.parents x x

    bs : set f.borders x (bit_or (get_or f.borders x 0) (get_or f.borders r 0)) ≡ f.borders
    bs =
        ap (λ q. set f.borders x (bit_or (get_or f.borders x 0) (get_or f.borders q 0))) e
        ∙ ap (set f.borders x) (or_self (get_or f.borders x 0))
        ∙ set-get_or f.borders x 0

module _ {near : ℕ → ℕ → Bool} {bits : ℕ → ℕ → ℕ} {b : Board} {Met : ℕ → ℕ → Type 0} {f : Forest} (g : Groups near bits b Met f) where
  -- What else is known to have met can take the place of what was known.
  pub now_met : {New : ℕ → ℕ → Type 0} → ((i j : ℕ) → New i j → root f.parents i ≡ root f.parents j) → Groups near bits b New f
  now_met h =
      record { parent_each = g.parent_each; bits_each = g.bits_each; ends = g.ends; hangs = g.hangs; meets = h; lone = g.lone; shows = g.shows; seen = g.seen }

-- A stone of one side is not one of another.
one_side : (b : Board) (t s i j : ℕ) → Stone b t i → Stone b s j → i ≡ j → t ≡ s
one_side b t s i j h o e = sym h.1 ∙ ap (at b) e ∙ o.1

-- Stone y of side s, whose group has root r, is near stone x, another root: r is hung from x.
module _ {near : ℕ → ℕ → Bool} (both_ways : (i j : ℕ) → near i j ≡ true → near j i ≡ true) {bits : ℕ → ℕ → ℕ} {b : Board} {Met : ℕ → ℕ → Type 0} {f : Forest}
    (g : Groups near bits b Met f) (s x y : ℕ) (side : s ≢ 0) (on-x : Stone b s x) (on-y : Stone b s y) (touch : near y x ≡ true)
    (top : parent f.parents x ≡ x) where
  abbrev r : ℕ
  r = root f.parents y

  on_r : Stone b s r
  on_r = last_own near (g.hangs s y side on-y)

  to_x : Chain near (Stone b s) r x
  to_x = and_then near (turned near both_ways (g.hangs s y side on-y)) (step on-y touch (here on-x refl))

  abbrev all_met : ℕ → ℕ → Type 0
  all_met i j = Met i j ⊎ ((i ≡ y) × (j ≡ x))

  module _ (apart : x ≢ r) where
    abbrev ps : List ℕ
    ps = set f.parents r x

    abbrev bs : List ℕ
    bs = set f.borders x (bit_or (get_or f.borders x 0) (get_or f.borders r 0))

    in_ps : r < length f.parents
    in_ps = omega (arith, g.parent_each, on_r.0)

    new_root : (i : ℕ) → root ps i ≡ rerooted r x (root f.parents i)
    new_root i = root_join f.parents r x in_ps (root_top f.parents g.ends y) top apart g.ends i

    hangs_on : (t i : ℕ) → t ≢ 0 → Stone b t i → Chain near (Stone b t) i (root ps i)
    hangs_on t i n h =
        ⊎_elim
        (λ e.
        let q : t ≡ s = one_side b t s _ r (last_own near (g.hangs t i n h)) on_r e in
        rw (new_root i ∙ rerooted_same r x _ e)
        (subst (λ u. Chain near (Stone b u) i x) (sym q) (and_then near (subst (Chain near (Stone b s) i) e (g.hangs s i side (h.0, h.1 ∙ q))) to_x)))
        (λ d. rw (new_root i ∙ rerooted_other r x _ d) (g.hangs t i n h))
        (cases_eq (root f.parents i) r)

    meets_too : (i j : ℕ) → all_met i j → root ps i ≡ root ps j
    meets_too i j (inl m) = new_root i ∙ ap (rerooted r x) (g.meets i j m) ∙ sym (new_root j)
    meets_too i j (inr m) =
        new_root i ∙ rerooted_same r x _ (ap (root f.parents) m.0)
        ∙ sym (new_root j ∙ ap (rerooted r x) (ap (root f.parents) m.1 ∙ climb_root f.parents _ x top) ∙ rerooted_other r x x apart)

    not_empty : (i j : ℕ) → at b i ≡ 0 → Stone b s j → i ≢ j
    not_empty i j e o same = side (sym o.1 ∙ ap (at b) (sym same) ∙ e)

    lone_still : (i : ℕ) → at b i ≡ 0 → (parent ps i ≡ i) × (get_or bs i 0 ≡ 0)
    lone_still i e =
        (get_or-set_other f.parents r i x i (not_empty i r e on_r) ∙ (g.lone i e).0, get_or-set_other f.borders x i _ 0 (not_empty i x e on-x) ∙ (g.lone i e).1)

    in_bs : x < length f.borders
    in_bs = omega (arith, g.bits_each, on-x.0)

    bits_of_x : get_or bs x 0 ≡ bit_or (get_or f.borders x 0) (get_or f.borders r 0)
    bits_of_x = get_or-set_same f.borders x _ 0 in_bs

    marks : (q k : ℕ) → Has k (get_or f.borders q 0) → Has k (get_or bs (rerooted r x q) 0)
    marks q k h =
        ⊎_elim
        (λ e. rw (rerooted_same r x q e, bits_of_x) (has_right k _ _ (rw e at h)))
        (λ d.
        rw (rerooted_other r x q d)
        (⊎_elim
        (λ e. subst (λ p. Has k (get_or bs p 0)) (sym e) (rw bits_of_x (has_left k _ _ (rw e at h))))
        (λ c. rw (get_or-set_other f.borders x q _ 0 c) h)
        (cases_eq q x)))
        (cases_eq q r)

    seen_at_x : (k : ℕ) → Has k (get_or bs x 0) → (j : ℕ) × Chain near (Stone b s) x j × Has k (bits s j)
    seen_at_x k m =
        ⊎_elim (g.seen s x k side on-x)
        (λ h. let (j, row, is) = g.seen s r k side on_r h in (j, and_then near (turned near both_ways to_x) row, is))
        (has_either k _ _ (rw bits_of_x at m))

    seen_at : (t i k : ℕ) → t ≢ 0 → Stone b t i → Has k (get_or bs i 0) → (j : ℕ) × Chain near (Stone b t) i j × Has k (bits t j)
    seen_at t i k n h m =
        ⊎_elim
        (λ e.
        subst (λ u. (j : ℕ) × Chain near (Stone b u) i j × Has k (bits u j)) (sym (one_side b t s i x h on-x e))
        (subst (λ p. (j : ℕ) × Chain near (Stone b s) p j × Has k (bits s j)) (sym e) (seen_at_x k (subst (λ p. Has k (get_or bs p 0)) e m))))
        (λ d. g.seen t i k n h (rw (get_or-set_other f.borders x i _ 0 d) at m))
        (cases_eq i x)

    -- After the join y and x have met too.
    joined : Groups near bits b all_met (join r x f)
    joined =
        record {
          parent_each = length-set f.parents r x ∙ g.parent_each;
          bits_each = length-set f.borders x _ ∙ g.bits_each;
          ends = rooted_join f.parents r x in_ps (root_top f.parents g.ends y) top apart g.ends;
          hangs = hangs_on;
          meets = meets_too;
          lone = lone_still;
          shows = λ t i k n h m. rw (new_root i) (marks (root f.parents i) k (g.shows t i k n h m));
          seen = seen_at;
        }

  -- A stone's group joined to x has met it, and x is still a root.
  pub join_meets : Groups near bits b all_met (join r x f) × (parent (join r x f).parents x ≡ x)
  join_meets =
      ⊎_elim
      (λ e.
      subst (λ h. Groups near bits b all_met h × (parent h.parents x ≡ x)) (sym (join_itself r x f top (sym e)))
      (now_met g (λ i j. ⊎_elim (g.meets i j) (λ m. ap (root f.parents) m.0 ∙ sym e ∙ sym (climb_root f.parents _ x top) ∙ ap (root f.parents) (sym m.1))), top))
      (λ d. (joined d, join_top f.parents r x (in_ps d) (root_top f.parents g.ends y) top d))
      (cases_eq x r)
