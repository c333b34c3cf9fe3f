-- A stone comes to an empty cell: it stands alone first, then meets its neighbours one by one, for any nearness and any borders.
use Rattle.std.proofs.Common.{◌≡◌, ℕ, zero, suc, ◌+◌, ◌<◌, Bool, true, eqb, ◌≢◌, ◌⊎◌, List, length, get_or, set, Some, None, Option, sym, refl, ap, ◌∙◌, subst, subst₂, inl, inr, ⊎_elim, arith, if◌then◌else◌}
use Rattle.std.proofs.lemmas.List.{length-set, get_or-set_same, get_or-set_other, get_or_past}
use Rattle.std.proofs.lemmas.Bool.{cases_eq, cases_lt, eq-eqb, ne_eqb}
use Rattle.std.proofs.lemmas.Option.{none-some, same_Some}
use Rattle.hexboard.specs.Board.{Board, at, put}
use Rattle.hexboard.specs.Geometry.{over}
use Rattle.hexboard.specs.Rows.{Chain, here, Stone}
use Rattle.hexboard.proofs.Given.{over_end, over_met}
use Rattle.groups.specs.Forest.{Forest, parent, root, join, take_in, adopt, alone}
use Rattle.groups.proofs.Chains.{last_own, carried}
use Rattle.groups.proofs.Climbs.{Rooted, climb_root}
use Rattle.groups.proofs.Marks.{Has}
use Rattle.groups.proofs.Joining.{Groups, now_met, join_meets}

-- stones of one side stand on cells i and j, which are near each other
abbrev pub Touching : (ℕ → ℕ → Bool) → Board → ℕ → ℕ → Type 0
Touching near b i j = (t : ℕ) × (t ≢ 0) × Stone b t i × Stone b t j × (near i j ≡ true)

-- the forest's groups are those of the board: any two stones of a side that are near each other have met
abbrev pub Grouped : (ℕ → ℕ → Bool) → (ℕ → ℕ → ℕ) → Board → Forest → Type 0
Grouped near bits b f = Groups near bits b (Touching near b) f

-- One more neighbour is looked at: there is none, it is a stone of side s, or it is not.
module _ (b : Board) (s x : ℕ) (next : ℕ → Option ℕ) (f h : Forest) where
  pub adopt_end : (k : ℕ) → next k ≡ None → h ≡ adopt b s x next k f → h ≡ adopt b s x next (k + 1) f
  adopt_end = over_end (take_in b s x) (λ g. refl) next f h

  module _ (k : ℕ) (y : ℕ) (is : next k ≡ Some y) (so_far : h ≡ adopt b s x next k f) where
    pub adopt_stone : (r : ℕ) (new : Forest) → at b y ≡ s → r ≡ root h.parents y → new ≡ join r x h → new ≡ adopt b s x next (k + 1) f
    adopt_stone r new own up t =
        over_met (take_in b s x) next k f h new y is so_far
        (t ∙ ap (λ q. join q x h) up ∙ ap (λ c. if c then join (root h.parents y) x h else h) (sym (eq-eqb (at b y) s own)))

    pub adopt_other : (at b y ≡ s → ⊥) → h ≡ adopt b s x next (k + 1) f
    adopt_other isnt = over_met (take_in b s x) next k f h h y is so_far (ap (λ c. if c then join (root h.parents y) x h else h) (sym (ne_eqb (at b y) s isnt)))

-- Only what lies next to x is looked at: boards that are the same there are the same to it.
pub adopt_alike : (b c : Board) (s x : ℕ) (next : ℕ → Option ℕ) → ((k y : ℕ) → next k ≡ Some y → at b y ≡ at c y) →
    (m : ℕ) (f : Forest) → adopt b s x next m f ≡ adopt c s x next m f
unfolding over
adopt_alike b c s x next same zero f = refl
adopt_alike b c s x next same (suc m) f = look (next m) refl ∙ ap (take_in c s x (next m)) (adopt_alike b c s x next same m f)
  where
    look : (o : Option ℕ) → next m ≡ o → take_in b s x o (adopt b s x next m f) ≡ take_in c s x o (adopt b s x next m f)
    look None e = refl
    look (Some y) e = ap (λ v. if eqb v s then join (root (adopt b s x next m f).parents y) x (adopt b s x next m f) else adopt b s x next m f) (same m y e)

-- Only cells of the board hold stones.
pub stone_here : (b : Board) (s y : ℕ) → s ≢ 0 → at b y ≡ s → Stone b s y
stone_here b s y side e =
    ⊎_elim (λ l. (l, e)) (λ past. absurd (side (sym e ∙ get_or_past b.cells y 0 past))) (cases_lt y (length b.cells))

-- A stone of side s on the empty cell x.
module _ (b : Board) (s x : ℕ) (side : s ≢ 0) (on : x < length b.cells) (free : at b x ≡ 0) where
  pub placed : Stone (put b s x) s x
  placed = (rw length-set on, get_or-set_same b.cells x s 0 on)

  -- An empty cell is no stone's.
  pub not_taken : (t i : ℕ) → t ≢ 0 → Stone b t i → i ≢ x
  not_taken t i n h e = n (sym h.1 ∙ ap (at b) e ∙ free)

  -- What stood elsewhere stands there still.
  pub kept : (t i : ℕ) → t ≢ 0 → Stone b t i → Stone (put b s x) t i
  kept t i n h = (rw length-set h.0, get_or-set_other b.cells x i s 0 (not_taken t i n h) ∙ h.1)

  -- A stone is the new one, or stood there before.
  pub new_or_old : (t i : ℕ) → Stone (put b s x) t i → ((i ≡ x) × (t ≡ s)) ⊎ ((i ≢ x) × Stone b t i)
  new_or_old t i h =
      ⊎_elim
      (λ e. inl (e, sym h.1 ∙ ap (at (put b s x)) e ∙ placed.1))
      (λ d. inr (d, (rw length-set at h.0, sym (get_or-set_other b.cells x i s 0 d) ∙ h.1)))
      (cases_eq i x)

  -- A cell that is empty now is another, and was empty.
  pub empty_still : (i : ℕ) → at (put b s x) i ≡ 0 → (i ≢ x) × (at b i ≡ 0)
  empty_still i e =
      let other : i ≢ x = λ same. side (sym placed.1 ∙ ap (at (put b s x)) (sym same) ∙ e) in
      (other, sym (get_or-set_other b.cells x i s 0 other) ∙ e)

  -- What holds of the new stone and of each old one holds of every stone.
  pub each_stone : (P : ℕ → ℕ → Type 0) → P s x → ((t i : ℕ) → t ≢ 0 → Stone b t i → P t i) → (t i : ℕ) → t ≢ 0 → Stone (put b s x) t i → P t i
  each_stone P new old t i n h =
      ⊎_elim (λ e. subst₂ P (sym e.1) (sym e.0) new) (λ o. old t i n o.1) (new_or_old t i h)

  module _ {near : ℕ → ℕ → Bool} {bits : ℕ → ℕ → ℕ} {f : Forest} (g : Grouped near bits b f) where
    abbrev ps : List ℕ
    ps = f.parents

    abbrev bs : List ℕ
    bs = set f.borders x (bits s x)

    bits_new : get_or bs x 0 ≡ bits s x
    bits_new = get_or-set_same f.borders x (bits s x) 0 (omega (arith, g.bits_each))

    root_new : root ps x ≡ x
    root_new = climb_root ps _ x (g.lone x free).0

    -- No stone's bits have changed but the new one's.
    bits_old : (t i : ℕ) → t ≢ 0 → Stone b t i → get_or bs i 0 ≡ get_or f.borders i 0
    bits_old t i n h = get_or-set_other f.borders x i (bits s x) 0 (not_taken t i n h)

    -- The new stone alone: all that was known of the others is still so.
    alone_groups : Groups near bits (put b s x) (Touching near b) (alone x (bits s x) f)
    alone_groups =
        record {
          parent_each = g.parent_each ∙ sym (length-set b.cells x s);
          bits_each = length-set f.borders x _ ∙ g.bits_each ∙ sym (length-set b.cells x s);
          ends = g.ends;
          hangs =
              each_stone (λ t i. Chain near (Stone (put b s x) t) i (root ps i)) (here placed (sym root_new))
              (λ t i n h. carried near (λ j. kept t j n) (g.hangs t i n h));
          meets = g.meets;
          lone = λ i e.
              let o = empty_still i e in
              ((g.lone i o.1).0, get_or-set_other f.borders x i (bits s x) 0 o.0 ∙ (g.lone i o.1).1);
          shows = λ t i k.
              λ n h.
              each_stone (λ t i. Has k (bits t i) → Has k (get_or bs (root ps i) 0))
              (λ m. rw (root_new, bits_new) m)
              (λ t i n h m. rw (bits_old t (root ps i) n (last_own near (g.hangs t i n h))) (g.shows t i k n h m))
              t i n h;
          seen = λ t i k.
              λ n h.
              each_stone (λ t i. Has k (get_or bs i 0) → (j : ℕ) × Chain near (Stone (put b s x) t) i j × Has k (bits t j))
              (λ m. (x, here placed refl, rw bits_new at m))
              (λ t i n h m.
              let (j, row, is) = g.seen t i k n h (rw (bits_old t i n h) at m) in
              (j, carried near (λ c. kept t c n) row, is))
              t i n h;
        }

    module _ (both_ways : (i j : ℕ) → near i j ≡ true → near j i ≡ true) (next : ℕ → Option ℕ) (leads : (k y : ℕ) → next k ≡ Some y → near x y ≡ true) where
      -- cells that have met once the first m neighbours of x have been looked at
      abbrev Adopted : ℕ → ℕ → ℕ → Type 0
      Adopted m i j = Touching near b i j ⊎ ((k : ℕ) × (k < m) × (next k ≡ Some i) × Stone b s i × (j ≡ x))

      -- the groups then, with x a root
      abbrev Growing : ℕ → Forest → Type 0
      Growing m h = Groups near bits (put b s x) (Adopted m) h × (parent h.parents x ≡ x)

      -- One neighbour more has been looked at, and nothing is new where it is no stone of side s.
      nothing_new : (m : ℕ) (h : Forest) → ((y : ℕ) → next m ≡ Some y → Stone b s y → ⊥) → Growing m h → Growing (suc m) h
      nothing_new m h none (w, top) = (now_met w old, top)
        where
          old : (i j : ℕ) → Adopted (suc m) i j → root h.parents i ≡ root h.parents j
          old i j (inl t) = w.meets i j (inl t)
          old i j (inr (k, l, e, o, q)) =
              ⊎_elim (λ same. absurd (none i (ap next (sym same) ∙ e) o)) (λ d. w.meets i j (inr (k, omega arith, e, o, q))) (cases_eq k m)

      -- A neighbour that is a stone of side s has met x.
      one_met : (m y : ℕ) (h : Forest) → next m ≡ Some y → Stone b s y → Growing m h → Growing (suc m) (join (root h.parents y) x h)
      one_met m y h e o (w, top) = (now_met more.0 new, more.1)
        where
          more : Groups near bits (put b s x) (λ i j. Adopted m i j ⊎ ((i ≡ y) × (j ≡ x))) (join (root h.parents y) x h)
              × (parent (join (root h.parents y) x h).parents x ≡ x)
          more = join_meets both_ways w s x y side placed (kept s y side o) (both_ways x y (leads m y e)) top

          new : (i j : ℕ) → Adopted (suc m) i j → root (join (root h.parents y) x h).parents i ≡ root (join (root h.parents y) x h).parents j
          new i j (inl t) = more.0.meets i j (inl (inl t))
          new i j (inr (k, l, q, o, z)) =
              ⊎_elim
              (λ same. more.0.meets i j (inr (same_Some _ _ (sym q ∙ ap next same ∙ e), z)))
              (λ d. more.0.meets i j (inl (inr (k, omega arith, q, o, z))))
              (cases_eq k m)

      one_more : (m : ℕ) (h : Forest) (o : Option ℕ) → next m ≡ o → Growing m h → Growing (suc m) (take_in b s x o h)
      one_more m h None e w = nothing_new m h (λ y q _. none-some y (sym e ∙ q)) w
      one_more m h (Some y) e w =
          ⊎_elim
          (λ is. subst (λ t. Growing (suc m) (if t then join (root h.parents y) x h else h)) (sym (eq-eqb (at b y) s is)) (one_met m y h e (stone_here b s y side is) w))
          (λ isnt.
          subst (λ t. Growing (suc m) (if t then join (root h.parents y) x h else h)) (sym (ne_eqb (at b y) s isnt))
          (nothing_new m h (λ z q o. isnt (ap (at b) (same_Some _ _ (sym e ∙ q)) ∙ o.1)) w))
          (cases_eq (at b y) s)

      growing : (m : ℕ) → Growing m (adopt b s x next m (alone x (bits s x) f))
      unfolding over
      growing zero = (now_met alone_groups (λ i j. ⊎_elim (g.meets i j) (λ a. omega (arith, a.1))), (g.lone x free).0)
      growing (suc m) = one_more m _ (next m) refl (growing m)

      -- At no time is there a way up that does not end.
      pub growing_ends : (m : ℕ) → Rooted (adopt b s x next m (alone x (bits s x) f)).parents
      growing_ends m = (growing m).0.ends

      module _ (m : ℕ) (all : (y : ℕ) → y < length b.cells → near x y ≡ true → (k : ℕ) × (k < m) × (next k ≡ Some y)) where
        abbrev after : Forest
        after = adopt b s x next m (alone x (bits s x) f)

        -- The new stone is the root of its group.
        pub placed_top : parent after.parents x ≡ x
        placed_top = (growing m).1

        -- An old stone of side s near x has met it.
        met_new : (i : ℕ) → Stone b s i → near x i ≡ true → root after.parents i ≡ root after.parents x
        met_new i o n = let (k, l, e) = all i o.0 n in (growing m).0.meets i x (inr (k, l, e, o, refl))

        met_all : (i j : ℕ) → Touching near (put b s x) i j → root after.parents i ≡ root after.parents j
        met_all i j (t, n, o, p, c) = go (new_or_old t i o) (new_or_old t j p)
          where
            go : ((i ≡ x) × (t ≡ s)) ⊎ ((i ≢ x) × Stone b t i) → ((j ≡ x) × (t ≡ s)) ⊎ ((j ≢ x) × Stone b t j) → root after.parents i ≡ root after.parents j
            go (inl u) (inl v) = ap (root after.parents) (u.0 ∙ sym v.0)
            go (inl u) (inr v) = ap (root after.parents) u.0 ∙ sym (met_new j (v.1.0, v.1.1 ∙ u.1) (rw u.0 at c))
            go (inr u) (inl v) = met_new i (u.1.0, u.1.1 ∙ v.1) (both_ways i x (rw v.0 at c)) ∙ ap (root after.parents) (sym v.0)
            go (inr u) (inr v) = (growing m).0.meets i j (inl (t, n, u.1, v.1, c))

        -- The groups are those of the board with the new stone.
        pub placed_groups : Grouped near bits (put b s x) after
        placed_groups = now_met (growing m).0 met_all
