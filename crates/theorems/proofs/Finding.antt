-- The search finds a way just if there is one: a way may be cut short until no stone stands in it twice, and then the search meets it.
use Rattle.std.proofs.Common.{◌≡◌, ℕ, zero, suc, ◌+◌, ◌<◌, ◌≤◌, Bool, true, ◌&&◌, ◌||◌, eqb, ◌≢◌, ◌⊎◌, List, [], ◌∷◌, length, get_or, set, Decides, sym, ap, ◌∙◌, subst, inl, inr, ⊎_elim, arith}
use Rattle.std.proofs.lemmas.List.{length-set, get_or-set_same, get_or-set_other, set-set, set-get_or}
use Rattle.std.proofs.lemmas.Bool.{false≢true, and_parts, and_from, or_cases, or_left, or_right, eqb-true, eq-eqb, cases_eq}
use Rattle.hexboard.specs.Board.{Board, at, next_to, begins, ends, goes_on, is_way, Connects, empties, put}
use Rattle.hexboard.specs.Rows.{Stone}
use Rattle.hexboard.proofs.Boards.{empties_few, empties_set}
use Rattle.theorems.proofs.Ways.{goes_on_parts, goes_on_from, way_parts, way_from}
use Rattle.theorems.specs.Search.{some_below, finds, finds_way}

-- A test that holds of a number below n holds of some,
pub some_from : (test : ℕ → Bool) (n j : ℕ) → j < n → test j ≡ true → some_below test n ≡ true
unfolding some_below
some_from test zero j h e = absurd (omega arith)
some_from test (suc n) j h e =
    ⊎_elim
    (λ same. or_left (test n) (some_below test n) (ap test (sym same) ∙ e))
    (λ apart. or_right (test n) (some_below test n) (some_from test n j (omega arith) e))
    (cases_eq j n)

-- and if it holds of some, here is one.
some_parts : (test : ℕ → Bool) (n : ℕ) → some_below test n ≡ true → (j : ℕ) × (j < n) × (test j ≡ true)
unfolding some_below
some_parts test zero e = absurd (false≢true e)
some_parts test (suc n) e =
    ⊎_elim (λ here. (n, omega arith, here)) (λ later. let (j, h, t) = some_parts test n later in (j, omega arith, t)) (or_cases (test n) (some_below test n) e)

-- side s has stones, and cell j of the board is cleared
module _ (b : Board) (s j : ℕ) (side : s ≢ 0) where
  -- A stone on another cell stays when cell j is cleared,
  stone_stays : (h : ℕ) → h ≢ j → Stone b s h → Stone (put b 0 j) s h
  stone_stays h apart (on, is) = (rw length-set on, rw get_or-set_other is)

  -- and one that is left stood there before.
  stone_was : (h : ℕ) → Stone (put b 0 j) s h → Stone b s h
  stone_was h (on, is) =
      let inside : h < length b.cells = rw length-set at on in
      ⊎_elim
      (λ same. absurd (side (sym is ∙ ap (λ x. get_or (set b.cells j 0) x 0) same ∙ get_or-set_same b.cells j 0 0 (subst (λ x. x < length b.cells) same inside))))
      (λ apart. (inside, sym (get_or-set_other b.cells j h 0 0 apart) ∙ is))
      (cases_eq h j)

  -- What goes on with cell j cleared goes on as it was.
  went_on : (i : ℕ) (hs : List ℕ) → goes_on (put b 0 j) s i hs ≡ true → goes_on b s i hs ≡ true
  unfolding goes_on
  went_on i [] e = e
  went_on i (h ∷ hs) e =
      let (near, stone, on) = goes_on_parts (put b 0 j) s i h hs e in
      goes_on_from b s i h hs near (stone_was h stone) (went_on h hs on)

  -- What goes on does so without cell j, or comes to j a last time, and goes on from there without it.
  cut_short : (i : ℕ) (hs : List ℕ) → goes_on b s i hs ≡ true → (goes_on (put b 0 j) s i hs ≡ true) ⊎ ((rest : List ℕ) × (goes_on (put b 0 j) s j rest ≡ true))
  unfolding goes_on
  cut_short i [] e = inl e
  cut_short i (h ∷ hs) e =
      let (near, stone, on) = goes_on_parts b s i h hs e in
      ⊎_elim
      (λ without.
      ⊎_elim
      (λ same. inr (hs, subst (λ x. goes_on (put b 0 j) s x hs ≡ true) same without))
      (λ apart. inl (goes_on_from (put b 0 j) s i h hs near (stone_stays h apart stone) without))
      (cases_eq h j))
      (λ last. inr last)
      (cut_short h hs on)

  -- A stone taken off leaves one more empty cell.
  one_more_empty : Stone b s j → empties (set b.cells j 0) ≡ empties b.cells + 1
  one_more_empty (on, is) =
      let back : set (set b.cells j 0) j s ≡ b.cells = set-set b.cells j 0 s ∙ ap (set b.cells j) (sym is) ∙ set-get_or b.cells j 0 in
      let fewer = empties_set (set b.cells j 0) j s (rw length-set on) (get_or-set_same b.cells j 0 0 on) (omega arith) in
      omega (arith, ap empties back)

-- a row of stones from a cell that may be the first to the last border
pub record Leads (b : Board) (s : ℕ) (first : ℕ → Bool) : Type 0 where
  pub from : ℕ
  pub may : first from ≡ true
  pub stone : Stone b s from
  pub rest : List ℕ
  pub on : goes_on b s from rest ≡ true

-- The search finds such a row if it may look as far as there are stones,
meets : (k : ℕ) (b : Board) (s : ℕ) (first : ℕ → Bool) → s ≢ 0 → length b.cells ≤ k + empties b.cells → Leads b s first → finds k b s first ≡ true
unfolding finds goes_on
meets zero b s first side far way =
    let more = one_more_empty b s way.from side way.stone in
    let few = empties_few (set b.cells way.from 0) in
    absurd (omega (arith, length-set b.cells way.from 0))
meets (suc k) b s first side far way =
    let j = way.from in
    let c = put b 0 j in
    let more = one_more_empty b s j side way.stone in
    let long = length-set b.cells j 0 in
    let go : (rest : List ℕ) → goes_on c s j rest ≡ true → (ends b.wide s j || finds k c s (next_to b.wide j)) ≡ true =
    elim [
      | [] ↦ λ e. or_left (ends b.wide s j) (finds k c s (next_to b.wide j)) e
      | h ∷ hs ↦ λ e.
          let (near, stone, on) = goes_on_parts c s j h hs e in
          or_right (ends b.wide s j) (finds k c s (next_to b.wide j))
          (meets k c s (next_to b.wide j) side (omega arith) (record { from = h; may = near; stone = stone; rest = hs; on = on }))
    ]
    in
    some_from _ (length b.cells) j way.stone.0
    (and_from (eqb (at b j) s && first j) _
    (and_from (eqb (at b j) s) (first j) (eq-eqb (at b j) s way.stone.1) way.may)
    (⊎_elim (go way.rest) (λ (rest, on). go rest on) (cut_short b s j side j way.rest way.on)))

-- and what it finds is one.
met : (k : ℕ) (b : Board) (s : ℕ) (first : ℕ → Bool) → s ≢ 0 → finds k b s first ≡ true → Leads b s first
unfolding finds goes_on
met zero b s first side e = absurd (false≢true e)
met (suc k) b s first side e =
    let (j, inside, found) = some_parts _ (length b.cells) e in
    let (here, later) = and_parts (eqb (at b j) s && first j) _ found in
    let (is, may) = and_parts (eqb (at b j) s) (first j) here in
    let stone : Stone b s j = (inside, eqb-true (at b j) s is) in
    ⊎_elim
    (λ last. record { from = j; may = may; stone = stone; rest = []; on = last })
    (λ more.
    let way = met k (put b 0 j) s (next_to b.wide j) side more in
    record {
      from = j;
      may = may;
      stone = stone;
      rest = way.from ∷ way.rest;
      on = goes_on_from b s j way.from way.rest way.may (stone_was b s j side way.from way.stone) (went_on b s j side way.from way.rest way.on);
    })
    (or_cases (ends b.wide s j) _ later)

-- A way is a row of stones from the first border to the last.
way_leads : (b : Board) (s : ℕ) (is : List ℕ) → is_way b s is ≡ true → Leads b s (begins b.wide s)
unfolding is_way
way_leads b s [] e = absurd (false≢true e)
way_leads b s (i ∷ is) e =
    let (first, stone, on) = way_parts b s i is e in
    record { from = i; may = first; stone = stone; rest = is; on = on }

-- The search finds a way just if the side has connected.
pub finds_way_decides : (b : Board) (s : ℕ) → s ≢ 0 → Decides (finds_way b s) (Connects b s)
finds_way_decides b s side = (
  λ e.
      let way = met (length b.cells) b s (begins b.wide s) side e in
      (way.from ∷ way.rest, way_from b s way.from way.rest way.may way.stone way.on),
  λ (is, e). meets (length b.cells) b s (begins b.wide s) side (omega arith) (way_leads b s is e),
)
