-- The law of the links: with stones laid on the empty cells, a side has connected on the board just if its links join the borders.
use Rattle.std.proofs.Common.{◌≡◌, ℕ, ◌^◌, ◌<◌, true, ◌≢◌, ◌⊎◌, List, [], ◌∷◌, length, get_or, sym, refl, ap, ◌∙◌, subst, inl, inr, ⊎_elim, arith}
use Rattle.std.proofs.lemmas.Bool.{false≢true}
use Rattle.hexboard.specs.Board.{Board, at, next_to, begins, ends, goes_on, is_way, Connects}
use Rattle.hexboard.specs.Rows.{Chain, here, step, Stone, Row}
use Rattle.hexboard.proofs.Adjacent.{next_symmetric}
use Rattle.groups.proofs.Chains.{first_own, last_own, and_then, turned, carried}
use Rattle.groups.proofs.Ways.{goes_along}
use Rattle.theorems.proofs.Stones.{Side}
use Rattle.theorems.proofs.Ways.{goes_on_parts, way_parts, way_from}
use Rattle.ranking.specs.Sets.{bit}
use Rattle.ranking.proofs.Bits.{in_or_out, bit_none, cell_below}
use Rattle.endgame.specs.declared.links.Links.{Links}
use Rattle.endgame.specs.Floods.{Mutual, Touched, begun, onward, Joins}
use Rattle.endgame.specs.Linked.{Tied, direct, through, Bound, own, across, Linked}
use Rattle.endgame.specs.Ends.{Numbered}
use Rattle.endgame.specs.Ends.{mark, board_within, Describes}
use Rattle.endgame.proofs.Carried.{mark_stone, mark_other}
use Rattle.endgame.proofs.Laying.{Laid, laid, where_is}

-- a row from the first border to the last is a connection
row_connects : (b : Board) (w : ℕ) {i j : ℕ} → begins b.wide w i ≡ true → Row b w i j → ends b.wide w j ≡ true → Connects b w
row_connects b w {i} first row last =
    let (js, on) = goes_along b w row last in (i ∷ js, way_from b w i js first (first_own (next_to b.wide) row) on)

-- no way is without cells
no_way : (b : Board) (w : ℕ) → is_way b w [] ≡ true → ⊥
unfolding is_way
no_way b w e = false≢true e

-- ties go both ways
tied_back : {b : Board} {w i j : ℕ} → Tied b w i j → Tied b w j i
tied_back {b} {i = i} {j = j} (direct n) = direct (next_symmetric b.wide i j n)
tied_back {b} {i = i} {j = j} (through {p = p} {q = q} n row m) =
    through (next_symmetric b.wide q j m) (turned (next_to b.wide) (next_symmetric b.wide) row) (next_symmetric b.wide i p n)

-- Where a way over the stones of b and of x has come to, that began at the first border: a cell of x that the flood touches; a stone of
-- the board with a row back to the border; or one with a row back to a neighbour of a cell of x that the flood touches.
data Got (b : Board) (es : List ℕ) (w : ℕ) (l : Links) (x i : ℕ) : Type 0 where
  on_cell : (k : ℕ) → get_or es k 0 ≡ i → bit k x ≡ 1 → Touched l.near l.first x k → Got b es w l x i
  from_border : {p : ℕ} → begins b.wide w p ≡ true → Row b w p i → Got b es w l x i
  from_cell : {p : ℕ} (k : ℕ) → bit k x ≡ 1 → Touched l.near l.first x k → next_to b.wide (get_or es k 0) p ≡ true → Row b w p i → Got b es w l x i

module _ {b : Board} {es : List ℕ} (n : Numbered b es) (w : ℕ) (side : Side w) (l : Links) (h : Linked b es w l) where
  -- nearness goes both ways
  both : Mutual l.near
  both j k near =
      let (in-k, tied) = (h.near j (h.beyond j k near)).only k near in
      (h.near k in-k).all j (h.beyond j k near) (tied_back tied)

  module _ (x : ℕ) (fits : x < 2 ^ length es) where
    abbrev c : Board
    c = board_within b es w x 0

    laid_c : Laid b es (mark w x 0) c
    laid_c = laid n (mark w x 0)

    -- the stones of the side there are those of the board and those of x
    old : (i : ℕ) → Stone b w i → Stone c w i
    old i (on, is) =
        (omega (arith, laid_c.long), laid_c.off i (λ k m same. absurd (omega (arith, side, n.empty k m, ap (at b) same))) ∙ is)

    new : (k : ℕ) → bit k x ≡ 1 → Stone c w (get_or es k 0)
    new k i =
        let m = cell_below (length es) k x fits i in (omega (arith, laid_c.long, n.inside k m), laid_c.on k m ∙ mark_stone w x 0 k i)

    sorted : (i : ℕ) → Stone c w i → Stone b w i ⊎ ((k : ℕ) × (get_or es k 0 ≡ i) × (bit k x ≡ 1))
    sorted i (on, is) = go (where_is es i)
      where
        go : ((k : ℕ) × (k < length es) × (get_or es k 0 ≡ i)) ⊎ ((k : ℕ) → k < length es → get_or es k 0 ≢ i) → Stone b w i ⊎ ((k : ℕ) × (get_or es k 0 ≡ i) × (bit k x ≡ 1))
        go (inl (k, m, same)) =
            inr (k, same, ⊎_elim (λ p. p) (λ out. absurd (omega (arith, side, mark_other w x 0 k out (bit_none k), laid_c.on k m, ap (at c) same))) (in_or_out k x))
        go (inr out) = inl (omega (arith, laid_c.long), sym (laid_c.off i out) ∙ is)

    -- rows on that board, which is as wide
    abbrev On : ℕ → ℕ → Type 0
    On = Chain (next_to b.wide) (Stone c w)

    lifted : {p q : ℕ} → Row b w p q → On p q
    lifted = carried (next_to b.wide) old

    -- a row of stones there from the first border to cell i
    abbrev Reached : ℕ → Type 0
    Reached i = (p : ℕ) × (begins b.wide w p ≡ true) × On p i

    -- cell i is at the first border, or next to a stone that is reached
    abbrev Led : ℕ → Type 0
    Led i = (begins b.wide w i ≡ true) ⊎ ((q : ℕ) × Reached q × (next_to b.wide q i ≡ true))

    on_it : {i : ℕ} → Led i → Stone c w i → Reached i
    on_it {i} (inl first) o = (i, first, here o refl)
    on_it {i} (inr (q, (p, first, row), near)) o = (p, first, and_then (next_to b.wide) row (step (last_own (next_to b.wide) row) near (here o refl)))

    along : {i j : ℕ} → Reached i → Tied b w i j → Led j
    along {i} r (direct near) = inr (i, r, near)
    along {i} (p, first, row) (through {p = u} {q = v} near on far) =
        inr (v, (p, first, and_then (next_to b.wide) row (step (last_own (next_to b.wide) row) near (lifted on))), far)

    -- what the flood touches is led to
    led : {k : ℕ} → Touched l.near l.first x k → Led (get_or es k 0)
    led {k} (begun i) = from (h.first.only k i).1
      where
        from : Bound b w (begins b.wide w) (get_or es k 0) → Led (get_or es k 0)
        from (own first) = inl first
        from (across {p = p} {q = q} near row first) =
            inr (p, (q, first, lifted (turned (next_to b.wide) (next_symmetric b.wide) row)), next_symmetric b.wide (get_or es k 0) p near)
    led {k} (onward {j} t i near) = along (on_it (led t) (new j i)) ((h.near j (h.beyond j k near)).only k near).1

    connected : {p q : ℕ} → begins b.wide w p ≡ true → On p q → ends b.wide w q ≡ true → Connects c w
    connected {p} {q} =
        subst (λ m. begins m w p ≡ true → Chain (next_to m) (Stone c w) p q → ends m w q ≡ true → Connects c w) laid_c.wide (row_connects c w)

    -- so stones that join the borders connect
    pub joined_connects : Joins l x → Connects c w
    joined_connects j = done (on_it (led j.led) (new j.cell j.stone)) (h.last.only j.cell j.at_last).1
      where
        done : Reached (get_or es j.cell 0) → Bound b w (ends b.wide w) (get_or es j.cell 0) → Connects c w
        done (p, first, row) (own last) = connected first row last
        done (p, first, row) (across near on last) = connected first (and_then (next_to b.wide) row (step (last_own (next_to b.wide) row) near (lifted on))) last

    -- the way begins,
    starts : (i : ℕ) → begins b.wide w i ≡ true → Stone b w i ⊎ ((k : ℕ) × (get_or es k 0 ≡ i) × (bit k x ≡ 1)) → Got b es w l x i
    starts i first (inl o) = from_border first (here o refl)
    starts i first (inr (k, same, in-x)) =
        on_cell k same in-x (begun (h.first.all k (cell_below (length es) k x fits in-x) (own (subst (λ j. begins b.wide w j ≡ true) (sym same) first))))

    -- comes to the next stone,
    goes : {i : ℕ} (j : ℕ) → Got b es w l x i → next_to b.wide i j ≡ true → Stone b w j ⊎ ((k : ℕ) × (get_or es k 0 ≡ j) × (bit k x ≡ 1)) → Got b es w l x j
    goes j (on_cell k same in-x t) near (inl o) = from_cell k in-x t (subst (λ i. next_to b.wide i j ≡ true) (sym same) near) (here o refl)
    goes j (from_border first row) near (inl o) = from_border first (and_then (next_to b.wide) row (step (last_own (next_to b.wide) row) near (here o refl)))
    goes j (from_cell k in-x t by row) near (inl o) = from_cell k in-x t by (and_then (next_to b.wide) row (step (last_own (next_to b.wide) row) near (here o refl)))
    goes {i} j got near (inr (m, same, in-m)) = on_cell m same in-m (touch got)
      where
        inside : m < length es
        inside = cell_below (length es) m x fits in-m

        tied : (k : ℕ) → bit k x ≡ 1 → Touched l.near l.first x k → Tied b w (get_or es k 0) (get_or es m 0) → Touched l.near l.first x m
        tied k in-x t tie = onward t in-x ((h.near k (cell_below (length es) k x fits in-x)).all m inside tie)

        to : next_to b.wide i (get_or es m 0) ≡ true
        to = subst (λ e. next_to b.wide i e ≡ true) (sym same) near

        touch : Got b es w l x i → Touched l.near l.first x m
        touch (on_cell k at in-x t) = tied k in-x t (direct (subst (λ e. next_to b.wide e (get_or es m 0) ≡ true) (sym at) to))
        touch (from_border first row) =
            begun (h.first.all m inside (across (next_symmetric b.wide i (get_or es m 0) to) (turned (next_to b.wide) (next_symmetric b.wide) row) first))
        touch (from_cell k in-x t by row) = tied k in-x t (through by row to)

    -- and ends at the last border.
    stops : {i : ℕ} → (Connects b w → ⊥) → Got b es w l x i → ends b.wide w i ≡ true → Joins l x
    stops apart (on_cell k same in-x t) last =
        record { cell = k; stone = in-x; led = t; at_last = h.last.all k (cell_below (length es) k x fits in-x) (own (subst (λ j. ends b.wide w j ≡ true) (sym same) last)) }
    stops apart (from_border first row) last = absurd (apart (row_connects b w first row last))
    stops apart (from_cell k in-x t by row) last =
        record { cell = k; stone = in-x; led = t; at_last = h.last.all k (cell_below (length es) k x fits in-x) (across by row last) }

    walk : (i : ℕ) (js : List ℕ) → (Connects b w → ⊥) → Got b es w l x i → goes_on c w i js ≡ true → Joins l x
    unfolding goes_on
    walk i [] apart got e = stops apart got (rw laid_c.wide at e)
    walk i (j ∷ js) apart got e =
        let (near, stone, on) = goes_on_parts c w i j js e in
        walk j js apart (goes j got (rw laid_c.wide at near) (sorted j stone)) on

    pub connects_joined : (Connects b w → ⊥) → Connects c w → Joins l x
    connects_joined apart ([], e) = absurd (no_way c w e)
    connects_joined apart (i ∷ is, e) =
        let (first, stone, on) = way_parts c w i is e in walk i is apart (starts i (rw laid_c.wide at first) (sorted i stone)) on

  -- THE LAW: for a side that has not connected yet, its links describe the board.
  pub describes : (Connects b w → ⊥) → Describes (length es) b es w l
  describes apart = record { both_ways = both; connects = λ x fits. joined_connects x fits; joins = λ x fits. connects_joined x fits apart }
