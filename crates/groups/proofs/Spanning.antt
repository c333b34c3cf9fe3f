-- What groups tell, for any nearness and any borders: which stones hang together, and whether a side spans from border to border.
use Rattle.std.proofs.Common.{◌≡◌, ℕ, ◌<◌, Bool, true, ◌≢◌, ◌↔◌, length, get_or, ap, ◌∙◌, subst, ⊎_elim}
use Rattle.std.proofs.lemmas.Bool.{cases_eq}
use Rattle.hexboard.specs.Board.{Board, at, put}
use Rattle.hexboard.specs.Rows.{Chain, here, step, Stone}
use Rattle.groups.specs.Forest.{Forest, parent, root}
use Rattle.groups.specs.Meaning.{Both, Spans}
use Rattle.groups.proofs.Chains.{first_own, last_own, and_then, turned, carried}
use Rattle.groups.proofs.Climbs.{climb_root, root_top}
use Rattle.groups.proofs.Marks.{Has, both_bits, bits_both}
use Rattle.groups.proofs.Placing.{Grouped, new_or_old, placed}

-- a row of stones of side t leads from its first border to its last
pub record Spanning (near : ℕ → ℕ → Bool) (bits : ℕ → ℕ → ℕ) (b : Board) (t : ℕ) : Type 0 where
  pub from : ℕ
  pub to : ℕ
  pub row : Chain near (Stone b t) from to
  pub first : Has 0 (bits t from)
  pub last : Has 1 (bits t to)

module _ {near : ℕ → ℕ → Bool} (both_ways : (i j : ℕ) → near i j ≡ true → near j i ≡ true) {bits : ℕ → ℕ → ℕ} {b : Board} {f : Forest} (g : Grouped near bits b f) where
  -- The stones of a row have one root.
  pub one_root : (t : ℕ) → t ≢ 0 → {i j : ℕ} → Chain near (Stone b t) i j → root f.parents i ≡ root f.parents j
  one_root t n (here o e) = ap (root f.parents) e
  one_root t n (step {i = i} {j = j} o c row) = g.meets i j (t, n, o, first_own near row, c) ∙ one_root t n row

  -- Two stones of a side have one root exactly when a row leads from one to the other: by way of the root.
  pub same_root : (t i j : ℕ) → t ≢ 0 → Stone b t i → Stone b t j → ((root f.parents i ≡ root f.parents j) ↔ Chain near (Stone b t) i j)
  same_root t i j n o p =
      (λ e. and_then near (subst (Chain near (Stone b t) i) e (g.hangs t i n o)) (turned near both_ways (g.hangs t j n p)), one_root t n)

  -- A stone whose byte has both bits is on a row from border to border.
  pub spanning_at : (t i : ℕ) → t ≢ 0 → Stone b t i → Both (get_or f.borders i 0) → Spanning near bits b t
  spanning_at t i n o both =
      let (h, k) = both_bits (get_or f.borders i 0) both in
      let (u, back, first) = g.seen t i 0 n o h in
      let (v, on, last) = g.seen t i 1 n o k in
      record { from = u; to = v; row = and_then near (turned near both_ways back) on; first = first; last = last }

  -- The root of a row from border to border has both bits.
  pub both_at : (t : ℕ) → t ≢ 0 → (p : Spanning near bits b t) → Both (get_or f.borders (root f.parents p.from) 0)
  both_at t n p =
      bits_both _ (g.shows t p.from 0 n (first_own near p.row) p.first)
      (rw (one_root t n p.row) (g.shows t p.to 1 n (last_own near p.row) p.last))

  -- A side spans exactly when some group of it has both bits.
  pub spans : (t : ℕ) → t ≢ 0 → (Spanning near bits b t ↔ Spans b t f)
  spans t n = (
    λ p.
        record {
          top = root f.parents p.from;
          stone = last_own near (g.hangs t p.from n (first_own near p.row));
          is_root = root_top f.parents g.ends p.from;
          touches = both_at t n p;
        },
    λ q. spanning_at t q.top n q.stone q.touches,
  )

-- A stone of side s has come to the empty cell x.
module _ {near : ℕ → ℕ → Bool} (both_ways : (i j : ℕ) → near i j ≡ true → near j i ≡ true) {bits : ℕ → ℕ → ℕ} (b : Board) (s x : ℕ) (side : s ≢ 0)
    (on : x < length b.cells) (free : at b x ≡ 0) where
  -- Another side has no more rows than before.
  pub other_as_before : (t : ℕ) → t ≢ s → Spanning near bits (put b s x) t → Spanning near bits b t
  other_as_before t n p =
      record {
        from = p.from;
        to = p.to;
        row = carried near (λ i o. ⊎_elim (λ e. absurd (n e.1)) (λ h. h.1) (new_or_old b s x side on free t i o)) p.row;
        first = p.first;
        last = p.last;
      }

  -- The forest's groups are those of the board with the new stone, which is a root.
  module _ {f : Forest} (g : Grouped near bits (put b s x) f) (top : parent f.parents x ≡ x) where
    old_stone : (i : ℕ) → Stone (put b s x) s i → root f.parents i ≢ x → Stone b s i
    old_stone i o d =
        ⊎_elim (λ e. absurd (d (ap (root f.parents) e.0 ∙ climb_root f.parents _ x top))) (λ h. h.1) (new_or_old b s x side on free s i o)

    -- A row whose root is not the new stone was there before.
    row_before : {i j : ℕ} → Chain near (Stone (put b s x) s) i j → root f.parents i ≢ x → Chain near (Stone b s) i j
    row_before (here {i = i} o e) d = here (old_stone i o d) e
    row_before (step {i = i} {j = j} o c row) d =
        step (old_stone i o d) c (row_before row (λ e. d (g.meets i j (s, side, o, first_own near row, c) ∙ e)))

    -- If side s did not span before, it does now exactly when the new stone's byte has both bits.
    pub byte_decides : (Spanning near bits b s → ⊥) → (Spanning near bits (put b s x) s ↔ Both (get_or f.borders x 0))
    byte_decides not_yet = (
      λ p.
          ⊎_elim
          (λ e. subst (λ q. Both (get_or f.borders q 0)) e (both_at both_ways g s side p))
          (λ d. absurd (not_yet (record { from = p.from; to = p.to; row = row_before p.row d; first = p.first; last = p.last })))
          (cases_eq (root f.parents p.from) x),
      spanning_at both_ways g s x side (placed b s x side on free),
    )
