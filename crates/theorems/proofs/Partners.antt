-- The pairs of cells on a board that is not square: where the partner of a cell is, and that it is the partner's partner.
use Rattle.std.proofs.Common.{◌≡◌, ℕ, ◌+◌, ◌-◌, ◌*◌, ◌/◌, ◌%◌, ◌<◌, ◌≤◌, false, leb, ◌≢◌, ◌⊎◌, sym, refl, ap, ◌∙◌, inl, inr, ⊎_elim, arith}
use Rattle.std.proofs.lemmas.Bool.{lt-ltb, le-ltb, le-leb, cases_lt}
use Rattle.std.proofs.lemmas.Bool.Decides.{nat_tests}
use Rattle.std.proofs.lemmas.Nat.{mul-add-lt, div-mul-add, mod-mul-add, div-add-mod'}
use Rattle.theorems.specs.Shorter.{Place, flip, across_diagonal, partner_place, place_of, cell_at, partner, PartnersPairOff}
use Rattle.theorems.proofs.RhombusWays.{row_below, column_below}

-- A place is told by its row and column.
pub same_place : (p q : Place) → p.row ≡ q.row → p.column ≡ q.column → p ≡ q
same_place p q e f = λ i. record { row = e i; column = f i }

-- a board t tall and wider than tall
module _ (t : ℕ) where
  -- a place above the diagonal, one on it or below it, and one past column t
  Above : Place → Type 0
  Above p = p.row + p.column < t

  Under : Place → Type 0
  Under p = (t ≤ p.row + p.column) × (p.column ≤ t)

  Past : Place → Type 0
  Past p = (t ≤ p.row + p.column) × (t < p.column)

  zone : (p : Place) → Above p ⊎ (Under p ⊎ Past p)
  unfolding Above Under Past
  zone p =
      ⊎_elim (λ a. inl a) (λ b. ⊎_elim (λ c. inr (inr (b, c))) (λ c. inr (inl (b, c))) (cases_lt t p.column)) (cases_lt (p.row + p.column) t)

  -- Where each has its partner.
  pub above_mate : (p : Place) → p.row + p.column < t → across_diagonal t p ≡ record { row = t - 1 - p.column; column = t - p.row }
  above_mate p a = rw (lt-ltb (p.row + p.column) t a) refl

  pub under_mate : (p : Place) → t ≤ p.row + p.column → p.column ≤ t → across_diagonal t p ≡ record { row = t - p.column; column = t - 1 - p.row }
  under_mate p b c = rw (le-ltb (p.row + p.column) t b, le-leb p.column t c) refl

  past_mate : (p : Place) → t ≤ p.row + p.column → t < p.column → across_diagonal t p ≡ p
  past_mate p b c =
      let no : leb p.column t ≡ false = grind (arith, nat_tests) in
      rw (le-ltb (p.row + p.column) t b, no) refl

  -- The partner is on the board,
  stays_on : (w : ℕ) (p : Place) → t < w → p.row < t → p.column < w → ((across_diagonal t p).row < t) × ((across_diagonal t p).column < w)
  unfolding Above Under Past
  stays_on w p wider r c = go (zone p)
    where
      go : Above p ⊎ (Under p ⊎ Past p) → ((across_diagonal t p).row < t) × ((across_diagonal t p).column < w)
      go (inl a) = rw (above_mate p a) (omega arith, omega arith)
      go (inr (inl u)) = rw (under_mate p u.0 u.1) (omega arith, omega arith)
      go (inr (inr u)) = rw (past_mate p u.0 u.1) (r, c)

  -- and the place itself is its partner.
  comes_back : (p : Place) → p.row < t → across_diagonal t (across_diagonal t p) ≡ p
  unfolding Above Under Past
  comes_back p r = go (zone p)
    where
      go : Above p ⊎ (Under p ⊎ Past p) → across_diagonal t (across_diagonal t p) ≡ p
      go (inl a) =
          let q : Place = record { row = t - 1 - p.column; column = t - p.row } in
          ap (across_diagonal t) (above_mate p a) ∙ (under_mate q (omega arith) (omega arith)
          ∙ same_place (record { row = t - q.column; column = t - 1 - q.row }) p (omega arith) (omega arith))
      go (inr (inl u)) =
          let q : Place = record { row = t - p.column; column = t - 1 - p.row } in
          ap (across_diagonal t) (under_mate p u.0 u.1) ∙ (above_mate q (omega arith)
          ∙ same_place (record { row = t - 1 - q.column; column = t - q.row }) p (omega arith) (omega arith))
      go (inr (inr u)) = ap (across_diagonal t) (past_mate p u.0 u.1) ∙ past_mate p u.0 u.1

  -- Up to column t no place is its own partner: the sum of row and column tells.
  apart : (p : Place) → p.row < t → p.column ≤ t → across_diagonal t p ≡ p → ⊥
  unfolding Above Under Past
  apart p r c e = go (zone p)
    where
      sums : (across_diagonal t p).row + (across_diagonal t p).column ≡ p.row + p.column
      sums = ap (λ (q : Place). q.row + q.column) e

      go : Above p ⊎ (Under p ⊎ Past p) → ⊥
      go (inl a) = let m = sym (ap (λ (q : Place). q.row + q.column) (above_mate p a)) ∙ sums in omega arith
      go (inr (inl u)) = let m = sym (ap (λ (q : Place). q.row + q.column) (under_mate p u.0 u.1)) ∙ sums in omega arith
      go (inr (inr u)) = omega arith

-- a board w wide and t tall
module _ (w t : ℕ) where
  pub wide_place : (p : Place) → t < w → partner_place w t p ≡ across_diagonal t p
  wide_place p h = rw (lt-ltb t w h) refl

  pub tall_place : (p : Place) → w < t → partner_place w t p ≡ flip (across_diagonal w (flip p))
  tall_place p h = rw (le-ltb t w (omega arith), lt-ltb w t h) refl

  square_place : (p : Place) → w ≡ t → partner_place w t p ≡ p
  square_place p e = rw (le-ltb t w (omega arith), le-ltb w t (omega arith)) refl

  three_kinds : (t < w) ⊎ ((w < t) ⊎ (w ≡ t))
  three_kinds = ⊎_elim (λ h. inl h) (λ h. ⊎_elim (λ k. inr (inl k)) (λ k. inr (inr (omega arith))) (cases_lt w t)) (cases_lt t w)

  -- The partner's place is on the board, and has the place itself as its partner's.
  place_on : (p : Place) → p.row < t → p.column < w → ((partner_place w t p).row < t) × ((partner_place w t p).column < w)
  place_on p r c = go three_kinds
    where
      go : (t < w) ⊎ ((w < t) ⊎ (w ≡ t)) → ((partner_place w t p).row < t) × ((partner_place w t p).column < w)
      go (inl h) = rw (wide_place p h) (stays_on t w p h r c)
      go (inr (inl h)) = let q = stays_on w t (flip p) h c r in rw (tall_place p h) (q.1, q.0)
      go (inr (inr e)) = rw (square_place p e) (r, c)

  place_back : (p : Place) → p.row < t → p.column < w → partner_place w t (partner_place w t p) ≡ p
  place_back p r c = go three_kinds
    where
      go : (t < w) ⊎ ((w < t) ⊎ (w ≡ t)) → partner_place w t (partner_place w t p) ≡ p
      go (inl h) = ap (partner_place w t) (wide_place p h) ∙ (wide_place (across_diagonal t p) h ∙ comes_back t p r)
      go (inr (inl h)) =
          ap (partner_place w t) (tall_place p h)
          ∙ (tall_place (flip (across_diagonal w (flip p))) h ∙ ap flip (comes_back w (flip p) c))
      go (inr (inr e)) = ap (partner_place w t) (square_place p e) ∙ square_place p e

  -- The cell at a place has the place.
  place_at : (p : Place) → p.column < w → place_of w (cell_at w p) ≡ p
  place_at p c =
      same_place (place_of w (cell_at w p)) p (div-mul-add p.row w p.column c) (mod-mul-add p.row w p.column c)

  -- So for cells, from their places.
  pub partner_at : (i : ℕ) (p : Place) → place_of w i ≡ p → partner w t i ≡ cell_at w (partner_place w t p)
  unfolding partner
  partner_at i p e = ap (λ q. cell_at w (partner_place w t q)) e

  module _ (i : ℕ) (h : i < w * t) where
    partner_on : partner w t i < w * t
    unfolding partner
    partner_on =
        let q = partner_place w t (place_of w i) in
        let on = place_on (place_of w i) (row_below w t i h) (column_below w t i h) in
        mul-add-lt q.row w q.column t on.0 on.1

    partner_back : partner w t (partner w t i) ≡ i
    partner_back =
        let p = place_of w i in
        let q = partner_place w t p in
        let at : place_of w (partner w t i) ≡ q = ap (place_of w) (partner_at i p refl) ∙ place_at q (place_on p (row_below w t i h) (column_below w t i h)).1 in
        partner_at (partner w t i) q at ∙ (ap (cell_at w) (place_back p (row_below w t i h) (column_below w t i h)) ∙ div-add-mod' i w)

    -- A cell that is its own partner has a place that is.
    own_place : partner w t i ≡ i → partner_place w t (place_of w i) ≡ place_of w i
    own_place e =
        let p = place_of w i in
        let q = partner_place w t p in
        sym (place_at q (place_on p (row_below w t i h) (column_below w t i h)).1) ∙ (ap (place_of w) (sym (partner_at i p refl)) ∙ ap (place_of w) e)

    -- On a board wider than tall a cell up to column t is in a pair, and on one taller than wide a cell up to row w.
    pub paired_wide : t < w → i % w ≤ t → partner w t i ≢ i
    paired_wide wider c e =
        let p = place_of w i in apart t p (row_below w t i h) c (sym (wide_place p wider) ∙ own_place e)

    pub paired_tall : w < t → i / w ≤ w → partner w t i ≢ i
    paired_tall taller r e =
        let p = place_of w i in apart w (flip p) (column_below w t i h) r (ap flip (sym (tall_place p taller) ∙ own_place e))

pub partners_pair_off : PartnersPairOff
partners_pair_off w t = record { on = partner_on w t; back = partner_back w t }
