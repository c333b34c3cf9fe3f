-- When one stone more joins the two borders: exactly if the floods from both touch its cell.
use Rattle.std.proofs.Common.{◌≡◌, ℕ, ◌+◌, ◌^◌, ◌⊎◌, List, sym, refl, ◌∙◌, inl, inr, ⊎_elim}
use Rattle.ranking.specs.Sets.{bit, Within}
use Rattle.ranking.proofs.Bits.{bit_more}
use Rattle.endgame.specs.Floods.{Mutual, Touched, begun, onward, Joined, Joins, Completes}
use Rattle.endgame.specs.declared.links.Links.{Links}

-- with more stones a flood touches no less
touched_more : {near : List ℕ} {from x z : ℕ} → Within x z → {k : ℕ} → Touched near from x k → Touched near from z k
touched_more w (begun b) = begun b
touched_more w (onward t s n) = onward (touched_more w t) (w _ s) n

-- with one stone more, what is touched was touched, or the stone was
touched_split : {near : List ℕ} {from x : ℕ} (c : ℕ) → bit c x ≡ 0 → {k : ℕ} → Touched near from (x + 2 ^ c) k → Touched near from x k ⊎ Touched near from x c
touched_split c out (begun b) = inl (begun b)
touched_split {near} {from} {x} c out {k} (onward {j} t s n) = go (touched_split c out t) (bit_more c x out j)
  where
    go : Touched near from x j ⊎ Touched near from x c → ((j ≡ c) × (bit j (x + 2 ^ c) ≡ 1)) ⊎ ((j ≡ c → ⊥) × (bit j (x + 2 ^ c) ≡ bit j x)) → Touched near from x k ⊎ Touched near from x c
    go (inr u) p = inr u
    go (inl u) (inl p) = inr (rw p.0 at u)
    go (inl u) (inr p) = inl (onward u (sym p.1 ∙ s) n)

module _ {near : List ℕ} (both_ways : Mutual near) where
  -- the flood from the last border, walked back from a touched stone
  walk_back : {first last x z : ℕ} → Within x z → {k : ℕ} → Touched near last x k → bit k z ≡ 1 → Touched near first z k → Joined near first last z
  walk_back w {k} (begun l) here t = record { cell = k; stone = here; led = t; at_last = l }
  walk_back w {k} (onward {j} u s n) here t = walk_back w u (w j s) (onward t here (both_ways j k n))

  -- a stone that both floods touch joins the borders
  completes_joined : (first last x c : ℕ) → bit c x ≡ 0 → Touched near first x c → Touched near last x c → Joined near first last (x + 2 ^ c)
  completes_joined first last x c out head tail =
      let more : Within x (x + 2 ^ c) = λ k h. ⊎_elim (λ p. p.1) (λ p. p.1 ∙ h) (bit_more c x out k) in
      walk_back more tail (⊎_elim (λ p. p.1) (λ p. absurd (p.0 refl)) (bit_more c x out c)) (touched_more more head)

  -- joined one way is joined the other way
  turned : {first last x : ℕ} → Joined near first last x → Joined near last first x
  turned h = walk_back (λ j g. g) h.led h.stone (begun h.at_last)

  halfway : {first last : ℕ} (x c : ℕ) → bit c x ≡ 0 → Joined near first last (x + 2 ^ c) → Joined near first last x ⊎ Touched near first x c
  halfway {first} {last} x c out h = go (touched_split c out h.led) (bit_more c x out h.cell)
    where
      go : Touched near first x h.cell ⊎ Touched near first x c → ((h.cell ≡ c) × (bit h.cell (x + 2 ^ c) ≡ 1)) ⊎ ((h.cell ≡ c → ⊥) × (bit h.cell (x + 2 ^ c) ≡ bit h.cell x)) →
          Joined near first last x ⊎ Touched near first x c
      go (inr u) p = inr u
      go (inl u) (inl p) = inr (rw p.0 at u)
      go (inl u) (inr p) = inl (record { cell = h.cell; stone = sym p.1 ∙ h.stone; led = u; at_last = h.at_last })

-- The links of a side tell whether one stone more joins its borders.
pub completes_joins : (l : Links) → Mutual l.near → (x c : ℕ) → bit c x ≡ 0 → Completes l x c → Joins l (x + 2 ^ c)
completes_joins l both_ways x c out h = completes_joined both_ways l.first l.last x c out h.0 h.1

pub joins_completes : (l : Links) → Mutual l.near → (x c : ℕ) → bit c x ≡ 0 → (Joins l x → ⊥) → Joins l (x + 2 ^ c) → Completes l x c
joins_completes l both_ways x c out apart h =
    (⊎_elim (λ j. absurd (apart j)) (λ t. t) (halfway both_ways x c out h), ⊎_elim (λ j. absurd (apart (turned both_ways j))) (λ t. t) (halfway both_ways x c out (turned both_ways h)))
