-- Answering in pairs wins, where one cell of each pair is enough.
use Rattle.std.proofs.Common.{◌≡◌, ℕ, zero, suc, ◌+◌, ◌<◌, ◌≤◌, ◌≢◌, ◌⊎◌, List, length, get_or, set, sym, refl, ap, ◌∙◌, subst, subst₂, inl, inr, ⊎_elim, arith}
use mathlib.Core.Logic.{⊎_swap}
use Rattle.std.proofs.lemmas.List.{length-set, get_or-set_same, get_or-set_other}
use Rattle.std.proofs.lemmas.Bool.{cases_eq}
use Rattle.hexboard.specs.Board.{empties, other}
use Rattle.hexboard.specs.Laying.{Rules, HasWon, CanForce, has, mine, theirs, IsPosition}
use Rattle.hexboard.proofs.Boards.{other_side, empties_set}
use Rattle.theorems.specs.Pairs.{IsPairing, HasOneOrNone, IsLater, IsEnough, WinsAnswering, won, answers, IsAnswered}
use Rattle.theorems.proofs.Outcome.{set_position}
use Rattle.theorems.proofs.Stones.{Side, EmptyIn, empty_counts, empty_or_full}

-- Every position comes of itself, and what comes of a position with a stone more comes of it.
later_refl : (b : List ℕ) → IsLater b b
later_refl b = record { long = refl; stays = λ i h n. refl }

later_set : (b c : List ℕ) (i x : ℕ) → get_or b i 0 ≡ 0 → IsLater (set b i x) c → IsLater b c
later_set b c i x z l = record {
  long = l.long ∙ length-set b i x;
  stays = λ k h n.
      let apart : k ≢ i = λ e. n (ap (λ j. get_or b j 0) e ∙ z) in
      let same : get_or (set b i x) k 0 ≡ get_or b k 0 = get_or-set_other b i k x 0 apart in
      l.stays k (rw length-set h) (λ e. n (sym same ∙ e)) ∙ same;
}

-- a pairing of n cells
module _ {n : ℕ} {partner : ℕ → ℕ} (pairs : IsPairing n partner) where
  -- A pair by itself: no cell of another pair is in it.
  other_pair : (i k : ℕ) → k < n → k ≢ partner i → partner k ≢ i
  other_pair i k hk apart e = apart (sym (pairs.back k hk) ∙ ap partner e)

  other_cell : (i k : ℕ) → i < n → k < n → k ≢ i → partner k ≢ partner i
  other_cell i k hi hk apart e = apart (sym (pairs.back k hk) ∙ (ap partner e ∙ pairs.back i hi))

  -- Where changes are made in one pair, or in no pair, what holds of each pair goes on holding if it holds of that one.
  pair_by_pair : (Q : ℕ → ℕ → Type 0) → ((x y : ℕ) → Q x y → Q y x) → (b c : List ℕ) (i : ℕ) → i < n →
      ((k : ℕ) → k ≢ i → k ≢ partner i → get_or c k 0 ≡ get_or b k 0) → (partner i ≢ i → Q (get_or c i 0) (get_or c (partner i) 0)) →
      (k : ℕ) → k < n → partner k ≢ k → Q (get_or b k 0) (get_or b (partner k) 0) → Q (get_or c k 0) (get_or c (partner k) 0)
  pair_by_pair Q turn b c i on stays here k on_k paired held = go (cases_eq k i) (cases_eq k (partner i))
    where
      Goal : ℕ → Type 0
      Goal j = Q (get_or c j 0) (get_or c (partner j) 0)

      first : k ≡ i → Goal k
      first e = subst Goal (sym e) (here (λ alone. paired (subst (λ j. partner j ≡ j) (sym e) alone)))

      second : k ≡ partner i → Goal k
      second e =
          let back : partner k ≡ i = ap partner e ∙ pairs.back i on in
          let apart : partner i ≢ i = λ alone. paired (back ∙ (sym alone ∙ sym e)) in
          subst₂ (λ x y. Q (get_or c x 0) (get_or c y 0)) (sym e) (sym back) (turn (get_or c i 0) (get_or c (partner i) 0) (here apart))

      go : (k ≡ i) ⊎ (k ≡ i → ⊥) → (k ≡ partner i) ⊎ (k ≡ partner i → ⊥) → Goal k
      go (inl e) _ = first e
      go (inr _) (inl e) = second e
      go (inr apart) (inr m) =
          subst₂ Q (sym (stays k apart m)) (sym (stays (partner k) (other_pair i k on_k m) (other_cell i k on on_k apart))) held

-- what is to hold of the two cells of a pair: side s has one, or both are empty
abbrev OneOrNone : ℕ → ℕ → ℕ → Type 0
OneOrNone s x y = ((x ≡ s) ⊎ (y ≡ s)) ⊎ ((x ≡ 0) × (y ≡ 0))

turn_one : (s x y : ℕ) → OneOrNone s x y → OneOrNone s y x
turn_one s x y (inl one) = inl (⊎_swap one)
turn_one s x y (inr (p, q)) = inr (q, p)

-- and after answers: both are empty, or neither is and side s has one
abbrev Answered : ℕ → ℕ → ℕ → Type 0
Answered s x y = ((x ≡ 0) × (y ≡ 0)) ⊎ (((x ≡ s) ⊎ (y ≡ s)) × (x ≢ 0) × (y ≢ 0))

turn_answered : (s x y : ℕ) → Answered s x y → Answered s y x
turn_answered s x y (inl (p, q)) = inl (q, p)
turn_answered s x y (inr (one, p, q)) = inr (⊎_swap one, q, p)

one_if_answered : (s x y : ℕ) → Answered s x y → OneOrNone s x y
one_if_answered s x y (inl none) = inr none
one_if_answered s x y (inr (one, _, _)) = inl one

-- A move of the other and the answer to it change no other pair.
unchanged : (s : ℕ) (partner : ℕ → ℕ) (b : List ℕ) (i k : ℕ) → k ≢ i → k ≢ partner i → get_or (set (set b i (other s)) (partner i) s) k 0 ≡ get_or b k 0
unchanged s partner b i k n m = get_or-set_other (set b i (other s)) (partner i) k s 0 m ∙ get_or-set_other b i k (other s) 0 n

-- While each move is answered in its pair, the partner of an empty cell is empty.
both_empty : (s : ℕ) (partner : ℕ → ℕ) (b : List ℕ) → IsAnswered s partner b → (i : ℕ) → i < length b → get_or b i 0 ≡ 0 → get_or b (partner i) 0 ≡ 0
both_empty s partner b a i h z = ⊎_elim (λ e. e.1) (λ e. absurd (e.1 z)) (a i h).1

-- from positions with at most k empty cells side s can force it, whoever is to move
abbrev Within : Rules → ℕ → (ℕ → ℕ) → ℕ → Type 0
Within g s partner k =
    (b : List ℕ) → empties b ≤ k → IsPosition g b → HasOneOrNone s partner b → IsEnough g s partner b → (t : ℕ) → Side t → CanForce g s b t

-- a pairing of a game's cells, and a side
module _ {g : Rules} {s : ℕ} {partner : ℕ → ℕ} (side : Side s) (pairs : IsPairing g.count partner) where
  -- In a full position that has come so, side s has one cell of each pair, and has won.
  full_wins : (b : List ℕ) → IsPosition g b → empties b ≡ 0 → HasOneOrNone s partner b → IsEnough g s partner b → HasWon g s b
  full_wins b p none held enough =
      enough b p none (later_refl b) (λ i h paired. ⊎_elim (λ one. one) (λ e. absurd (omega (arith, empty_counts b i h e.0))) (held i h paired))

  -- What is enough now is enough after a move.
  enough_after : (b : List ℕ) (i x : ℕ) → get_or b i 0 ≡ 0 → IsEnough g s partner b → IsEnough g s partner (set b i x)
  enough_after b i x z enough c p none later = enough c p none (later_set b c i x z later)

  -- a position, with side s to answer in pairs
  module _ (b : List ℕ) (p : IsPosition g b) (held : HasOneOrNone s partner b) (i : ℕ) (h : i < length b) (z : get_or b i 0 ≡ 0) where
    on : i < g.count
    on = omega (arith, p.long)

    on_partner : partner i < length b
    on_partner = omega (arith, p.long, pairs.on i on)

    -- A stone of its own, anywhere, keeps it so.
    own_keeps : HasOneOrNone s partner (set b i s)
    own_keeps k hk paired =
        let on_k : k < length b = rw length-set at hk in
        pair_by_pair pairs (OneOrNone s) (turn_one s) b (set b i s) i on (λ k n _. get_or-set_other b i k s 0 n)
        (λ _. inl (inl (get_or-set_same b i s 0 h))) k (omega (arith, p.long)) paired (held k on_k paired)

    -- So does a stone of the other in no pair, or in a pair in which it has its stone;
    taken_keeps : (partner i ≢ i → get_or b (partner i) 0 ≡ s) → HasOneOrNone s partner (set b i (other s))
    taken_keeps has_it k hk paired =
        let on_k : k < length b = rw length-set at hk in
        pair_by_pair pairs (OneOrNone s) (turn_one s) b (set b i (other s)) i on (λ k n _. get_or-set_other b i k (other s) 0 n)
        (λ paired. inl (inr (get_or-set_other b i (partner i) (other s) 0 paired ∙ has_it paired)))
        k (omega (arith, p.long)) paired (held k on_k paired)

    -- and with the answer to it a stone of the other in an empty pair.
    answer_keeps : HasOneOrNone s partner (set (set b i (other s)) (partner i) s)
    answer_keeps k hk paired =
        let on_k : k < length b = simp length-set at hk in
        pair_by_pair pairs (OneOrNone s) (turn_one s) b (set (set b i (other s)) (partner i) s) i on (unchanged s partner b i)
        (λ _. inl (inr (get_or-set_same (set b i (other s)) (partner i) s 0 (rw length-set on_partner))))
        k (omega (arith, p.long)) paired (held k on_k paired)

  -- With an empty cell more, side s puts a stone anywhere, or answers in the pair.
  one_more : (k : ℕ) → Within g s partner k → Within g s partner (suc k)
  one_more k rest b few p held enough t turn = go (empty_or_full b)
    where
      fewer : (i x : ℕ) → i < length b → get_or b i 0 ≡ 0 → 0 < x → empties (set b i x) ≤ k
      fewer i x h z n = omega (arith, empties_set b i x h z n)

      own : (i : ℕ) (h : i < length b) (z : get_or b i 0 ≡ 0) → CanForce g s (set b i s) (other s)
      own i h z =
          rest (set b i s) (fewer i s h z (omega arith)) (set_position i s (omega arith) p) (own_keeps b p held i h z)
          (enough_after b i s z enough) (other s) (other_side s side)

      passes : (i : ℕ) (h : i < length b) (z : get_or b i 0 ≡ 0) → (partner i ≢ i → get_or b (partner i) 0 ≡ s) →
          CanForce g s (set b i (other s)) s
      passes i h z has_it =
          rest (set b i (other s)) (fewer i (other s) h z (omega arith)) (set_position i (other s) (omega arith) p)
          (taken_keeps b p held i h z has_it) (enough_after b i (other s) z enough) s side

      reply : (i : ℕ) (h : i < length b) (z : get_or b i 0 ≡ 0) → partner i ≢ i → get_or b (partner i) 0 ≡ 0 →
          CanForce g s (set b i (other s)) s
      reply i h z paired free =
          let c = set b i (other s) in
          let there : get_or c (partner i) 0 ≡ 0 = get_or-set_other b i (partner i) (other s) 0 paired ∙ free in
          let on : partner i < length c = rw length-set (on_partner b p held i h z) in
          mine (partner i) on there
          (rest (set c (partner i) s) (omega (arith, fewer i (other s) h z (omega arith), empties_set c (partner i) s on there (omega arith)))
          (set_position (partner i) s (omega arith) (set_position i (other s) (omega arith) p))
          (answer_keeps b p held i h z)
          (enough_after c (partner i) s there (enough_after b i (other s) z enough)) (other s) (other_side s side))

      theirs_at : (i : ℕ) → i < length b → get_or b i 0 ≡ 0 → CanForce g s (set b i (other s)) s
      theirs_at i h z = at (cases_eq (partner i) i)
        where
          in_pair : partner i ≢ i → ((get_or b i 0 ≡ s) ⊎ (get_or b (partner i) 0 ≡ s)) ⊎ ((get_or b i 0 ≡ 0) × (get_or b (partner i) 0 ≡ 0)) →
              CanForce g s (set b i (other s)) s
          in_pair n (inl (inl e)) = absurd (omega arith)
          in_pair n (inl (inr e)) = passes i h z (λ _. e)
          in_pair n (inr (_, free)) = reply i h z n free

          at : (partner i ≡ i) ⊎ (partner i ≡ i → ⊥) → CanForce g s (set b i (other s)) s
          at (inl alone) = passes i h z (λ n. absurd (n alone))
          at (inr n) = in_pair n (held i h n)

      by_turn : EmptyIn b → (t ≡ s) ⊎ (t ≡ s → ⊥) → CanForce g s b t
      by_turn (m, h, z) (inl e) = subst (CanForce g s b) (sym e) (mine m h z (own m h z))
      by_turn (m, h, z) (inr n) =
          let e : t ≡ other s = omega arith in
          subst (CanForce g s b) (sym e) (theirs (empty_counts b m h z) theirs_at)

      go : EmptyIn b ⊎ (empties b ≡ 0) → CanForce g s b t
      go (inl some) = by_turn some (cases_eq t s)
      go (inr none) = has t (full_wins b p none held enough)

  -- So it comes to a full position.
  within : (k : ℕ) → Within g s partner k
  within zero b few p held enough t turn = has t (full_wins b p (omega arith) held enough)
  within (suc k) b few p held enough t turn = one_more k (within k) b few p held enough t turn

  pub can_from : (b : List ℕ) → IsPosition g b → HasOneOrNone s partner b → IsEnough g s partner b → (t : ℕ) → Side t → CanForce g s b t
  can_from b = within (empties b) b (omega arith)

  -- It stays so by the next answer.
  answer_stays : (b : List ℕ) → IsPosition g b → IsAnswered s partner b → (i : ℕ) → i < length b → get_or b i 0 ≡ 0 →
      IsAnswered s partner (set (set b i (other s)) (partner i) s)
  answer_stays b p a i h z k hk =
      let on : i < g.count = omega (arith, p.long) in
      let on_k : k < length b = simp length-set at hk in
      let apart = (a i h).0 in
      let on_partner : partner i < length (set b i (other s)) = rw length-set (omega (arith, p.long, pairs.on i on)) in
      let there : get_or (set (set b i (other s)) (partner i) s) i 0 ≡ other s =
      get_or-set_other (set b i (other s)) (partner i) i s 0 (λ e. apart (sym e)) ∙ get_or-set_same b i (other s) 0 h in
      let here : get_or (set (set b i (other s)) (partner i) s) (partner i) 0 ≡ s = get_or-set_same (set b i (other s)) (partner i) s 0 on_partner in (
        (a k on_k).0,
        pair_by_pair pairs (Answered s) (turn_answered s) b (set (set b i (other s)) (partner i) s) i on (unchanged s partner b i)
            (λ _. inr (inr here, λ e. omega arith, λ e. omega arith)) k (omega (arith, p.long)) (a k on_k).0 (a k on_k).1,
      )

  -- So it goes on to a full position.
  one_answer : (b : List ℕ) → IsPosition g b → IsAnswered s partner b → IsEnough g s partner b →
      ((c : List ℕ) → empties c < empties b → IsPosition g c → IsAnswered s partner c → IsEnough g s partner c → WinsAnswering g s partner c) →
      WinsAnswering g s partner b
  one_answer b p a enough rest = go (empty_or_full b)
    where
      there : (i : ℕ) → i < length b → partner i < length b
      there i h = omega (arith, p.long, pairs.on i (omega (arith, p.long)))

      free : (i : ℕ) → i < length b → get_or b i 0 ≡ 0 → get_or (set b i (other s)) (partner i) 0 ≡ 0
      free i h z = get_or-set_other b i (partner i) (other s) 0 (a i h).0 ∙ both_empty s partner b a i h z

      next : (i : ℕ) → i < length b → get_or b i 0 ≡ 0 → WinsAnswering g s partner (set (set b i (other s)) (partner i) s)
      next i h z =
          let c = set b i (other s) in
          let on : partner i < length c = rw length-set (there i h) in
          let fewer = empties_set b i (other s) h z (omega arith) in
          let again = empties_set c (partner i) s on (free i h z) (omega arith) in
          rest (set c (partner i) s) (omega arith)
          (set_position (partner i) s (omega arith) (set_position i (other s) (omega arith) p)) (answer_stays b p a i h z)
          (enough_after c (partner i) s (free i h z) (enough_after b i (other s) z enough))

      go : EmptyIn b ⊎ (empties b ≡ 0) → WinsAnswering g s partner b
      go (inl (m, h, z)) = answers (empty_counts b m h z) (λ i h z. there i h) free next
      go (inr none) = won none (full_wins b p none (λ i h _. one_if_answered s (get_or b i 0) (get_or b (partner i) 0) (a i h).1) enough)

  answers_within : (k : ℕ) (b : List ℕ) → empties b < k → IsPosition g b → IsAnswered s partner b → IsEnough g s partner b →
      WinsAnswering g s partner b
  answers_within zero b few p a enough = absurd (omega arith)
  answers_within (suc k) b few p a enough = one_answer b p a enough (λ c less. answers_within k c (omega arith))

-- So from every such position, whoever is to move.
pub pairs_can_force : (g : Rules) (s t : ℕ) (partner : ℕ → ℕ) (b : List ℕ) → Side s → Side t → IsPosition g b → IsPairing g.count partner →
    HasOneOrNone s partner b → IsEnough g s partner b → CanForce g s b t
pairs_can_force g s t partner b side turn p pairs held enough = can_from side pairs b p held enough t turn

pub answering_wins : (g : Rules) (s : ℕ) (partner : ℕ → ℕ) (b : List ℕ) → Side s → IsPosition g b → IsPairing g.count partner →
    IsAnswered s partner b → IsEnough g s partner b → WinsAnswering g s partner b
answering_wins g s partner b side p pairs a enough = answers_within side pairs (empties b + 1) b (omega arith) p a enough

-- To win by answering is one way to force it, with the other to move.
pub answering_can_force : {g : Rules} {s : ℕ} {answer : ℕ → ℕ} {b : List ℕ} → WinsAnswering g s answer b → CanForce g s b (other s)
answering_can_force {s = s} (won none w) = has (other s) w
answering_can_force {answer = answer} (answers some on free next) =
    theirs some (λ i h z. mine (answer i) (rw length-set (on i h z)) (free i h z) (answering_can_force (next i h z)))
