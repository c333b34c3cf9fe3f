-- A game with its cells renamed and the sides exchanged: each side has what the other had. Where that is the same game, whoever is to
-- move can force that it wins.
use Rattle.std.proofs.Common.{◌≡◌, ℕ, ◌<◌, List, length, get_or, set, replicate, sym, refl, ap, ◌∙◌, subst, ⊎_elim, arith, lit<}
use Rattle.std.proofs.lemmas.List.{length-set, get_or-set_same, get_or-set_other, length-replicate, get_or-replicate}
use Rattle.std.proofs.lemmas.List.Elements.{All-get_or, All-replicate}
use Rattle.std.proofs.lemmas.Bool.Decides.{nat_tests}
use Rattle.hexboard.specs.Board.{other}
use Rattle.hexboard.specs.Laying.{Rules, CanForce, has, mine, theirs, IsPosition, IsLawful, opposite_stone, Renamed, Exchanges}
use Rattle.hexboard.proofs.Boards.{other_side}
use Rattle.theorems.specs.Forcing.{MoverCanForce, FirstCanForce}
use Rattle.theorems.proofs.Stones.{Side, Against, against_other, is_other, turned_about, set_each, empty_counts, some_empty}
use Rattle.theorems.proofs.Advantage.{force_move}
use Rattle.theorems.proofs.Outcome.{set_position, not_both_forced, one_can_force_lem}

-- Neither nothing nor a stone is taken for the other when the sides are exchanged.
pub opposite_side : (s : ℕ) → Side s → other s ≡ opposite_stone s
opposite_side s side = grind (arith, nat_tests)

opposite_empty : (x : ℕ) → x < 3 → 0 ≡ opposite_stone x → x ≡ 0
opposite_empty x h e = grind (arith, nat_tests)

-- a game renamed
module _ {g h : Rules} {f back : ℕ → ℕ} (e : Exchanges g h f back) where
  -- No two cells get one name.
  same_cell : (i j : ℕ) → i < g.count → j < g.count → f i ≡ f j → i ≡ j
  same_cell i j hi hj same = sym (e.there i hi) ∙ (ap back same ∙ e.there j hj)

  -- a position renamed
  module _ {b c : List ℕ} (p : IsPosition g b) (m : Renamed f b c) where
    -- Each cell has its other name among those of the other game.
    renamed_in : (i : ℕ) → i < length b → f i < length c
    renamed_in i l = omega (arith, p.long, m.long, e.inside i (omega (arith, p.long)))

    -- Each empty cell was one.
    empty_before : (i : ℕ) → i < length c → get_or c i 0 ≡ 0 → (j : ℕ) × (j < length b) × (get_or b j 0 ≡ 0) × (f j ≡ i)
    empty_before i l z =
        let on : i < g.count = omega (arith, p.long, m.long) in
        let hj : back i < length b = omega (arith, p.long, e.back_inside i on) in
        let was : 0 ≡ opposite_stone (get_or b (back i) 0) = sym z ∙ (ap (λ k. get_or c k 0) (sym (e.again i on)) ∙ m.stones (back i) hj) in
        (back i, hj, opposite_empty (get_or b (back i) 0) (All-get_or (λ x. x < 3) b (back i) 0 hj p.stones) was, e.again i on)

    -- A stone put on a cell under both its names, of one side and of the other, leaves the position renamed.
    renamed_set : (i s : ℕ) → Side s → i < length b → Renamed f (set b i s) (set c (f i) (other s))
    renamed_set i s side l = record {
      long = length-set c (f i) (other s) ∙ (m.long ∙ sym (length-set b i s));
      stones = λ k hk. each k (simp length-set at hk);
    }
      where
        each : (k : ℕ) → k < length b → get_or (set c (f i) (other s)) (f k) 0 ≡ opposite_stone (get_or (set b i s) k 0)
        each = set_each (λ k v. k < length b → get_or (set c (f i) (other s)) (f k) 0 ≡ opposite_stone v) b i s l
            (λ _. get_or-set_same c (f i) (other s) 0 (renamed_in i l) ∙ opposite_side s side)
            (λ k apart hk. get_or-set_other c (f i) (f k) (other s) 0
            (λ same. apart (same_cell k i (omega (arith, p.long)) (omega (arith, p.long)) same)) ∙ m.stones k hk)

  -- What one side can force, the other can in the renamed game: each move is made under its other name.
  pub force_renamed : {s : ℕ} → Side s → {b : List ℕ} {t : ℕ} → CanForce g s b t → (c : List ℕ) → IsPosition g b → Renamed f b c →
      CanForce h (other s) c (other t)
  force_renamed {s} side {b} (has t w) c p m = has (other t) (e.wins s b c side p m w)
  force_renamed {s} side {b} (mine i l z k) c p m =
      mine (f i) (renamed_in p m i l) (m.stones i l ∙ ap opposite_stone z)
      (force_renamed side k (set c (f i) (other s)) (set_position i s (omega arith) p) (renamed_set p m i s side l))
  force_renamed {s} side {b} (theirs q k) c p m =
      let (j, l, z) = some_empty b q in
      theirs (empty_counts c (f j) (renamed_in p m j l) (m.stones j l ∙ ap opposite_stone z))
      (λ i hi zi. let (j, hj, zj, was) = empty_before p m i hi zi in
      subst (λ n. CanForce h (other s) (set c n (other (other s))) (other s)) was
      (force_renamed side (k j hj zj) (set c (f j) (other (other s))) (set_position j (other s) (omega arith) p)
      (renamed_set p m j (other s) (other_side s side) hj)))

-- In a position that is renamed to itself, whoever is to move can force that it wins. If the other could, then so could this one as the
-- one who is not to move; and to be to move is never a loss.
pub mover_can_force_lem : {g : Rules} {f back : ℕ → ℕ} → IsLawful g → Exchanges g g f back → MoverCanForce g f
mover_can_force_lem {g} law e s b p m side = (can, λ k. not_both_forced law can (other s) against p k refl)
  where
    against : Against s (other s)
    against = against_other s side

    second : CanForce g (other s) b s → CanForce g s b (other s)
    second k = subst (λ r. CanForce g r b (other s)) (sym (is_other (turned_about against))) (force_renamed e (other_side s side) k b p m)

    can : CanForce g s b s
    can = ⊎_elim (λ k. k) (λ k. force_move law.keeps_wins side (second k)) (one_can_force_lem law s s b p side side).0

-- The empty board, however it is renamed, is the empty board.
pub first_can_force : {g : Rules} {f back : ℕ → ℕ} → IsLawful g → Exchanges g g f back → FirstCanForce g
first_can_force {g} {f} law e s side =
    mover_can_force_lem law e s (replicate g.count 0)
    (record { long = length-replicate g.count 0; stones = All-replicate (λ c. c < 3) g.count 0 (lit< tt) })
    (record { long = refl; stones = λ i h. same i (simp length-replicate at h) }) side
  where
    same : (i : ℕ) → i < g.count → get_or (replicate g.count 0) (f i) 0 ≡ opposite_stone (get_or (replicate g.count 0) i 0)
    same i h = rw (get_or-replicate {A = ℕ} g.count (f i) 0 0 (e.inside i h), get_or-replicate {A = ℕ} g.count i 0 0 h) refl
