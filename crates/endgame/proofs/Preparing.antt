-- The links of a side, prepared cell by cell: what the loop keeps, and that they tell what the stones make of the empty cells.
use Rattle.std.proofs.Common.{◌≡◌, ℕ, ◌+◌, ◌/◌, ◌%◌, ◌^◌, ◌<◌, ◌≤◌, Bool, true, false, eqb, ◌⊎◌, Decides, List, length, get_or, set, replicate, sym, refl, ap, ◌∙◌, subst, subst₂, ⊎_elim, mul-le-mul, arith, if◌then◌else◌}
use lib.Bits.{bit_or}
use Rattle.std.proofs.lemmas.List.{length-set, get_or-set_same, get_or-set_other}
use Rattle.std.proofs.lemmas.Bool.{cases_eq, cases_lt, eqb-true, eq-eqb, both_ways}
use Rattle.hexboard.specs.Board.{Board, begins, ends}
use Rattle.hexboard.specs.Geometry.{laid, touch}
use Rattle.hexboard.specs.Promise.{Good}
use Rattle.groups.specs.Forest.{Forest, held}
use Rattle.groups.specs.Stones.{board_of, forest_of}
use Rattle.groups.proofs.Marks.{Has}
use Rattle.groups.proofs.Positions.{Holds, legal_sound, board_cells, board_good, board_laid}
use Rattle.groups.proofs.Ways.{first_bit, last_bit}
use Rattle.ranking.specs.Sets.{bit}
use Rattle.ranking.proofs.Bits.{bit_none, own_bit, only_bit, in_or, or_left, or_right}
use Rattle.endgame.specs.declared.links.Links.{Links}
use Rattle.endgame.specs.Ends.{Numbered}
use Rattle.endgame.specs.Gathering.{gathered, near_at, borders_at}
use Rattle.endgame.specs.Linked.{Linked, Bound}
use Rattle.endgame.specs.Linked.{Holds as SetOf}
use Rattle.endgame.specs.Prepared.{ArePrepared}
use Rattle.endgame.proofs.Gathered.{nothing}
use Rattle.endgame.proofs.Ties.{near_only, near_all, bound_only, bound_all}

-- the set of none of no cells
set_none : (P : ℕ → Type 0) → SetOf 0 0 P
set_none P = record { only = λ k h. absurd (omega (arith, bit_none k)); all = λ k l h. absurd (omega arith) }

-- one more cell, put in if the test that P holds of it is true
set_more : (P : ℕ → Type 0) (m x : ℕ) (t : Bool) → SetOf m x P → (t ≡ true → P m) → (P m → t ≡ true) → SetOf (m + 1) (if t then bit_or x (2 ^ m) else x) P
set_more P m x true h so only_so = record {
  only = λ k i. ⊎_elim
      (λ old. let (l, p) = h.only k old in (omega arith, p))
      (λ new. let same = only_bit m k new in (omega arith, subst P (sym same) (so refl)))
      (in_or k x (2 ^ m) i);
  all = λ k l p. ⊎_elim
      (λ same. or_right k x (2 ^ m) (rw same (own_bit m)))
      (λ apart. or_left k x (2 ^ m) (h.all k (omega arith) p))
      (cases_eq k m);
}
set_more P m x false h so only_so = record {
  only = λ k i. let (l, p) = h.only k i in (omega arith, p);
  all = λ k l p. ⊎_elim (λ same. absurd (both_ways false refl (only_so (subst P same p)))) (λ apart. h.all k (omega arith) p) (cases_eq k m);
}

-- What is known of the first m cells, where N k is to be near the k-th and T k are its border bits.
pub record Preparing (N T : ℕ → ℕ) (m : ℕ) (near : List ℕ) (first last : ℕ) : Type 0 where
  pub room : length near ≡ 16
  pub each : (k : ℕ) → k < m → get_or near k 0 ≡ N k
  pub beyond : (k : ℕ) → m ≤ k → get_or near k 0 ≡ 0
  pub at_first : SetOf m first (λ k. Has 0 (T k))
  pub at_last : SetOf m last (λ k. Has 1 (T k))

pub preparing_none : (N T : ℕ → ℕ) → Preparing N T 0 (replicate 16 0) 0 0
preparing_none N T =
    record { room = refl; each = λ k l. absurd (omega arith); beyond = λ k l. nothing 16 k; at_first = set_none _; at_last = set_none _ }

pub preparing_more : {N T : ℕ → ℕ} {m : ℕ} {near : List ℕ} {first last : ℕ} → Preparing N T m near first last → (v bits first' last' : ℕ) → m < 16 → v ≡ N m → bits ≡ T m →
    first' ≡ (if eqb (bits % 2) 1 then bit_or first (2 ^ m) else first) → last' ≡ (if eqb (bits / 2 % 2) 1 then bit_or last (2 ^ m) else last) →
    Preparing N T (m + 1) (set near m v) first' last'
preparing_more {N} {T} {m} {near} {first} {last} h v bits first' last' l is-near is-bits is-first is_last = record {
  room = length-set near m v ∙ h.room;
  each = λ k i. ⊎_elim
      (λ same. ap (λ j. get_or (set near m v) j 0) same ∙ get_or-set_same near m v 0 (omega (arith, h.room)) ∙ is-near ∙ ap N (sym same))
      (λ apart. get_or-set_other near m k v 0 apart ∙ h.each k (omega arith))
      (cases_eq k m);
  beyond = λ k i. get_or-set_other near m k v 0 (omega arith) ∙ h.beyond k (omega arith);
  at_first = rw is-first (set_more (λ k. Has 0 (T k)) m first (eqb (bits % 2) 1) h.at_first (λ e. omega (arith, eqb-true (bits % 2) 1 e)) (λ e. eq-eqb (bits % 2) 1 (omega arith)));
  at_last = rw is_last (set_more (λ k. Has 1 (T k)) m last (eqb (bits / 2 % 2) 1) h.at_last (λ e. omega (arith, eqb-true (bits / 2 % 2) 1 e)) (λ e. eq-eqb (bits / 2 % 2) 1 (omega arith)));
}

-- what is near the k-th of the cells, and its border bits, by the groups of a forest
abbrev pub near_of : Board → ℕ → Forest → List ℕ → ℕ → ℕ
near_of b w f es k = near_at b w f.parents (gathered b w f.parents es (length es)) (get_or es k 0)

abbrev pub borders_of : Board → ℕ → Forest → List ℕ → ℕ → ℕ
borders_of b w f es k = borders_at b w f.parents f.borders (get_or es k 0)

-- Where the forest holds the groups of the board, that is what its stones make of the empty cells.
linked : (b : Board) (f : Forest) → Holds b f → length b.cells ≤ 361 → Good b → (w : ℕ) → (w ≡ 1) ⊎ (w ≡ 2) → (es : List ℕ) → Numbered b es →
    (l : Links) → Preparing (near_of b w f es) (borders_of b w f es) (length es) l.near l.first l.last → Linked b es w l
linked b f g small good w side es num l h = record {
  near = λ k i. record {
    only = λ j e. near_only b f g small good w side es num (get_or es k 0) (num.inside k i) j (sym (ap (bit j) (h.each k i)) ∙ e);
    all = λ j m tie. ap (bit j) (h.each k i) ∙ near_all b f g small good w side es num (get_or es k 0) (num.inside k i) j m tie;
  };
  beyond = λ k j e. ⊎_elim (λ i. i) (λ past. absurd (omega (arith, ap (bit j) (h.beyond k past), bit_none j))) (cases_lt k (length es));
  first = bound 0 (begins b.wide w) (first_bit b.wide w) h.at_first;
  last = bound 1 (ends b.wide w) (last_bit b.wide w) h.at_last;
}
  where
    bound : (t : ℕ) (border : ℕ → Bool) → ((q : ℕ) → Decides (border q) (Has t (touch b.wide w q))) → {r : ℕ} → SetOf (length es) r (λ k. Has t (borders_of b w f es k)) →
        SetOf (length es) r (λ k. Bound b w border (get_or es k 0))
    bound t border tells set = record {
      only = λ k e. let (i, has) = set.only k e in (i, bound_only b f g small good w side es num (get_or es k 0) (num.inside k i) t border tells has);
      all = λ k i is. set.all k i (bound_all b f g small good w side es num (get_or es k 0) (num.inside k i) t border tells is);
    }

-- So it is for the stones whose board and groups the memory keeps.
pub prepared : (n w : ℕ) → 0 < n → n ≤ 19 → (w ≡ 1) ⊎ (w ≡ 2) → (stones ps bs es : List ℕ) (l : Links) →
    Preparing (near_of (laid n stones) w (held ps bs) es) (borders_of (laid n stones) w (held ps bs) es) (length es) l.near l.first l.last → ArePrepared n w stones ps bs es l
prepared n w some few side stones ps bs es l h on lead num =
    linked (board_of n on) (forest_of n on) (legal_sound n on lead.legal).holds (omega (arith, board_cells n on lead.legal, mul-le-mul few few)) (board_good n on lead.legal some) w side es num l
    (subst₂ (λ b f. Preparing (near_of b w f es) (borders_of b w f es) (length es) l.near l.first l.last) (board_laid n on stones lead.cells) lead.groups h)
