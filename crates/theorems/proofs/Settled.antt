-- The rules settle every answer, but for which way of the side that has connected is shown, and what is said of forcing.
use Rattle.std.proofs.Common.{◌≡◌, ℕ, Bool, true, false, List, [], ◌∷◌, map, sym, refl, ap, ◌∙◌, subst, inl, inr, ⊎_elim, arith, if◌then◌else◌}
use Rattle.std.proofs.lemmas.Bool.{cases_eq}
use Rattle.hexboard.specs.Board.{Board, Connects}
use Rattle.hexboard.specs.Games.{Game, Call, moves, back, who, can_force, Answer, way, no, after, won, Right, AreRight, no_calls, next_call}
use Rattle.hexboard.specs.Games.{no_cell, is_over, taken, made, none_made, gone_back, by_way, nobody, forced, has_it, not_forced, many}
use Rattle.hexboard.specs.Promise.{Good}
use Rattle.hexboard.proofs.Boards.{good_set, other_side}
use Rattle.theorems.specs.Settled.{settled_part, RulesSettle}
use Rattle.theorems.proofs.NeverBoth.{never_both_of}
use Rattle.theorems.proofs.Stones.{Side, Against}

-- a game on a board as it can be, with a side to move
record CanBe (g : Game) : Type 0 where
  board : Good g.board
  turn : Side g.turn

-- the settled parts of two answers are the same, and so are the games after them
abbrev Alike : Answer → Answer → Game → Game → Type 0
Alike a b h k = (settled_part a ≡ settled_part b) × (h ≡ k)

-- Whether a cell is there, whether somebody has connected, and whether the cell is empty settle the answer to a move.
move_settled : {g : Game} {i : ℕ} {h k : Game} {a b : Answer} → Right g (moves i) a h → Right g (moves i) b k → Alike a b h k
move_settled (no_cell p) (no_cell q) = (refl, refl)
move_settled (no_cell p) (is_over q w) = absurd (omega arith)
move_settled (no_cell p) (taken q n f) = absurd (omega arith)
move_settled (no_cell p) (made q n e) = absurd (omega arith)
move_settled (is_over p v) (no_cell q) = absurd (omega arith)
move_settled (is_over p v) (is_over q w) = (refl, refl)
move_settled (is_over p v) (taken q n f) = absurd (n v)
move_settled (is_over p v) (made q n e) = absurd (n v)
move_settled (taken p m f) (no_cell q) = absurd (omega arith)
move_settled (taken p m f) (is_over q w) = absurd (m w)
move_settled (taken p m f) (taken q n g) = (refl, refl)
move_settled (taken p m f) (made q n e) = absurd (f e)
move_settled (made p m d) (no_cell q) = absurd (omega arith)
move_settled (made p m d) (is_over q w) = absurd (m w)
move_settled (made p m d) (taken q n f) = absurd (f d)
move_settled (made p m d) (made q n e) = (refl, refl)

-- Whether there are moves settles the answer to a take-back.
back_settled : {g h k : Game} {a b : Answer} → Right g back a h → Right g back b k → Alike a b h k
back_settled (none_made e) (none_made d) = (refl, refl)
back_settled (none_made e) (gone_back n) = absurd (n e)
back_settled (gone_back n) (none_made e) = absurd (n e)
back_settled (gone_back n) (gone_back m) = (refl, refl)

-- Of two sides that are not the same, each plays against the other.
against : (s t : ℕ) → Side s → Side t → (t ≡ s → ⊥) → Against s t
against s t (inl p) (inl q) apart = absurd (omega arith)
against s t (inl p) (inr q) apart = inl (p, q)
against s t (inr p) (inl q) apart = inr (p, q)
against s t (inr p) (inr q) apart = absurd (omega arith)

-- Who has connected is settled, since never both sides have.
one_side : (b : Board) (s t : ℕ) → Good b → Side s → Side t → Connects b s → Connects b t → t ≡ s
one_side b s t good first second c d =
    ⊎_elim (λ same. same) (λ apart. absurd (never_both_of b s t (against s t first second apart) good c d)) (cases_eq t s)

who_settled : {g h k : Game} {a b : Answer} → Good g.board → Right g who a h → Right g who b k → Alike a b h k
who_settled {g} good (by_way s v side is few) (by_way t w that its small) =
    (ap (λ r. way r []) (sym (one_side g.board s t good side that (v, is) (w, its))), refl)
who_settled good (by_way s v side is few) (nobody none) = absurd (none (won s side (v, is)))
who_settled good (nobody none) (by_way s v side is few) = absurd (none (won s side (v, is)))
who_settled good (nobody none) (nobody too) = (refl, refl)

-- Of what is said of forcing nothing is settled but the game.
forcing_settled : {g h : Game} {a : Answer} → Right g can_force a h → (settled_part a ≡ no) × (h ≡ g)
forcing_settled (forced i p n e f) = (refl, refl)
forcing_settled (has_it c) = (refl, refl)
forcing_settled (not_forced n) = (refl, refl)
forcing_settled (many p n) = (refl, refl)

answer_settled : {g h k : Game} (c : Call) {a b : Answer} → Good g.board → Right g c a h → Right g c b k → Alike a b h k
answer_settled (moves i) good p q = move_settled p q
answer_settled back good p q = back_settled p q
answer_settled who good p q = who_settled good p q
answer_settled can_force good p q =
    let (a, h) = forcing_settled p in
    let (b, k) = forcing_settled q in
    (a ∙ sym b, h ∙ sym k)

-- What holds of both values holds of the one that is picked.
picked : {A : Type 0} (P : A → Type 0) (t : Bool) (u v : A) → P u → P v → P (if t then u else v)
picked P true u v p q = p
picked P false u v p q = q

-- After a call the game still is on a board as it can be, with a side to move.
after_can_be : (g : Game) (c : Call) → CanBe g → CanBe (after g c)
unfolding after
after_can_be g (moves i) can =
    picked CanBe _ _ g (record { board = good_set g.board g.turn i (omega (arith, can.turn)) can.board; turn = other_side g.turn can.turn }) can
after_can_be g back can =
    picked CanBe _ g _ can (record { board = good_set g.board 0 _ (omega arith) can.board; turn = other_side g.turn can.turn })
after_can_be g who can = can
after_can_be g can_force can = can

right_can_be : {g h : Game} {c : Call} {a : Answer} → Right g c a h → CanBe g → CanBe h
right_can_be (no_cell p) can = can
right_can_be (is_over p w) can = can
right_can_be (taken p n f) can = can
right_can_be {g} (made {i = i} p n e) can = after_can_be g (moves i) can
right_can_be (none_made e) can = can
right_can_be {g} (gone_back n) can = after_can_be g back can
right_can_be (by_way s w side is few) can = can
right_can_be (nobody n) can = can
right_can_be (forced i p n e f) can = can
right_can_be (has_it c) can = can
right_can_be (not_forced n) can = can
right_can_be (many p n) can = can

-- So it is call by call.
all_settled : {g h k : Game} {calls : List Call} {answers others : List Answer} → CanBe g → AreRight g calls answers h → AreRight g calls others k →
    (map settled_part answers ≡ map settled_part others) × (h ≡ k)
all_settled can no_calls no_calls = (refl, refl)
all_settled can (next_call {h = h} {k = k} {c = c} {calls = calls} p ps) (next_call {k = k'} {answers = others} q qs) =
    let (same, left) = answer_settled c can.board p q in
    let (rest, end) = all_settled (right_can_be p can) ps (subst (λ m. AreRight m calls others k') (sym left) qs) in
    (λ i. same i ∷ rest i, end)

pub rules_settle : RulesSettle
rules_settle g h k calls answers others good side p q = all_settled (record { board = good; turn = side }) p q
