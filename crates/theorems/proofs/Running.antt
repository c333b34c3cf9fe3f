-- A run of calls looked through: which answers are right, by the rules and the search for a way.
use Rattle.std.proofs.Common.{◌≡◌, ℕ, ◌-◌, Bool, true, false, ◌&&◌, ◌||◌, not, eqb, ltb, leb, List, [], ◌∷◌, length, sym, refl, ap, subst, inl, inr, ⊎_elim, arith}
use Rattle.std.proofs.lemmas.Bool.{false≢true, and_parts, or_cases, or_parts, not-true, eqb-true, eqb-false, ltb-true, leb-true}
use Rattle.std.proofs.lemmas.Bool.Decides.{not_from_Decides}
use Rattle.hexboard.specs.Board.{Board, at, is_way, Connects}
use Rattle.hexboard.specs.Games.{Game, Call, moves, back, who, Answer, refused, number, way, after, Won, won, Right, AreRight, no_calls, next_call}
use Rattle.hexboard.specs.Games.{is_over, made, gone_back, by_way, nobody}
use Rattle.theorems.specs.Search.{finds_way}
use Rattle.theorems.proofs.Stones.{Side}
use Rattle.theorems.proofs.Finding.{finds_way_decides}

-- the search finds a way of one of the sides
abbrev pub finds_any : Board → Bool
finds_any b = finds_way b 1 || finds_way b 2

-- Where it finds one somebody has won, and where it finds none nobody has.
found_won : (g : Game) → finds_any g.board ≡ true → Won g
found_won g e =
    ⊎_elim (λ one. won 1 (inl refl) ((finds_way_decides g.board 1 (omega arith)).0 one)) (λ two. won 2 (inr refl) ((finds_way_decides g.board 2 (omega arith)).0 two))
    (or_cases (finds_way g.board 1) (finds_way g.board 2) e)

found_open : (g : Game) → finds_any g.board ≡ false → Won g → ⊥
found_open g e (won s side c) = of_side s side c
  where
    none : (finds_way g.board 1 ≡ false) × (finds_way g.board 2 ≡ false)
    none = or_parts (finds_way g.board 1) (finds_way g.board 2) e

    of_side : (s : ℕ) → Side s → Connects g.board s → ⊥
    of_side s (inl one) c = not_from_Decides (finds_way g.board 1) (finds_way_decides g.board 1 (omega arith)) none.0 (subst (Connects g.board) one c)
    of_side s (inr two) c = not_from_Decides (finds_way g.board 2) (finds_way_decides g.board 2 (omega arith)) none.1 (subst (Connects g.board) two c)

-- a side of the two
abbrev pub is_side : ℕ → Bool
is_side s = eqb s 1 || eqb s 2

-- Tests that tell that an answer is right. They are for the answers of worked games, and fail for others.
unfoldable pub checks : Game → Call → Answer → Bool
checks g (moves i) (refused r p) = (eqb r 4 && eqb p 0) && (ltb i (length g.board.cells) && finds_any g.board)
checks g (moves i) (number k) = (ltb i (length g.board.cells) && not (finds_any g.board)) && (eqb (at g.board i) 0 && eqb k (length g.moves))
checks g back (number k) = not (eqb (length g.moves) 0) && eqb k (length g.moves - 1)
checks g who (number k) = eqb k 0 && not (finds_any g.board)
checks g who (way s w) = is_side s && (is_way g.board s w && leb (length w) (length g.board.cells))
checks g c a = false

-- the game after an answer
unfoldable pub next : Game → Call → Answer → Game
next g c (refused r p) = g
next g c a = after g c

unfoldable pub checks_all : Game → List Call → List Answer → Bool
checks_all g [] [] = true
checks_all g (c ∷ cs) (a ∷ answers) = checks g c a && checks_all (next g c a) cs answers
checks_all g cs answers = false

unfoldable pub last_game : Game → List Call → List Answer → Game
last_game g (c ∷ cs) (a ∷ answers) = last_game (next g c a) cs answers
last_game g cs answers = g

pub check_right : (g : Game) (c : Call) (a : Answer) → checks g c a ≡ true → Right g c a (next g c a)
unfolding checks next after
check_right g (moves i) (refused r p) e =
    let (told, rest) = and_parts (eqb r 4 && eqb p 0) _ e in
    let (reason, place) = and_parts (eqb r 4) (eqb p 0) told in
    let (on, over) = and_parts (ltb i (length g.board.cells)) (finds_any g.board) rest in
    subst (λ a. Right g (moves i) a g) (λ j. refused (sym (eqb-true r 4 reason) j) (sym (eqb-true p 0 place) j)) (is_over (ltb-true i _ on) (found_won g over))
check_right g (moves i) (number k) e =
    let (can, rest) = and_parts (ltb i (length g.board.cells) && not (finds_any g.board)) _ e in
    let (on, nobody_won) = and_parts (ltb i (length g.board.cells)) (not (finds_any g.board)) can in
    let (free, count) = and_parts (eqb (at g.board i) 0) (eqb k (length g.moves)) rest in
    subst (λ n. Right g (moves i) (number n) (after g (moves i))) (sym (eqb-true k _ count))
    (made (ltb-true i _ on) (found_open g (not-true _ nobody_won)) (eqb-true (at g.board i) 0 free))
check_right g back (number k) e =
    let (some, count) = and_parts (not (eqb (length g.moves) 0)) (eqb k (length g.moves - 1)) e in
    subst (λ n. Right g back (number n) (after g back)) (sym (eqb-true k _ count))
    (gone_back (λ none. eqb-false (length g.moves) 0 (not-true _ some) (ap length none)))
check_right g who (number k) e =
    let (none, nobody_won) = and_parts (eqb k 0) (not (finds_any g.board)) e in
    subst (λ n. Right g who (number n) (after g who)) (sym (eqb-true k 0 none)) (nobody (found_open g (not-true _ nobody_won)))
check_right g who (way s w) e =
    let (side, rest) = and_parts (is_side s) _ e in
    let (is, few) = and_parts (is_way g.board s w) (leb (length w) (length g.board.cells)) rest in
    by_way s w (⊎_elim (λ one. inl (eqb-true s 1 one)) (λ two. inr (eqb-true s 2 two)) (or_cases (eqb s 1) (eqb s 2) side)) is (leb-true _ _ few)
check_right g c a e = absurd (false≢true e)

-- So is the whole run.
pub run_right : (g : Game) (calls : List Call) (answers : List Answer) → checks_all g calls answers ≡ true → AreRight g calls answers (last_game g calls answers)
unfolding checks_all last_game
run_right g [] [] e = no_calls
run_right g (c ∷ calls) (a ∷ answers) e =
    let (now, later) = and_parts (checks g c a) (checks_all (next g c a) calls answers) e in
    next_call (check_right g c a now) (run_right (next g c a) calls answers later)
run_right g calls answers e = absurd (false≢true e)
