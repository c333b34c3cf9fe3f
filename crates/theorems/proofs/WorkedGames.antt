-- Worked games: what is right by the run of their calls, and that nothing else is, since the rules settle it.
use Rattle.std.proofs.Common.{◌≡◌, ℕ, suc, ◌<◌, Bool, true, false, List, [], ◌∷◌, ◌++◌, length, map, refl, ap, ◌∙◌, subst, inl, arith}
use Rattle.std.proofs.lemmas.List.{length_push, map-append}
use Rattle.std.proofs.lemmas.Bool.{false≢true}
use Rattle.hexboard.specs.Board.{is_way}
use Rattle.hexboard.specs.Games.{Game, new_game, Call, who, Answer, refused, number, way, yes, no, too_many, Right, by_way, AreRight, no_calls, next_call}
use Rattle.hexboard.proofs.Boards.{good_empty}
use Rattle.theorems.specs.Settled.{settled_part}
use Rattle.theorems.specs.Worked.{AreOnlyRight, EndsInShortest}
use Rattle.theorems.proofs.Settled.{rules_settle}
use Rattle.theorems.proofs.Running.{checks, next, checks_all, last_game, check_right, run_right}
use Rattle.theorems.proofs.Shortest.{only_way, only_shortest}

-- From a new game the rules settle the answers, and the game that is left.
settled_from_new : (n : ℕ) → 0 < n → (calls : List Call) (answers others : List Answer) (h k : Game) → AreRight (new_game n) calls answers h →
    AreRight (new_game n) calls others k → (map settled_part others ≡ map settled_part answers) × (k ≡ h)
settled_from_new n some calls answers others h k p q = rules_settle (new_game n) k h calls others answers (good_empty n some) (inl refl) q p

-- all the answers are numbers
unfoldable pub all_numbers : List Answer → Bool
all_numbers [] = true
all_numbers (number k ∷ answers) = all_numbers answers
all_numbers (a ∷ answers) = false

-- A number is settled whole.
number_settled : (a : Answer) (k : ℕ) → settled_part a ≡ number k → a ≡ number k
number_settled (refused r p) k e = e
number_settled (number j) k e = e
number_settled (way s w) k e = absurd cc
number_settled (yes i) k e = absurd cc
number_settled no k e = e
number_settled too_many k e = absurd cc

numbers_settled : (answers others : List Answer) → all_numbers answers ≡ true → map settled_part others ≡ map settled_part answers → others ≡ answers
unfolding all_numbers
numbers_settled [] [] all e = refl
numbers_settled [] (b ∷ others) all e = absurd cc
numbers_settled (number k ∷ answers) [] all e = absurd cc
numbers_settled (number k ∷ answers) (b ∷ others) all e =
    let first : settled_part b ≡ number k = cc in
    let rest : map settled_part others ≡ map settled_part answers = cc in
    λ i. number_settled b k first i ∷ numbers_settled answers others all rest i
numbers_settled (a ∷ answers) others all e = absurd (false≢true all)

-- A run of calls that is looked through, and answered by numbers alone, is answered by nothing else.
pub only_numbers : (n : ℕ) (calls : List Call) (answers : List Answer) → 0 < n → checks_all (new_game n) calls answers ≡ true →
    all_numbers answers ≡ true → AreOnlyRight n calls answers
only_numbers n calls answers some run numbers = record {
  left = last_game (new_game n) calls answers;
  right = run_right (new_game n) calls answers run;
  only = λ others h p. numbers_settled answers others numbers
      (settled_from_new n some calls answers others _ h (run_right (new_game n) calls answers run) p).0;
}

-- There are as many answers as calls.
as_many : {g h : Game} {calls : List Call} {answers : List Answer} → AreRight g calls answers h → length calls ≡ length answers
as_many no_calls = refl
as_many (next_call p ps) = ap suc (as_many ps)

-- One call more is answered in the game that those before it have left, and so is the last of a list.
answered_last : {g m h : Game} {calls : List Call} {answers : List Answer} {c : Call} {a : Answer} → AreRight g calls answers m → Right m c a h →
    AreRight g (calls ++ c ∷ []) (answers ++ a ∷ []) h
answered_last no_calls q = next_call q no_calls
answered_last (next_call p ps) q = next_call p (answered_last ps q)

last_answer : (g : Game) (calls : List Call) (c : Call) (answers : List Answer) (a : Answer) (h : Game) → AreRight g (calls ++ c ∷ []) (answers ++ a ∷ []) h →
    (m : Game) × AreRight g calls answers m × Right m c a h
last_answer g [] c [] a h (next_call p no_calls) = (g, no_calls, p)
last_answer g [] c (b ∷ answers) a h (next_call p ps) = absurd (omega (arith, as_many ps, length_push answers a))
last_answer g (d ∷ calls) c [] a h (next_call p ps) = absurd (omega (arith, as_many ps, length_push calls c))
last_answer g (d ∷ calls) c (b ∷ answers) a h (next_call {h = k} p ps) =
    let (m, before, last) = last_answer k calls c answers a h ps in (m, next_call p before, last)

-- A right answer to who has connected that is a way is one.
way_is : {g h : Game} {s : ℕ} {w : List ℕ} → Right g who (way s w) h → is_way g.board s w ≡ true
way_is (by_way s w side is few) = is

-- A run that is looked through, and then way w of side s, which is the only shortest on the board that is left.
pub ends_in_shortest : (n : ℕ) (calls : List Call) (answers : List Answer) (s : ℕ) (w : List ℕ) → 0 < n → checks_all (new_game n) calls answers ≡ true →
    checks (last_game (new_game n) calls answers) who (way s w) ≡ true → only_way (last_game (new_game n) calls answers).board s w ≡ true →
    EndsInShortest n calls answers s w
ends_in_shortest n calls answers s w some run last only-w = record {
  left = next end who (way s w);
  right = whole;
  only = λ others h p. (settled_from_new n some _ _ others _ h whole p).0 ∙ map-append settled_part answers (way s w ∷ []);
  shortest = λ others v h p few.
      let (m, before, shown) = last_answer (new_game n) calls who others (way s v) h p in
      let left : m ≡ end = (settled_from_new n some calls answers others end m so_far before).1 in
      only_shortest end.board s v w only-w (subst (λ g. is_way g.board s v ≡ true) left (way_is shown)) few;
}
  where
    end : Game
    end = last_game (new_game n) calls answers

    so_far : AreRight (new_game n) calls answers end
    so_far = run_right (new_game n) calls answers run

    whole : AreRight (new_game n) (calls ++ who ∷ []) (answers ++ way s w ∷ []) (next end who (way s w))
    whole = answered_last so_far (check_right end who (way s w) last)
