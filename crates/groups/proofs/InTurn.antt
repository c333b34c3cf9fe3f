-- Moves are stones of the sides in turn: what holds of stones, said of the list of moves.
use Rattle.std.proofs.Common.{◌≡◌, ℕ, ◌%◌, true, eqb, ◌⊎◌, List, [], ◌∷◌, ◌++◌, length, sym, refl, ap, ◌∙◌, subst, inl, arith, if◌then◌else◌}
use Rattle.std.proofs.lemmas.List.{length_push}
use Rattle.std.proofs.lemmas.Bool.Decides.{nat_tests}
use Rattle.hexboard.specs.Board.{put, other}
use Rattle.hexboard.proofs.Boards.{other_side}
use Rattle.groups.specs.Stones.{Placement, stone, is_free, AreLegal}
use Rattle.groups.specs.Moves.{in_turn, stones_of, turn_of, board_of, Legal}
use Rattle.groups.proofs.Positions.{lie_parts, lie_from}
use Rattle.groups.specs.Stones as stones
use Rattle.groups.proofs.Positions as positions

-- the side to move after a list of moves, where side s moves first
abbrev turn_from : ℕ → List ℕ → ℕ
turn_from s ms = if eqb (length ms % 2) 0 then s else other s

-- With one more move the other side is to move,
turn_more : (s : ℕ) (ms : List ℕ) (x : ℕ) → (s ≡ 1) ⊎ (s ≡ 2) → turn_from s (x ∷ ms) ≡ turn_from (other s) ms
turn_more s ms x side = grind (arith, nat_tests)

pub turn_push : (ms : List ℕ) (x : ℕ) → turn_of (ms ++ x ∷ []) ≡ other (turn_of ms)
turn_push ms x = let long = length_push ms x in grind (arith, nat_tests)

-- and it is always a side.
pub turn_side : (ms : List ℕ) → (turn_of ms ≡ 1) ⊎ (turn_of ms ≡ 2)
turn_side ms = grind (arith, nat_tests)

-- The last of the moves lays a stone of the side that is to move after the others.
push_from : (s : ℕ) (ms : List ℕ) (x : ℕ) → (s ≡ 1) ⊎ (s ≡ 2) → in_turn s (ms ++ x ∷ []) ≡ in_turn s ms ++ stone (turn_from s ms) x ∷ []
push_from s [] x side = refl
push_from s (m ∷ ms) x side =
    ap (λ (ps : List Placement). stone s m ∷ ps)
    (push_from (other s) ms x (other_side s side) ∙ ap (λ t. in_turn (other s) ms ++ stone t x ∷ []) (sym (turn_more s ms m side)))

pub stones_push : (ms : List ℕ) (x : ℕ) → stones_of (ms ++ x ∷ []) ≡ stones_of ms ++ stone (turn_of ms) x ∷ []
stones_push ms x = push_from 1 ms x (inl refl)

-- So a stone of that side is the last of the moves.
pub last_stone : (ms : List ℕ) (s x : ℕ) → s ≡ turn_of ms → stones_of ms ++ stone s x ∷ [] ≡ stones_of (ms ++ x ∷ [])
last_stone ms s x e = ap (λ t. stones_of ms ++ stone t x ∷ []) e ∙ sym (stones_push ms x)

-- One move more: the board has its stone, and its groups have joined.
pub board_push : (n : ℕ) (ms : List ℕ) (x : ℕ) → board_of n (ms ++ x ∷ []) ≡ put (board_of n ms) (turn_of ms) x
board_push n ms x = ap (stones.board_of n) (stones_push ms x) ∙ positions.board_push n (stones_of ms) (stone (turn_of ms) x)

-- Moves with one more are legal exactly when they are, and it goes to a free cell then.
pub legal_push : (n : ℕ) (ms : List ℕ) (x : ℕ) → Legal n ms → is_free (board_of n ms) x ≡ true → Legal n (ms ++ x ∷ [])
legal_push n ms x h free =
    subst (AreLegal n) (sym (stones_push ms x))
    (positions.legal_push n (stones_of ms) (stone (turn_of ms) x) h (lie_from (board_of n ms) (stone (turn_of ms) x) (turn_side ms) free))

pub legal_last : (n : ℕ) (ms : List ℕ) (x : ℕ) → Legal n (ms ++ x ∷ []) → Legal n ms × (is_free (board_of n ms) x ≡ true)
legal_last n ms x h =
    let (before, can) = positions.legal_last n (stones_of ms) (stone (turn_of ms) x) (subst (AreLegal n) (stones_push ms x) h) in
    (before, (lie_parts (board_of n ms) (stone (turn_of ms) x) can).1)
