-- One move more, and one move back: what becomes of the game, its board and who has won.
use Rattle.std.proofs.Common.{◌≡◌, ℕ, ◌%◌, ◌<◌, true, false, eqb, ◌≢◌, ◌⊎◌, ◌↔◌, List, [], ◌∷◌, ◌++◌, length, get_or, sym, refl, ap, ◌∙◌, subst, inl, inr, ⊎_elim, arith, if◌then◌else◌}
use Rattle.std.proofs.lemmas.List.{length_push, take_at}
use Rattle.std.proofs.lemmas.Bool.{cases_eq}
use Rattle.std.proofs.lemmas.Bool.Decides.{nat_tests}
use Rattle.hexboard.specs.Board.{Connects, put, other}
use Rattle.hexboard.specs.Games as games
use Rattle.hexboard.specs.Geometry.{laid}
use Rattle.hexboard.proofs.Boards.{set_back}
use Rattle.groups.specs.Stones as stones
use Rattle.groups.specs.Stones.{stone, is_free, AreLegal}
use Rattle.groups.specs.Moves.{stones_of, board_of, turn_of, forest_of, Legal}
use Rattle.groups.specs.Meaning.{Both, Open}
use Rattle.groups.proofs.Positions.{of_both, free_parts}
use Rattle.groups.proofs.InTurn.{stones_push, turn_push, turn_side, board_push, legal_last}
use Rattle.groups.proofs.Theorems.{neither, one_byte_decides, open_at_first}
use Rattle.history.specs.Played.{game_of, Played, winner_of}

-- the last of a list that ends in x, and the list without it
pub last_push : (i : ℕ) (ms : List ℕ) (x : ℕ) → games.last_of i (ms ++ x ∷ []) ≡ x
unfolding games.last_of
last_push i [] x = refl
last_push i (m ∷ ms) x = last_push m ms x

pub but_last_push : (ms : List ℕ) (x : ℕ) → games.but_last (ms ++ x ∷ []) ≡ ms
unfolding games.but_last
but_last_push [] x = refl
but_last_push (m ∷ []) x = refl
but_last_push (m ∷ (k ∷ ms)) x = ap (λ (xs : List ℕ). m ∷ xs) (but_last_push (k ∷ ms) x)

-- a move more in the game of the rules is a move more in the list
pub game_push : (n : ℕ) (ms : List ℕ) (x : ℕ) → is_free (board_of n ms) x ≡ true →
    games.after (game_of n ms) (games.moves x) ≡ game_of n (ms ++ x ∷ [])
unfolding games.after
game_push n ms x is =
    let made : games.Game = record { board = put (board_of n ms) (turn_of ms) x; turn = other (turn_of ms); moves = ms ++ x ∷ [] } in
    ap (λ t. if t then made else game_of n ms) is ∙
    λ i. record { board = sym (board_push n ms x) i; turn = sym (turn_push ms x) i; moves = ms ++ x ∷ [] }

-- the side to move comes back after two moves
other_other : (s : ℕ) → (s ≡ 1) ⊎ (s ≡ 2) → other (other s) ≡ s
other_other s h = omega arith

-- the last stone taken off leaves the board as it was before it
board_back : (n : ℕ) (ms : List ℕ) (x : ℕ) → is_free (board_of n ms) x ≡ true → put (board_of n (ms ++ x ∷ [])) 0 x ≡ board_of n ms
board_back n ms x is =
    let b = board_of n ms in
    ap (λ c. put c 0 x) (board_push n ms x) ∙ ap (laid b.wide) (set_back b.cells x (turn_of ms) (free_parts b x is).1)

-- and a move taken back is a move less
pub game_back : (n : ℕ) (ms : List ℕ) (x : ℕ) → Legal n (ms ++ x ∷ []) →
    games.after (game_of n (ms ++ x ∷ [])) games.back ≡ game_of n ms
unfolding games.after
game_back n ms x legal =
    let (before, is) = legal_last n ms x legal in
    let long = length_push ms x in
    let some : eqb (length (ms ++ x ∷ [])) 0 ≡ false = grind (arith, nat_tests) in
    let all = ms ++ x ∷ [] in
    let taken : games.Game = record { board = put (board_of n all) 0 (games.last_of 0 all); turn = other (turn_of all); moves = games.but_last all } in
    ap (λ t. if t then game_of n all else taken) some ∙
    λ i. record {
      board = (ap (put (board_of n all) 0) (last_push 0 ms x) ∙ board_back n ms x is) i;
      turn = (ap other (turn_push ms x) ∙ other_other (turn_of ms) (turn_side ms)) i;
      moves = but_last_push ms x i;
    }

-- a list is empty, or a list and one more
pub by_last : (ms : List ℕ) → (ms ≡ []) ⊎ ((ks : List ℕ) × (x : ℕ) × (ms ≡ ks ++ x ∷ []))
by_last [] = inl refl
by_last (m ∷ ms) =
    inr (⊎_elim (λ e. ([], m, ap (λ (xs : List ℕ). m ∷ xs) e)) (λ l. (m ∷ l.0, l.1, ap (λ (xs : List ℕ). m ∷ xs) l.2)) (by_last ms))

-- Who has won, by the byte of the last stone, is who has connected.
module _ (n : ℕ) (ms : List ℕ) (x : ℕ) (h : Played n (ms ++ x ∷ [])) where
  abbrev byte : ℕ
  byte = get_or (forest_of n (ms ++ x ∷ [])).borders x 0

  abbrev mover : ℕ
  mover = turn_of ms

  pub open_before : Open (board_of n ms)
  open_before =
      let short : length ms < length (ms ++ x ∷ []) = omega (arith, length_push ms x) in
      subst (λ (xs : List ℕ). Open (board_of n xs)) (take_at ms (x ∷ []) (length ms) refl) (h.before (length ms) short)

  mover_side : (mover ≡ 1) ⊎ (mover ≡ 2)
  mover_side = turn_side ms

  -- the byte of the last stone tells whether its side has connected, and the other side has not
  decides : (Connects (board_of n (ms ++ x ∷ [])) mover ↔ Both byte) × (Connects (board_of n (ms ++ x ∷ [])) (other mover) → ⊥)
  decides =
      subst
      (λ ps. (Connects (stones.board_of n ps) mover ↔ Both (get_or (stones.forest_of n ps).borders x 0)) × (Connects (stones.board_of n ps) (other mover) → ⊥))
      (sym (stones_push ms x))
      (one_byte_decides n (stones_of ms) (stone mover x) (subst (AreLegal n) (stones_push ms x) h.legal) open_before)

  pub winner_push : winner_of n (ms ++ x ∷ []) ≡ (if eqb (byte % 4) 3 then mover else 0)
  winner_push =
      let long = length_push ms x in
      let some : eqb (length (ms ++ x ∷ [])) 0 ≡ false = grind (arith, nat_tests) in
      let turn : other (turn_of (ms ++ x ∷ [])) ≡ mover =
      ap other (turn_push ms x) ∙ other_other mover mover_side in
      ap (λ t. if t then 0 else if eqb (get_or (forest_of n (ms ++ x ∷ [])).borders (games.last_of 0 (ms ++ x ∷ [])) 0 % 4) 3 then other (turn_of (ms ++ x ∷ [])) else 0) some ∙
      (ap (λ i. if eqb (get_or (forest_of n (ms ++ x ∷ [])).borders i 0 % 4) 3 then other (turn_of (ms ++ x ∷ [])) else 0) (last_push 0 ms x) ∙
      ap (λ s. if eqb (byte % 4) 3 then s else 0) turn)

  pub pushed_open : winner_of n (ms ++ x ∷ []) ≡ 0 → Open (board_of n (ms ++ x ∷ []))
  pushed_open e =
      let w = winner_push in
      let apart : Both byte → ⊥ = λ both. ⊎_elim (λ one. grind (arith, nat_tests)) (λ two. grind (arith, nat_tests)) mover_side in
      of_both (λ t. Connects (board_of n (ms ++ x ∷ [])) t → ⊥) mover mover_side (λ c. apart (decides.0.0 c)) decides.1

  pub pushed_won : (s : ℕ) → winner_of n (ms ++ x ∷ []) ≡ s → s ≢ 0 → Connects (board_of n (ms ++ x ∷ [])) s × ((s ≡ 1) ⊎ (s ≡ 2))
  pushed_won s e some =
      let w = winner_push in
      let told : Both byte × (mover ≡ s) = grind (arith, nat_tests) in
      (subst (Connects (board_of n (ms ++ x ∷ []))) told.1 (decides.0.1 told.0), subst (λ t. (t ≡ 1) ⊎ (t ≡ 2)) told.1 mover_side)

  -- The other side has not connected, so if a side has it is the mover.
  pub pushed_connects : (s : ℕ) → (s ≡ 1) ⊎ (s ≡ 2) → Connects (board_of n (ms ++ x ∷ [])) s → winner_of n (ms ++ x ∷ []) ≡ s
  pushed_connects s side c =
      let w = winner_push in
      ⊎_elim
      (λ own. let both : Both byte = decides.0.0 (subst (Connects (board_of n (ms ++ x ∷ []))) (sym own) c) in grind (arith, nat_tests))
      (λ apart. let m = mover_side in let is : s ≡ other mover = omega arith in absurd (decides.1 (subst (Connects (board_of n (ms ++ x ∷ []))) is c)))
      (cases_eq mover s)

-- where nobody has won nobody has connected
pub winner_open : (n : ℕ) (ms : List ℕ) → Played n ms → winner_of n ms ≡ 0 → Open (board_of n ms)
winner_open n ms h e =
    ⊎_elim (λ none. subst (λ (xs : List ℕ). Open (board_of n xs)) (sym none) (open_at_first n))
    (λ l. subst (λ (xs : List ℕ). Open (board_of n xs)) (sym l.2)
    (pushed_open n l.0 l.1 (subst (Played n) l.2 h) (subst (λ (xs : List ℕ). winner_of n xs ≡ 0) l.2 e)))
    (by_last ms)

-- who has won has connected
pub winner_won : (n : ℕ) (ms : List ℕ) → Played n ms → (s : ℕ) → winner_of n ms ≡ s → s ≢ 0 → Connects (board_of n ms) s × ((s ≡ 1) ⊎ (s ≡ 2))
winner_won n ms h s e some =
    ⊎_elim (λ none. absurd (some (sym e ∙ ap (winner_of n) none)))
    (λ l. subst (λ (xs : List ℕ). Connects (board_of n xs) s × ((s ≡ 1) ⊎ (s ≡ 2))) (sym l.2)
    (pushed_won n l.0 l.1 (subst (Played n) l.2 h) s (subst (λ (xs : List ℕ). winner_of n xs ≡ s) l.2 e) some))
    (by_last ms)

-- and who has connected has won
pub connects_won : (n : ℕ) (ms : List ℕ) → Played n ms → (s : ℕ) → (s ≡ 1) ⊎ (s ≡ 2) → Connects (board_of n ms) s → winner_of n ms ≡ s
connects_won n ms h s side c =
    ⊎_elim
    (λ none.
    let at_first : Connects (board_of n []) s = subst (λ (xs : List ℕ). Connects (board_of n xs) s) none c in
    absurd (neither (board_of n []) s (open_at_first n) side at_first))
    (λ l. subst (λ (xs : List ℕ). winner_of n xs ≡ s) (sym l.2)
    (pushed_connects n l.0 l.1 (subst (Played n) l.2 h) s side (subst (λ (xs : List ℕ). Connects (board_of n xs) s) l.2 c)))
    (by_last ms)
