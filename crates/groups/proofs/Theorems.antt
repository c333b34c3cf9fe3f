-- What groups mean, proved for every legal list of stones.
use Rattle.std.proofs.Common.{◌≡◌, ℕ, ◌*◌, ◌%◌, ◌<◌, Bool, true, eqb, ◌≢◌, ◌⊎◌, ◌↔◌, List, [], ◌∷◌, ◌++◌, length, get_or, sym, refl, ap, ◌∙◌, subst, inl, inr, arith}
use Rattle.std.proofs.lemmas.Bool.Decides.{Decides-like, Decides-at, Decides-eqb}
use Rattle.hexboard.specs.Board.{Board, at, other, Connects}
use Rattle.hexboard.specs.Geometry.{laid}
use Rattle.hexboard.proofs.Adjacent.{next_symmetric}
use Rattle.hexboard.proofs.Boards.{other_side}
use Rattle.groups.specs.Forest.{Forest, place, lift}
use Rattle.groups.specs.Stones.{Placement, Layout, stone, with_stone, layout_of, board_of, forest_of, can_lie, AreLegal, IsBoardAround}
use Rattle.groups.specs.Meaning.{Both, Together, Joined, Open, KeptOnce, OneMore, OneFewer, TellsWinner}
use Rattle.hexboard.proofs.TwoBytes.{same_bytes}
use Rattle.groups.proofs.Spanning.{same_root, spans, byte_decides, other_as_before}
use Rattle.groups.proofs.Ways.{connects}
use Rattle.groups.proofs.Positions.{Sound, no_empty, of_both, free_parts, lie_parts, with_stone_root, with_stone_sound, with_stone_back}
use Rattle.groups.proofs.Positions.{legal_none, legal_sound, legal_last, nothing_first, layout_push, board_cells, board_laid, board_push, forest_push, place_alike}

-- Of three statements, if the first holds exactly when the second does, and the second when the third does, so do the first and third.
iff_trans : {P Q R : Type 0} → (P ↔ Q) → (Q ↔ R) → (P ↔ R)
iff_trans h k = (λ p. k.0 (h.0 p), λ r. h.1 (k.1 r))

pub together : Together
together n ps s i j h side o p =
    same_root (next_symmetric (board_of n ps).wide) (legal_sound n ps h).holds s i j side o p

pub joined : Joined
joined n ps s h side =
    iff_trans (connects (board_of n ps) s) (spans (next_symmetric (board_of n ps).wide) (legal_sound n ps h).holds s side)

-- The last stone taken out leaves the groups as they were before it.
pub back_again : (n : ℕ) (ps : List Placement) (p : Placement) → AreLegal n (ps ++ p ∷ []) → lift (n * n) p.cell (forest_of n (ps ++ p ∷ [])) ≡ forest_of n ps
back_again n ps p h =
    let (before, can) = legal_last n ps p h in
    ap (λ k. lift k p.cell (forest_of n (ps ++ p ∷ []))) (sym (board_cells n ps before))
    ∙ ap (λ l. lift (length (board_of n ps).cells) p.cell l.forest) (layout_push n ps p)
    ∙ with_stone_back (layout_of n ps) p (legal_sound n ps before) can

-- Where nobody has connected, neither side has.
pub neither : (b : Board) (s : ℕ) → Open b → (s ≡ 1) ⊎ (s ≡ 2) → Connects b s → ⊥
neither b s free (inl e) c = free.0 (subst (Connects b) e c)
neither b s free (inr e) c = free.1 (subst (Connects b) e c)

-- A side does not play against itself.
two_sides : (s : ℕ) → (s ≡ 1) ⊎ (s ≡ 2) → other s ≢ s
two_sides s h e = omega arith

-- After one more stone on a board where nobody has connected, the byte of the stone tells whether its side has now, and the other
-- side has not.
module _ (l : Layout) (p : Placement) (ok : Sound l) (can : can_lie l.board p ≡ true) (not_yet : Open l.board) where
  abbrev s : ℕ
  s = p.side

  side : (s ≡ 1) ⊎ (s ≡ 2)
  side = (lie_parts l.board p can).0

  free : (p.cell < length l.board.cells) × (at l.board p.cell ≡ 0)
  free = free_parts l.board p.cell (lie_parts l.board p can).1

  byte_tells_it : Connects (with_stone l p).board s ↔ Both (get_or (with_stone l p).forest.borders p.cell 0)
  byte_tells_it =
      iff_trans (connects (with_stone l p).board s)
      (byte_decides (next_symmetric l.board.wide) l.board s p.cell (no_empty s side) free.0 free.1
      (with_stone_sound l p ok can).holds (with_stone_root l p ok can) (λ q. neither l.board s not_yet side ((connects l.board s).1 q)))

  other_has_not : Connects (with_stone l p).board (other s) → ⊥
  other_has_not c =
      neither l.board (other s) not_yet (other_side s side)
      ((connects l.board (other s)).1
      (other_as_before (next_symmetric l.board.wide) l.board s p.cell (no_empty s side) free.0 free.1
      (other s) (two_sides s side) ((connects (with_stone l p).board (other s)).0 c)))

-- The same of the last of legal stones.
pub one_byte_decides : (n : ℕ) (ps : List Placement) (p : Placement) → AreLegal n (ps ++ p ∷ []) → Open (board_of n ps) →
    (Connects (board_of n (ps ++ p ∷ [])) p.side ↔ Both (get_or (forest_of n (ps ++ p ∷ [])).borders p.cell 0))
    × (Connects (board_of n (ps ++ p ∷ [])) (other p.side) → ⊥)
one_byte_decides n ps p h not_yet =
    let (before, can) = legal_last n ps p h in
    let ok = legal_sound n ps before in
    subst (λ l. (Connects l.board p.side ↔ Both (get_or l.forest.borders p.cell 0)) × (Connects l.board (other p.side) → ⊥))
    (sym (layout_push n ps p))
    (byte_tells_it (layout_of n ps) p ok can not_yet, other_has_not (layout_of n ps) p ok can not_yet)

-- The test of the last stone's byte tells whether its side has connected.
pub byte_tells : (bs : List ℕ) (x : ℕ) (r : Bool) → r ≡ eqb (get_or bs x 0 % 4) 3 → TellsWinner bs x r
byte_tells bs x r e n ps s legal not_yet is =
    let (told, rest) = one_byte_decides n ps (stone s x) legal not_yet in
    let same : get_or bs x 0 % 4 ≡ get_or (forest_of n (ps ++ stone s x ∷ [])).borders x 0 % 4 = ap (λ l. get_or l x 0 % 4) is in
    (Decides-like r (λ both. told.1 (sym same ∙ both)) (λ c. same ∙ told.0 c) (Decides-at r _ e (Decides-eqb (get_or bs x 0 % 4) 3)), rest)

-- The groups that join a stone are the same whether the cells hold it yet or not.
joins_either : (n : ℕ) (ps : List Placement) (p : Placement) (cells : List ℕ) (f : Forest) → IsBoardAround n ps p cells →
    place (laid n cells) p.side p.cell f ≡ place (board_of n ps) p.side p.cell f
joins_either n ps p cells f (inl before) = ap (λ b. place b p.side p.cell f) (board_laid n ps cells before)
joins_either n ps p cells f (inr after) =
    ap (λ b. place b p.side p.cell f) (board_laid n (ps ++ p ∷ []) cells after ∙ board_push n ps p)
    ∙ place_alike (board_of n ps) p.side p.side p.cell f

-- Memory that keeps the groups of the stones keeps those of the stones with one more after that has come,
pub memory_grows : (n : ℕ) (cells : List ℕ) (s x : ℕ) (f f' : Forest) → f' ≡ place (laid n cells) s x f → OneMore n cells s x f f'
memory_grows n cells s x f f' e ps around kept =
    e ∙ ap (place (laid n cells) s x) kept ∙ joins_either n ps (stone s x) cells (forest_of n ps) around ∙ sym (forest_push n ps (stone s x))

-- and those of the stones without the last after that has been taken out.
pub memory_back : (n x : ℕ) (f f' : Forest) → f' ≡ lift (n * n) x f → OneFewer n x f f'
memory_back n x f f' e ps s legal kept = e ∙ ap (lift (n * n) x) kept ∙ back_again n ps (stone s x) legal

pub kept_once : KeptOnce
kept_once n ps one borders two others p q kept again =
    (same_bytes (n * n) one two p.many q.many p.small q.small (ap (λ f. f.parents) (kept ∙ sym again)), ap (λ f. f.borders) (kept ∙ sym again))

-- On the board without stones nobody has connected,
pub open_at_first : (n : ℕ) → Open (board_of n [])
open_at_first n = (never 1 (no_empty 1 (inl refl)), never 2 (no_empty 2 (inr refl)))
  where
    never : (s : ℕ) → s ≢ 0 → Connects (board_of n []) s → ⊥
    never s side c = let q = (joined n [] s (legal_none n) side).0 c in side (sym q.stone.1 ∙ nothing_first n q.top)

-- and as long as the last stone's byte has not both bits nobody has.
pub open_still : (n : ℕ) (ps : List Placement) (p : Placement) → AreLegal n (ps ++ p ∷ []) → Open (board_of n ps) →
    (Both (get_or (forest_of n (ps ++ p ∷ [])).borders p.cell 0) → ⊥) → Open (board_of n (ps ++ p ∷ []))
open_still n ps p legal not_yet isnt =
    let (told, rest) = one_byte_decides n ps p legal not_yet in
    let side = (lie_parts (board_of n ps) p (legal_last n ps p legal).1).0 in
    of_both (λ t. Connects (board_of n (ps ++ p ∷ [])) t → ⊥) p.side side (λ c. isnt (told.0 c)) rest
