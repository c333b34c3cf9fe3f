-- Who has won, and the board drawn with a way marked.
use Rattle.std.proofs.Common.{◌≡◌, ℕ, Bool, true, false, not, is_some, Some, None, Decides, Option, refl, arith}
use Rattle.hexboard.proofs.Boards.{side_number}
use Rattle.hexboard.specs.Games as games
use Rattle.hexboard.specs.Sides.{number}
use Rattle.hexboard.specs.declared.side.Side.{Side}
use Rattle.session.specs.Desks.{Outcome}

-- nobody is told as the winner just if nobody has won
pub open_if_nobody : (g : games.Game) (winner : Option Side) (r : Bool) → is_some winner ≡ not r → Outcome g winner → Decides r (games.Won g → ⊥)
open_if_nobody g None true e open' = (λ _. open', λ _. refl)
open_if_nobody g None false e open' = let z : ◌≡◌ {A = ℕ} 0 1 = cc in absurd (omega arith)
open_if_nobody g (Some side) true e connects = let z : ◌≡◌ {A = ℕ} 0 1 = cc in absurd (omega arith)
open_if_nobody g (Some side) false e connects =
    (λ t. let z : ◌≡◌ {A = ℕ} 0 1 = cc in absurd (omega arith), λ open'. absurd (open' (games.won (number side) (side_number side) connects)))

-- asking who has connected leaves the game as it is
pub who_keeps : {g h : games.Game} {c : games.Call} {a : games.Answer} → games.Right g c a h → c ≡ games.who → h ≡ g
who_keeps (games.no_cell p) e = refl
who_keeps (games.is_over p w) e = refl
who_keeps (games.taken p w q) e = refl
who_keeps (games.made p w q) e = let z : ◌≡◌ {A = ℕ} 0 1 = cc in absurd (omega arith)
who_keeps (games.none_made p) e = refl
who_keeps (games.gone_back p) e = let z : ◌≡◌ {A = ℕ} 0 1 = cc in absurd (omega arith)
who_keeps (games.by_way s w p q r) e = refl
who_keeps (games.nobody w) e = refl
who_keeps (games.forced i p w q f) e = refl
who_keeps (games.has_it c) e = refl
who_keeps (games.not_forced f) e = refl
who_keeps (games.many p w) e = refl
