-- Lists of calls in bytes: what each call gives, and one more call at the end.
use Rattle.std.proofs.Common.{◌≡◌, ℕ, ◌+◌, ◌*◌, ◌<◌, ◌≤◌, List, [], ◌∷◌, ◌++◌, map, length, take, Some, None, Ok, Err, Option, Result, IsSome, sym, ap, ◌∙◌, subst, append_assoc, append-nil, mul-le-mul, arith, MatchResult, true}
use Rattle.std.specs.Borrow.{Bor}
use Rattle.std.proofs.lemmas.List.{take_all, take_at, map-append}
use Rattle.hexboard.specs.Board.{empties}
use Rattle.hexboard.specs.Games as games
use Rattle.wire.specs.Bytes.{shown}
use Rattle.wire.specs.Formal.{asked}
use Rattle.wire.specs.Numbers.{reason}
use Rattle.wire.specs.Reading.{read}
use Rattle.wire.specs.declared.call.Call.{Call}
use Rattle.wire.specs.declared.refusal.Refusal.{Refusal}
use Rattle.history.specs.Holds.{Memory}
use Rattle.history.specs.declared.game.Game.{Game}
use Rattle.session.specs.Calling.{RightBytes, Shown, Taken, Called}
use Rattle.session.specs.Short.{Short}
use Rattle.session.specs.Runs.{Runs, none, one, Hears, rows_of}

-- too many is right only with more than 16 empty cells
put_off : {g h : games.Game} {c : games.Call} {a : games.Answer} → games.Right g c a h → a ≡ games.too_many → 16 < empties g.board.cells
put_off (games.no_cell p) e = let z : ◌≡◌ {A = ℕ} 0 1 = cc in absurd (omega arith)
put_off (games.is_over p w) e = let z : ◌≡◌ {A = ℕ} 0 1 = cc in absurd (omega arith)
put_off (games.taken p w q) e = let z : ◌≡◌ {A = ℕ} 0 1 = cc in absurd (omega arith)
put_off (games.made p w q) e = let z : ◌≡◌ {A = ℕ} 0 1 = cc in absurd (omega arith)
put_off (games.none_made p) e = let z : ◌≡◌ {A = ℕ} 0 1 = cc in absurd (omega arith)
put_off (games.gone_back p) e = let z : ◌≡◌ {A = ℕ} 0 1 = cc in absurd (omega arith)
put_off (games.by_way s w p q r) e = let z : ◌≡◌ {A = ℕ} 0 1 = cc in absurd (omega arith)
put_off (games.nobody w) e = let z : ◌≡◌ {A = ℕ} 0 1 = cc in absurd (omega arith)
put_off (games.forced i p w q f) e = let z : ◌≡◌ {A = ℕ} 0 1 = cc in absurd (omega arith)
put_off (games.has_it c) e = let z : ◌≡◌ {A = ℕ} 0 1 = cc in absurd (omega arith)
put_off (games.not_forced f) e = let z : ◌≡◌ {A = ℕ} 0 1 = cc in absurd (omega arith)
put_off (games.many p w) e = p

-- bytes that are no call are answered by a refusal, and so never by too many
put_off_in_bytes : (g h : games.Game) (r : Result Call Refusal) (a : games.Answer) →
    MatchResult r (λ call. games.Right g (asked call) a h) (λ why. (a ≡ games.refused (reason why).number (reason why).place) × (h ≡ g)) →
    a ≡ games.too_many → 16 < empties g.board.cells
put_off_in_bytes g h (Ok call) a right e = put_off right e
put_off_in_bytes g h (Err why) a right e = let is = right.0 in let z : ◌≡◌ {A = ℕ} 0 1 = cc in absurd (omega arith)

-- one more call
run_more : {g h k : games.Game} {rows : List (List ℕ)} {answers : List games.Answer} (bytes : List ℕ) (a : games.Answer) → Runs g rows answers h →
    RightBytes h bytes a k → Short h.board a → (a ≡ games.too_many → 16 < empties h.board.cells) → Runs g (rows ++ bytes ∷ []) (answers ++ a ∷ []) k
run_more bytes a none right short many = one right short many none
run_more bytes a (one first brief few rest) right short many = one first brief few (run_more bytes a rest right short many)

-- what is heard: nothing at first,
pub hears_none : (g : games.Game) (before : List (List ℕ) → Type 0) → Hears g [] g before before
hears_none g before = record { answers = []; runs = none; heard = λ earlier h. subst before (sym (append-nil earlier)) h }

-- then an answer more for each call,
pub hears_more : (g h k : games.Game) (before mid after : List (List ℕ) → Type 0) (slices : List (Bor (List ℕ))) (i : ℕ) (slice : Bor (List ℕ)) (a : games.Answer) →
    take (i + 1) slices ≡ take i slices ++ slice ∷ [] → Hears g (rows_of (take i slices)) h before mid → RightBytes h slice.now a k → Short h.board a →
    ((earlier : List (List ℕ)) → mid earlier → after (earlier ++ shown a ∷ [])) → Hears g (rows_of (take (i + 1) slices)) k before after
hears_more g h k before mid after slices i slice a more so_far right short hears = record {
  answers = so_far.answers ++ a ∷ [];
  runs =
      subst (λ (rows : List (List ℕ)). Runs g rows (so_far.answers ++ a ∷ []) k)
      (sym (ap rows_of more ∙ map-append (λ (s : Bor (List ℕ)). s.now) (take i slices) (slice ∷ [])))
      (run_more slice.now a so_far.runs right short (put_off_in_bytes h k (read slice.now) a right));
  heard = λ earlier was.
      subst after (append_assoc earlier (map shown so_far.answers) (shown a ∷ []) ∙ ap (λ (rows : List (List ℕ)). earlier ++ rows) (sym (map-append shown so_far.answers (a ∷ []))))
      (hears (earlier ++ map shown so_far.answers) (so_far.heard earlier was));
}

-- and at the end an answer to each
pub hears_all : (g h : games.Game) (before after : List (List ℕ) → Type 0) (slices : List (Bor (List ℕ))) (i : ℕ) → length slices ≤ i →
    Hears g (rows_of (take i slices)) h before after → Hears g (rows_of slices) h before after
hears_all g h before after slices i past = subst (λ (cs : List (Bor (List ℕ))). Hears g (rows_of cs) h before after) (take_all i slices past)

-- an answer's bytes stand at the front
pub front_of : (a : games.Answer) (old new : List ℕ) (size : ℕ) → Shown a old new size → take size new ≡ shown a
front_of a old new size h = ap (take size) h.bytes ∙ take_at (shown a) _ size (sym h.many)

module _ (g : Game) (m : Memory) (scratch bytes old : List ℕ) (h : Game) (k : Memory) (scratch' new : List ℕ) where
  -- where there is room for every answer, there is one
  pub is_answered : (r : Option ℕ) → Called g m scratch bytes old h k scratch' new r → length old ≡ 730 → IsSome r
  is_answered None called long =
      let few : g.size.n * g.size.n ≤ 361 = mul-le-mul g.size.few g.size.few in absurd (omega (arith, called.0, long, few))
  is_answered (Some size) called long = λ _. true

  -- and it is what taking the call gives
  pub taken_by : (r : Option ℕ) (size : ℕ) → Called g m scratch bytes old h k scratch' new r → r ≡ Some size → Taken g m scratch bytes old h k scratch' new size
  taken_by r size called is = let P : Option ℕ → Type 0 = Called g m scratch bytes old h k scratch' new in (subst P is called).1
