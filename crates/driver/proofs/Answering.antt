-- What a line is read as, and what serving it at a table answers.
use Rattle.std.proofs.Common.{◌≡◌, ℕ, ◌+◌, ◌<◌, ◌≤◌, min, List, [], ◌++◌, length, take, Bool, true, false, if◌then◌else◌, IfSome, IsSomeAnd, Some, None, Ok, Err, Result, refl, sym, ap, subst, ◌∙◌, ⊎_elim, append-nil, arith}
use Rattle.std.proofs.lemmas.Bool.{cases_lt}
use Rattle.std.proofs.lemmas.List.{take_min, take_all, take-take, length-take}
use Rattle.hexboard.specs.Games as games
use Rattle.hexboard.specs.Words.{words}
use Rattle.wire.specs.Formal.{asked, shown_by}
use Rattle.wire.specs.declared.call.Call.{Call}
use Rattle.wire.specs.declared.refusal.Refusal.{Refusal}
use Rattle.session.specs.Desks.{RefusesSize}
use Rattle.session.specs.Short.{Short}
use Rattle.text.specs.Boards.{board_lines}
use Rattle.text.specs.Lines.{Asks, Readable}
use Rattle.text.specs.Places.{Stops}
use Rattle.text.specs.declared.reading.Line.{Line}
use Rattle.text.specs.declared.reading.Line.TheVariants as line
use Rattle.driver.specs.Drawn.{IsShortestWay}
use Rattle.driver.specs.Served.{ReadableTo, IsRead, IsServedSize, IsBeyond, Serves, answer}
use Rattle.driver.specs.declared.limits.Limits.{Limits}
use Rattle.driver.specs.declared.line.TheConstants.{LONGEST_LINE}
use Rattle.driver.proofs.Outcomes.{who_keeps}

-- as many bytes as there are, or the first n
pub kept_is : (n : ℕ) (bytes : List ℕ) → take (min (length bytes) n) bytes ≡ take n bytes
kept_is n bytes = let least : min (length bytes) n ≡ min n (length bytes) = omega arith in ap (λ k. take k bytes) least ∙ take_min n bytes

-- a beginning that can be read goes on with nothing
pub readable_to_all : (n : ℕ) (bytes : List ℕ) (l : Line) → n < length bytes → Asks (take n bytes) l → ReadableTo (take n bytes) n
readable_to_all n bytes l long asks =
    let count : length (take n bytes) ≡ n = omega (arith, length-take n bytes) in record {
      within = omega (arith, count);
      begins = ([], (l, subst (λ b. Asks b l) (sym (append-nil (take n (take n bytes)) ∙ take-take n n bytes (omega arith))) asks));
      longest = λ q more within reads. absurd (omega (arith, more, within, count));
    }

pub readable_to_stop : (bytes : List ℕ) (p : ℕ) → Stops Readable bytes p → ReadableTo bytes p
readable_to_stop bytes p stops = record { within = stops.within; begins = stops.begins; longest = stops.longest }

-- what can be read, but not its beginning, is longer
pub too_long : (n : ℕ) (bytes : List ℕ) (p : ℕ) → Stops Readable (take n bytes) p → Readable bytes → n < length bytes
too_long n bytes p stops reads =
    ⊎_elim (λ long. long) (λ short. absurd (stops.none (subst Readable (sym (take_all n bytes short)) reads))) (cases_lt n (length bytes))

-- what the beginning of a line that is kept is read as, the line is
pub is_read_kept : (bytes kept : List ℕ) (r : Result Line ℕ) → kept ≡ take (LONGEST_LINE + 1) bytes → IsRead kept r → IsRead bytes r
is_read_kept bytes kept (Ok l) is (short, asks) =
    let count : length kept ≡ min (LONGEST_LINE + 1) (length bytes) = ap length is ∙ length-take (LONGEST_LINE + 1) bytes in
    let all : kept ≡ bytes = is ∙ take_all (LONGEST_LINE + 1) bytes (omega (arith, short, count)) in
    subst (λ b. IsRead b (Ok l)) all (short, asks)
is_read_kept bytes kept (Err p) is (long, begins) =
    let count : length kept ≡ min (LONGEST_LINE + 1) (length bytes) = ap length is ∙ length-take (LONGEST_LINE + 1) bytes in (
      λ reads.
          ⊎_elim (λ more. more)
          (λ short.
          let all : kept ≡ bytes = is ∙ take_all (LONGEST_LINE + 1) bytes (omega (arith, short)) in
          absurd (omega (arith, long (subst Readable (sym all) reads), count, short)))
          (cases_lt LONGEST_LINE (length bytes)),
      subst (λ b. ReadableTo b p) (ap (take LONGEST_LINE) is ∙ take-take LONGEST_LINE (LONGEST_LINE + 1) bytes (omega arith)) begins,
    )

-- a size that is refused is none that the program serves
pub refuses : (limits : Limits) (n largest : ℕ) (why : Refusal) → largest ≡ limits.largest.n → RefusesSize n largest why → IsServedSize limits n → ⊥
refuses limits n largest why is reason (some, within) =
    let few : limits.largest.n ≤ 19 = limits.largest.few in
    ⊎_elim (λ range. range.1 some (omega (arith, within, few))) (λ room. omega (arith, room.3, within, is)) reason

module _ (limits : Limits) (call : Call) (g : games.Game) where
  pub closed : (open' : Bool) → open' ≡ false →
      Serves limits (Ok (line.Call call)) (if open' then Some g else None) (answer (games.refused 1 0)) (if open' then Some g else None)
  closed true e = absurd cc
  closed false e = Serves.no_board call

  pub put_off : (open' : Bool) → open' ≡ true → IsBeyond limits g call →
      Serves limits (Ok (line.Call call)) (if open' then Some g else None) (answer games.too_many) (if open' then Some g else None)
  put_off true e far = Serves.beyond call far
  put_off false e far = absurd cc

  pub answered : (open' : Bool) (h : games.Game) (a : games.Answer) → open' ≡ true → (IsBeyond limits g call → ⊥) → games.Right g (asked call) a h → Short g.board a →
      Serves limits (Ok (line.Call call)) (if open' then Some g else None) (answer a) (if open' then Some h else None)
  answered true h a e near right short = Serves.answers call a near right short
  answered false h a e near right short = absurd cc

-- the way that was found is a shortest
pub found : (open' : Bool) (g h : games.Game) (a : games.Answer) (cells : List ℕ) → games.Right g games.who a h → Short g.board a → cells ≡ shown_by a →
    IfSome (if open' then Some g else None) (λ k. IsShortestWay k cells)
found true g h a cells right short is = (a, subst (λ (k : games.Game). games.Right g games.who a k) (who_keeps right refl) right, short, is)
found false g h a cells right short is = tt

-- what holds of the game holds of the one that is open
pub is_open_with : (open' : Bool) (g : games.Game) (P : games.Game → Type 0) → open' ≡ true → P g → IsSomeAnd (if open' then Some g else None) P
is_open_with true g P e p = p
is_open_with false g P e p = absurd cc

-- the same board, with the same cells marked, is drawn alike
pub same_lines : {n m : ℕ} {cells stones way marked : List ℕ} (rest : List ℕ) → n ≡ m → cells ≡ stones → way ≡ marked →
    board_lines n cells (words way) ++ rest ≡ board_lines m stones (words marked) ++ rest
same_lines {n} {m} {cells} {stones} {way} {marked} rest wide same is =
    ap (λ k. board_lines k cells (words way) ++ rest) wide ∙ ap (λ c. board_lines m c (words way) ++ rest) same ∙ ap (λ w. board_lines m stones (words w) ++ rest) is
