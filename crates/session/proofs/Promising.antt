-- A desk of the rules that answers as the code was heard to answer, answers all calls right.
use Rattle.std.proofs.Common.{◌≡◌, refl, ℕ, ◌*◌, ◌<◌, ◌≤◌, min, true, false, ◌&&◌, ◌==◌, nat_lt, List, [], ◌∷◌, map, length, ◌++◌, sym, ap, subst, ⊎_elim, mul-le-mul, arith, MatchResult, if◌then◌else◌}
use Rattle.std.proofs.lemmas.List.{length-set, length-replicate}
use Rattle.std.proofs.str.Laws.{order}
use Rattle.hexboard.specs.Board.{put, other, at, all_cells}
use Rattle.hexboard.specs.Games as games
use Rattle.hexboard.specs.Promise as promise
use Rattle.hexboard.proofs.Boards.{all_cells_replicate}
use Rattle.wire.specs.Bytes.{call_bytes, shown}
use Rattle.wire.specs.Formal.{asked}
use Rattle.wire.specs.Numbers.{reason}
use Rattle.wire.specs.declared.call.Call.{Call}
use Rattle.wire.specs.declared.call.Call.TheVariants as call
use Rattle.wire.proofs.Calls.{read_back}
use Rattle.wire.proofs.Tellings.{same_answer}
use Rattle.session.specs.Calling.{RightBytes}
use Rattle.session.specs.Runs.{Runs, one, says_all, asking, DesksAreRight, Hears, Plays, PlaysSuffice}

-- a board keeps its number of cells
length_after : (g : games.Game) (c : games.Call) → length ((games.after g c).board.cells) ≡ length g.board.cells
unfolding games.after
length_after g (games.moves i) =
    elim (nat_lt i (length g.board.cells) && at g.board i == 0)
    as (λ b. length ((if b then record { board = put g.board g.turn i; turn = other g.turn; moves = g.moves ++ (i ∷ []) } else g).board.cells) ≡ length g.board.cells)
    [ true ↦ length-set g.board.cells i g.turn | false ↦ λ _. length g.board.cells ]
length_after g games.back =
    elim (length g.moves == 0)
    as (λ b. length ((if b then g else record { board = put g.board 0 (games.last_of 0 g.moves); turn = other g.turn; moves = games.but_last g.moves }).board.cells) ≡ length g.board.cells)
    [ true ↦ λ _. length g.board.cells | false ↦ length-set g.board.cells (games.last_of 0 g.moves) 0 ]
length_after g games.who = λ _. length g.board.cells
length_after g games.can_force = λ _. length g.board.cells

same_length : {g h : games.Game} {c : games.Call} {a : games.Answer} → games.Right g c a h → length h.board.cells ≡ length g.board.cells
same_length {g = g} (games.no_cell p) = λ _. length g.board.cells
same_length {g = g} (games.is_over p w) = λ _. length g.board.cells
same_length {g = g} (games.taken p w q) = λ _. length g.board.cells
same_length {g = g} (games.made {i = i} p w q) = length_after g (games.moves i)
same_length {g = g} (games.none_made p) = λ _. length g.board.cells
same_length {g = g} (games.gone_back p) = length_after g games.back
same_length {g = g} (games.by_way s w p q r) = λ _. length g.board.cells
same_length {g = g} (games.nobody w) = λ _. length g.board.cells
same_length {g = g} (games.forced i p w q f) = λ _. length g.board.cells
same_length {g = g} (games.has_it c) = λ _. length g.board.cells
same_length {g = g} (games.not_forced f) = λ _. length g.board.cells
same_length {g = g} (games.many p w) = λ _. length g.board.cells

-- a cell that is not there is refused whatever its number
not_there : {g : games.Game} (i j : ℕ) {h : games.Game} {a : games.Answer} → length g.board.cells ≤ i → length g.board.cells ≤ j → games.Right g (games.moves i) a h → games.Right g (games.moves j) a h
not_there i j p q (games.no_cell r) = games.no_cell q
not_there i j p q (games.is_over r w) = absurd (omega (arith, p, r))
not_there i j p q (games.taken r w t) = absurd (omega (arith, p, r))
not_there i j p q (games.made r w t) = absurd (omega (arith, p, r))

-- what is right of the bytes that ask a call is right of the call
right_call : (g h : games.Game) (c : Call) (a : games.Answer) → RightBytes g (call_bytes c) a h → games.Right g (asked c) a h
right_call g h c a right =
    subst (λ r. MatchResult r (λ c. games.Right g (asked c) a h) (λ why. (a ≡ games.refused (reason why).number (reason why).place) × (h ≡ g))) (read_back c) right

right_asked : (g h : games.Game) (c : games.Call) (a : games.Answer) → length g.board.cells ≤ 65535 → RightBytes g (asking c) a h → games.Right g c a h
right_asked g h (games.moves cell) a fits right =
    let told = right_call g h (call.Move (min cell 65535)) a right in
    ⊎_elim
    (λ less. let same : min cell 65535 ≡ cell = omega (arith, less) in subst (λ i. games.Right g (games.moves i) a h) same told)
    (λ more. not_there (min cell 65535) cell (omega (arith, fits, more)) (omega (arith, fits, more)) told)
    (order cell 65535)
right_asked g h games.back a fits right = right_call g h call.Back a right
right_asked g h games.who a fits right = right_call g h call.Who a right
right_asked g h games.can_force a fits right = right_call g h call.CanForce a right

-- call by call
all_right : (d : promise.Desk) (m : promise.Memory) (g k : games.Game) (cs : List games.Call) → length g.board.cells ≤ 65535 →
    Runs g (map asking cs) (says_all d m cs) k → promise.AllRight d m g cs
all_right d m g k [] fits runs = promise.none
all_right d m g k (c ∷ cs) fits (one {h = h} right short many rest) =
    let told = right_asked g h c (d.says m c) fits right in
    promise.one told (λ is few e. omega (arith, many e, few)) (all_right d (d.next m c) h k cs (omega (arith, fits, same_length told)) rest)

-- answers are known by their bytes
same_answers : (answers told : List games.Answer) → map shown answers ≡ map shown told → answers ≡ told
same_answers [] [] e = λ _. []
same_answers [] (b ∷ ys) e = let z : length (map shown (b ∷ ys)) ≡ 0 = ap length (sym e) in absurd (omega (arith, z))
same_answers (a ∷ xs) [] e = let z : length (map shown (a ∷ xs)) ≡ 0 = ap length e in absurd (omega (arith, z))
same_answers (a ∷ xs) (b ∷ ys) e =
    let first : shown a ≡ shown b = cc in
    let rest : map shown xs ≡ map shown ys = cc in
    λ i. same_answer a b first i ∷ same_answers xs ys rest i

-- on every board of the desk
desks_right : (n : ℕ) (rows : List (List ℕ)) (answers : List games.Answer) (last : games.Game) → n ≤ 19 → Runs (games.new_game n) rows answers last →
    DesksAreRight n rows (map shown answers)
unfolding all_cells
desks_right n rows answers last few runs d cs asks says =
    let same = same_answers (says_all d (d.opened n) cs) answers says in
    all_right d (d.opened n) (games.new_game n) last cs
    (let small : n * n ≤ 361 = mul-le-mul few few in omega (arith, small, ap length (sym (all_cells_replicate (n * n))), length-replicate {A = ℕ} (n * n) 0))
    (subst (λ x. x) (λ i. Runs (games.new_game n) (sym asks i) (sym same i) last) runs)

-- so a run from a new game is a whole play
pub plays : (n : ℕ) (rows : List (List ℕ)) (before after : List (List ℕ) → Type 0) (g last : games.Game) → 0 < n → n ≤ 19 → g ≡ games.new_game n →
    Hears g rows last before after → Plays n rows before after
plays n rows before after g last some few new heard =
    let hears = subst (λ x. Hears x rows last before after) new heard in
    record { some = some; few = few; last = last; hears = hears; desks = desks_right n rows hears.answers last few hears.runs }

-- a desk that says what plays tell answers right
pub plays_suffice : PlaysSuffice
unfolding promise.AnswersRight
plays_suffice d says n cs some few =
    let play = says n cs some few in play.desks d cs refl (sym (play.hears.heard [] refl))
