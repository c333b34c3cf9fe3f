-- What is written for one exchange more.
use Rattle.std.proofs.Common.{◌≡◌, ℕ, ◌+◌, ◌-◌, ◌^◌, min, List, [], ◌∷◌, ◌++◌, length, IfSome, IsSomeAnd, OnOk, Ok, Err, Some, None, Option, Result, codes, decimal, refl, sym, ap, subst, ◌∙◌, append-nil, append_assoc, add-zero, length-append, arith}
use Rattle.std.specs.Io.KnownBytes.{Appends, Keeps}
use Rattle.hexboard.specs.Games as games
use Rattle.driver.specs.Drawn.{IsShortestWay, Draws}
use Rattle.driver.specs.Exchanged.{Exchange, Exchanges, ServedAll}
use Rattle.driver.specs.Lines.{lines_of}
use Rattle.driver.specs.declared.limits.Limits.{Limits}
use Rattle.driver.specs.Leading.{IsRefusal, LeadsOn}
use Rattle.driver.specs.Printed.{Written, none, one, DrawsGame, ShowsPosition, PrintsAnswer, PrintsPosition, PrintsRefusal, AnswersAll, counted}
use Rattle.driver.specs.Served.{reply_line}

-- one exchange more at the end
pub written_more : {each : ℕ → Exchange → List ℕ → Type 0} {n : ℕ} {all : List Exchange} {bytes : List ℕ} (x : Exchange) (added : List ℕ) →
    Written each n all bytes → each (n + length all) x added → Written each n (all ++ x ∷ []) (bytes ++ added)
written_more {each} {n} x added none h = subst (Written each n (x ∷ [])) (append-nil added) (one x [] added [] (subst (λ k. each k x added) (add-zero n) h) none)
written_more {each} {n} x added (one y ys bytes rest first w) h =
    subst (Written each n (y ∷ (ys ++ x ∷ []))) (sym (append_assoc bytes rest added)) (one y _ bytes (rest ++ added) first (written_more x added w (subst (λ k. each k x added) (omega arith) h)))

-- what holds of all that was made
pub made : {X E P : Type 0} (r : Result X E) → P → OnOk r P
made (Ok x) p = p
made (Err e) p = tt

pub more_made : {X E P Q : Type 0} (r : Result X E) → (P → Q) → OnOk r P → OnOk r Q
more_made (Ok x) f p = f p
more_made (Err e) f p = tt

-- no position is drawn where the line leads to none,
pub leads_nowhere : (x : Exchange) → (LeadsOn x.asked x.reply → ⊥) → ShowsPosition x []
leads_nowhere x no' = (λ leads. absurd (no' leads), λ _. refl)

-- or no board is open
pub draws_none : (o : Option games.Game) (P : games.Game → Type 0) → o ≡ None → IfSome o P
draws_none None P e = tt
draws_none (Some g) P e = absurd cc

pub draws : (o k : Option games.Game) (cells drawing : List ℕ) → k ≡ o → IfSome o (λ g. IsShortestWay g cells) → IsSomeAnd k (λ g. Draws g cells drawing) →
    IfSome o (λ g. (cells : List ℕ) × IsShortestWay g cells × Draws g cells drawing)
draws None k cells drawing same way drawn = tt
draws (Some g) k cells drawing same way drawn = (cells, way, subst (λ j. IsSomeAnd j (λ g. Draws g cells drawing)) same drawn)

pub shows_one : (x : Exchange) (drawing : List ℕ) → LeadsOn x.asked x.reply → DrawsGame x drawing → ShowsPosition x drawing
shows_one x drawing leads drawn = (λ _. drawn, λ no'. absurd (no' leads))

-- an answer more is printed,
pub answer_more : (a b d : Option (List ℕ)) (all : List Exchange) (x : Exchange) (line : List ℕ) → Appends a b (line ++ codes "\n") → Keeps b d →
    line ≡ reply_line x.reply → IsSomeAnd a (Written PrintsAnswer 1 all) → IsSomeAnd d (Written PrintsAnswer 1 (all ++ x ∷ []))
answer_more (Some xs) (Some ys) (Some zs) all x line first kept is written =
    subst (Written PrintsAnswer 1 (all ++ x ∷ [])) (sym (kept ∙ first ∙ ap (λ l. xs ++ (l ++ codes "\n")) is)) (written_more x (reply_line x.reply ++ codes "\n") written refl)
answer_more (Some xs) (Some ys) None all x line first kept is written = absurd kept
answer_more (Some xs) None d all x line first kept is written = absurd first
answer_more None b d all x line first kept is written = absurd written

-- and a position behind it
pub printed_more : (a b c d : Option (List ℕ)) (all : List Exchange) (x : Exchange) (line drawing : List ℕ) → Appends a b (line ++ codes "\n") → Appends b c drawing → Keeps c d →
    line ≡ reply_line x.reply → ShowsPosition x drawing → IsSomeAnd a (Written PrintsPosition 1 all) → IsSomeAnd d (Written PrintsPosition 1 (all ++ x ∷ []))
printed_more (Some xs) (Some ys) (Some zs) (Some ws) all x line drawing first second kept is shows written =
    let added = reply_line x.reply ++ codes "\n" ++ drawing in
    let bytes : ws ≡ xs ++ added =
    kept ∙ second ∙ ap (λ l. l ++ drawing) (first ∙ ap (λ l. xs ++ (l ++ codes "\n")) is) ∙ append_assoc xs (reply_line x.reply ++ codes "\n") drawing in
    subst (Written PrintsPosition 1 (all ++ x ∷ [])) (sym bytes) (written_more x added written (drawing, shows, refl))
printed_more (Some xs) (Some ys) (Some zs) None all x line drawing first second kept is shows written = absurd kept
printed_more (Some xs) (Some ys) None d all x line drawing first second kept is shows written = absurd second
printed_more (Some xs) None c d all x line drawing first second kept is shows written = absurd first
printed_more None b c d all x line drawing first second kept is shows written = absurd written

-- a refusal more is printed,
pub refusal_more : (a b : Option (List ℕ)) (all : List Exchange) (x : Exchange) (number : ℕ) (told line : List ℕ) → Appends a b line → number ≡ counted (1 + length all) → told ≡ reply_line x.reply →
    line ≡ codes "line " ++ decimal number ++ codes ": " ++ told ++ codes "\n" → IsRefusal x.reply → IsSomeAnd a (Written PrintsRefusal 1 all) → IsSomeAnd b (Written PrintsRefusal 1 (all ++ x ∷ []))
refusal_more (Some xs) (Some ys) all x number told line adds is told_is line_is refused written =
    let same : line ≡ codes "line " ++ decimal (counted (1 + length all)) ++ codes ": " ++ reply_line x.reply ++ codes "\n" =
    line_is ∙ ap (λ n. codes "line " ++ decimal n ++ codes ": " ++ told ++ codes "\n") is
    ∙ ap (λ t. codes "line " ++ decimal (counted (1 + length all)) ++ codes ": " ++ t ++ codes "\n") told_is in
    subst (Written PrintsRefusal 1 (all ++ x ∷ [])) (sym adds) (written_more x line written (λ _. same, λ no'. absurd (no' refused)))
refusal_more (Some xs) None all x number told line adds is told_is line_is refused written = absurd adds
refusal_more None b all x number told line adds is told_is line_is refused written = absurd written

-- and stays when all is flushed;
pub still_written : (a b : Option (List ℕ)) (P : List ℕ → Type 0) → Keeps a b → IsSomeAnd a P → IsSomeAnd b P
still_written (Some xs) (Some ys) P kept p = subst P (sym kept) p
still_written (Some xs) None P kept p = absurd kept
still_written None b P kept p = absurd p

-- or nothing for another answer
pub nothing_more : (a : Option (List ℕ)) (all : List Exchange) (x : Exchange) → (IsRefusal x.reply → ⊥) → IsSomeAnd a (Written PrintsRefusal 1 all) → IsSomeAnd a (Written PrintsRefusal 1 (all ++ x ∷ []))
nothing_more None all x no' written = absurd written
nothing_more (Some xs) all x no' written = subst (Written PrintsRefusal 1 (all ++ x ∷ [])) (append-nil xs) (written_more x [] written (λ refused. absurd (no' refused), λ _. refl))

-- a line more is counted
pub counted_more : (all : List Exchange) (x : Exchange) (lines : ℕ) → lines ≡ counted (length all) → min (lines + 1) (2 ^ 64 - 1) ≡ counted (length (all ++ x ∷ []))
counted_more all x lines is = omega (arith, is, length-append all (x ∷ []))

pub number_is : (all : List Exchange) (lines : ℕ) → lines ≡ counted (length all) → min (lines + 1) (2 ^ 64 - 1) ≡ counted (1 + length all)
number_is all lines is = omega (arith, is)

-- what was heard of a whole input was written from nothing on
pub answers_all : (limits limits' : Limits) (input : List ℕ) (g h : Option games.Game) (old new : Option (List ℕ)) (out : List ℕ) →
    ServedAll limits' (Some input) g h (λ all. IsSomeAnd old (Written PrintsAnswer 1 all)) (λ all. IsSomeAnd new (Written PrintsAnswer 1 all)) →
    limits' ≡ limits → g ≡ None → old ≡ Some [] → new ≡ Some out → AnswersAll limits input out
answers_all limits limits' input g h old new out all same closed empty is =
    let nothing : IsSomeAnd old (Written PrintsAnswer 1 []) = subst (λ o. IsSomeAnd o (Written PrintsAnswer 1 [])) (sym empty) none in (
      all.exchanges,
      h,
      subst (λ l. Exchanges l None (lines_of input) all.exchanges h) same
          (subst (λ k. Exchanges limits' k (lines_of input) all.exchanges h) closed (subst (λ ls. Exchanges limits' g ls all.exchanges h) all.all all.served)),
      subst (λ o. IsSomeAnd o (Written PrintsAnswer 1 all.exchanges)) is (all.heard [] nothing),
    )
