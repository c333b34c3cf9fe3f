-- The beginning of a line, as far as there is room, and lines in the bytes of an input.
use Rattle.std.proofs.Common.{◌≡◌, ◌^◌, IsTrue, OnSome, map, ◌≢◌, ℕ, zero, suc, ◌+◌, ◌-◌, ◌<◌, ◌≤◌, ◌⊎◌, inl, inr, ⊎_elim, min, Bool, true, false, not, Some, None, IfSome, Option, List, [], ◌∷◌, ◌++◌, All, length, take, position, ◌==◌, cond, ne_eqb, true≢false, refl, sym, ap, subst, ◌∙◌, append-nil, length-append, append_assoc, arith}
use Rattle.std.proofs.Math.Nat.{sub-zero, zero-sub, suc-sub-suc}
use Rattle.std.specs.List.{position_or_len}
use Rattle.std.specs.Io.KnownBytes.{Consumes, IsAtEnd}
use Rattle.std.proofs.lemmas.List.{take_min, length-take, take_more, get_or-take, take_all, take-take}
use Rattle.std.proofs.lemmas.List.Elements.{All-nil, All-head, All-tail, All-append}
use Rattle.std.proofs.lemmas.List.Quantifiers.{position-Some}
use Rattle.std.proofs.lemmas.List.Sums.{prefix_len_passes}
use Rattle.std.proofs.lemmas.Bool.{cases_lt}
use Rattle.std.proofs.lemmas.Bool.Decides.{nat_tests}
use Rattle.std.proofs.lemmas.Grind.{common_steps}
use Rattle.std.proofs.KnownBytes.{Consumes-nil, Consumes-trans}
use Rattle.std.specs.Io.BufRead.{strip_last, ends_with_byte}
use Rattle.arrayvec.specs.ArrayVec.{ArrayVec}
use Rattle.driver.specs.declared.line.TheConstants.{ROOM, LONGEST_LINE}
use Rattle.driver.specs.declared.line.Stop.{Stop}
use Rattle.driver.specs.declared.line.Stop.TheVariants.{InLine, LineEnd, InputEnd}
use Rattle.driver.specs.Lines.{pieces, begin_line, trimmed, end_bytes, HasPart, Ends, TookSome, LosesLine, ReadLine, CanFail}

-- the first bytes of two rows together are those of the first, and as many of the second as there is room for
take-both : (n : ℕ) (xs ys : List ℕ) → take n (xs ++ ys) ≡ take n xs ++ take (n - length xs) ys
take-both zero [] ys = refl
take-both zero (x ∷ xs) ys = sym (ap (λ k. take k ys) (zero-sub (length (x ∷ xs))))
take-both (suc n) [] ys = ap (λ k. take k ys) (sym (sub-zero (suc n)))
take-both (suc n) (x ∷ xs) ys =
    ap (λ l. x ∷ l) (take-both n xs ys) ∙ ap (λ k. take (suc n) (x ∷ xs) ++ take k ys) (sym (suc-sub-suc n (length xs)))

pub kept_more : (n : ℕ) (all kept more : List ℕ) → kept ≡ take n all → kept ++ take (min (length more) (n - length kept)) more ≡ take n (all ++ more)
kept_more n all kept more is =
    let least : min (length more) (n - length kept) ≡ min (n - length kept) (length more) = omega arith in
    let room : n - length kept ≡ n - length all = omega (arith, ap length is, length-take n all) in
    ap (λ k. kept ++ take k more) least ∙ ap (λ l. kept ++ l) (take_min (n - length kept) more) ∙ ap (λ k. kept ++ take k more) room
    ∙ ap (λ l. l ++ take (n - length all) more) is ∙ sym (take-both n all more)

-- the bytes before the first line feed, and the line feed
pub fed : (bs : List ℕ) (end : ℕ) → position (λ b. b == 10) bs ≡ Some end →
    (end < length bs) × (take (end + 1) bs ≡ take end bs ++ 10 ∷ []) × All (λ b. b ≢ 10) (take end bs)
fed bs end e =
    let found = position-Some (λ b. b == 10) bs end 0 e in (
      found.0,
      take_more bs end 0 found.0 ∙ ap (λ b. take end bs ++ b ∷ []) (grind (arith, nat_tests, found.1)),
      λ k d lt is.
          let within : k < end = omega (arith, lt, length-take end bs) in
          let other = (position-Some (λ b. b == 10) bs end d e).2 k within in
          true≢false (sym (ap (λ b. b == 10) (sym (get_or-take end bs k d within) ∙ is)) ∙ other),
    )

-- no line feed
pub unfed : (bs : List ℕ) → position (λ b. b == 10) bs ≡ None → All (λ b. b ≢ 10) bs
unfed bs e = λ k d lt is.
    let all : length bs ≤ position_or_len (λ b. b == 10) bs = grind (arith, common_steps) in
    let other = prefix_len_passes (λ b. not (b == 10)) bs k d (omega (arith, all)) in
    true≢false (sym other ∙ ap (λ b. not (b == 10)) is)

-- the first piece of an input is what stands before its first line feed,
pub pieces-fed : (line rest : List ℕ) → All (λ b. b ≢ 10) line → pieces (line ++ 10 ∷ rest) ≡ line ∷ pieces rest
pieces-fed [] rest h = refl
pieces-fed (b ∷ line) rest h =
    ap (λ t. cond t ([] ∷ pieces (line ++ 10 ∷ rest)) (begin_line b (pieces (line ++ 10 ∷ rest)))) (ne_eqb b 10 (All-head (λ y. y ≢ 10) b line h))
    ∙ ap (begin_line b) (pieces-fed line rest (All-tail (λ y. y ≢ 10) b line h))

-- or all of it, if there is none
pub pieces-unfed : (line : List ℕ) → All (λ b. b ≢ 10) line → 0 < length line → pieces line ≡ line ∷ []
pieces-unfed [] h some = absurd (omega (arith, some))
pieces-unfed (b ∷ []) h some = ap (λ t. cond t ([] ∷ []) ((b ∷ []) ∷ [])) (ne_eqb b 10 (All-head (λ y. y ≢ 10) b [] h))
pieces-unfed (b ∷ (c ∷ line)) h some =
    ap (λ t. cond t ([] ∷ pieces (c ∷ line)) (begin_line b (pieces (c ∷ line)))) (ne_eqb b 10 (All-head (λ y. y ≢ 10) b (c ∷ line) h))
    ∙ ap (begin_line b) (pieces-unfed (c ∷ line) (All-tail (λ y. y ≢ 10) b (c ∷ line) h) (omega arith))

-- at the end of the input there is no part of a line
pub at_end : (before after : Option (List ℕ)) (part shown : List ℕ) (stop : Stop) → stop ≡ InputEnd → HasPart stop part → (stop ≡ InputEnd → length shown ≡ 0) →
    IfSome before (λ xs. length shown ≡ 0 → xs ≡ []) → (length shown ≡ 0 → OnSome before (IsAtEnd after)) → Consumes before after (part ++ end_bytes stop) →
    (part ≡ []) × Ends before after
at_end before after part shown InLine e some none empty end c = absurd cc
at_end before after part shown LineEnd e some none empty end c = absurd cc
at_end None after part shown InputEnd e some none empty end c = (some, tt)
at_end (Some xs) None part shown InputEnd e some none empty end c = absurd c
at_end (Some xs) (Some ys) part shown InputEnd e some none empty end c = (some, (empty (none e), end (none e)))

-- without the last byte or with it, the bytes before it are the same
take-strip : (k : ℕ) (xs : List ℕ) → k < length xs → take k (strip_last 13 xs) ≡ take k xs
take-strip k xs few = at (ends_with_byte 13 xs)
  where
    at : (b : Bool) → take k (cond b (take (length xs - 1) xs) xs) ≡ take k xs
    at true = take-take k (length xs - 1) xs (omega arith)
    at false = refl

-- what is kept of a line shows whether a carriage return is left out of it, unless it is too long
pub trim_kept : (n : ℕ) (all kept : List ℕ) → kept ≡ take (n + 1) all → take n (strip_last 13 kept) ≡ take n (strip_last 13 all)
trim_kept n all kept is =
    ⊎_elim
    (λ short. ap (λ l. take n (strip_last 13 l)) (is ∙ take_all (n + 1) all (omega arith)))
    (λ long.
    take-strip n kept (omega (arith, ap length is, length-take (n + 1) all)) ∙ ap (take n) is ∙ take-take n (n + 1) all (omega arith) ∙ sym (take-strip n all (omega arith)))
    (cases_lt (length all) (n + 2))

-- the bytes of a line that have come in so many turns
pub record SoFar (can_break : Bool) (before now' : Option (List ℕ)) (kept : ArrayVec ℕ) (turns : ℕ) : Type 0 where
  pub all : List ℕ
  pub consumed : Consumes before now' all
  pub no_feed : All (λ b. b ≢ 10) all
  pub kept_is : kept.items ≡ take ROOM all
  pub each : IsTrue can_break ⊎ (turns ≤ length all)

pub none_yet : (can_break : Bool) (before : Option (List ℕ)) (kept : ArrayVec ℕ) → kept.items ≡ [] → SoFar can_break before before kept 0
none_yet can_break before kept none = record {
  all = [];
  consumed = Consumes-nil before;
  no_feed = All-nil (λ b. b ≢ 10);
  kept_is = none;
  each = inr (omega arith);
}

-- a turn more, in which bytes have come, or reading can fail
pub some_more : (can_break : Bool) (before mid after : Option (List ℕ)) (old new : ArrayVec ℕ) (turns : ℕ) (stop : Stop) → stop ≡ InLine →
    SoFar can_break before mid old turns → TookSome can_break mid after old new stop → SoFar can_break before after new (turns + 1)
some_more can_break before mid after old new turns InLine e s t = record {
  all = s.all ++ t.part;
  consumed = Consumes-trans before mid after s.all t.part s.consumed (subst (Consumes mid after) (append-nil t.part) t.consumed);
  no_feed = All-append (λ b. b ≢ 10) s.all t.part s.no_feed t.no_feed;
  kept_is = t.kept s.all s.kept_is;
  each = ⊎_elim (λ breaks. inl breaks) (λ all. ⊎_elim (λ breaks. inl breaks) (λ some. inr (omega (arith, some, all, length-append s.all t.part))) t.some) s.each;
}
some_more can_break before mid after old new turns LineEnd e s t = absurd cc
some_more can_break before mid after old new turns InputEnd e s t = absurd cc

loses : (before after : Option (List ℕ)) (line end : List ℕ) → Consumes before after (line ++ end) → ((rest : List ℕ) → pieces (line ++ (end ++ rest)) ≡ line ∷ pieces rest) →
    LosesLine before after (trimmed line)
loses None after line end c is = tt
loses (Some xs) None line end c is = c
loses (Some xs) (Some ys) line end c is = ap (map trimmed) (ap pieces (c ∙ append_assoc line end ys) ∙ is ys)

-- a line's end came
pub line_read : (can_break : Bool) (before mid after : Option (List ℕ)) (old new kept : ArrayVec ℕ) (turns : ℕ) (stop : Stop) → stop ≡ LineEnd →
    SoFar can_break before mid old turns → TookSome can_break mid after old new stop →
    ((all : List ℕ) → new.items ≡ take ROOM all → kept.items ≡ take (LONGEST_LINE + 1) (trimmed all)) → ReadLine before after kept true
line_read can_break before mid after old new kept turns InLine e s t trims = absurd cc
line_read can_break before mid after old new kept turns InputEnd e s t trims = absurd cc
line_read can_break before mid after old new kept turns LineEnd e s t trims =
    let line = s.all ++ t.part in
    let whole = Consumes-trans before mid after s.all (t.part ++ 10 ∷ []) s.consumed t.consumed in (
      trimmed line,
      loses before after line (10 ∷ []) (subst (Consumes before after) (sym (append_assoc s.all t.part (10 ∷ []))) whole)
          (λ rest. pieces-fed line rest (All-append (λ b. b ≢ 10) s.all t.part s.no_feed t.no_feed)),
      trims line (t.kept s.all s.kept_is),
    )

ends_all : (before mid after : Option (List ℕ)) (all : List ℕ) → All (λ b. b ≢ 10) all → Consumes before mid all → Ends mid after →
    (all ≡ [] → Ends before after) × (0 < length all → LosesLine before after (trimmed all))
ends_all None mid after all h c e = (λ _. tt, λ _. tt)
ends_all (Some xs) None after all h c e = absurd c
ends_all (Some xs) (Some ys) None all h c e = absurd e
ends_all (Some xs) (Some ys) (Some zs) all h c e = (
  λ none. (c ∙ ap (λ l. l ++ ys) none ∙ e.0, e.1),
  λ some. ap (map trimmed) (ap pieces (c ∙ ap (λ l. all ++ l) e.0 ∙ append-nil all) ∙ pieces-unfed all h some ∙ ap (λ l. all ∷ pieces l) (sym e.1)),
)

nil : (xs : List ℕ) → length xs ≡ 0 → xs ≡ []
nil [] h = refl
nil (x ∷ xs) h = absurd (omega (arith, h))

-- the input's end came, behind a last line or behind none
pub last_read : (can_break : Bool) (before mid after : Option (List ℕ)) (old new kept : ArrayVec ℕ) (turns : ℕ) (stop : Stop) (some : Bool) → stop ≡ InputEnd →
    SoFar can_break before mid old turns → TookSome can_break mid after old new stop →
    ((all : List ℕ) → new.items ≡ take ROOM all → kept.items ≡ take (LONGEST_LINE + 1) (trimmed all)) → some ≡ not (length new.items == 0) → ReadLine before after kept some
last_read can_break before mid after old new kept turns stop true e s t trims is =
    let end = t.end e in
    let items : new.items ≡ take ROOM s.all = t.kept s.all s.kept_is ∙ ap (λ p. take ROOM (s.all ++ p)) end.0 ∙ ap (take ROOM) (append-nil s.all) in
    let long : length new.items ≡ min ROOM (length s.all) = ap length items ∙ length-take ROOM s.all in
    let some : 0 < length s.all = grind (arith, nat_tests) in
    (trimmed s.all, (ends_all before mid after s.all s.no_feed s.consumed end.1).1 some, trims s.all items)
last_read can_break before mid after old new kept turns stop false e s t trims is =
    let end = t.end e in
    let items : new.items ≡ take ROOM s.all = t.kept s.all s.kept_is ∙ ap (λ p. take ROOM (s.all ++ p)) end.0 ∙ ap (take ROOM) (append-nil s.all) in
    let long : length new.items ≡ min ROOM (length s.all) = ap length items ∙ length-take ROOM s.all in
    let none : length new.items ≡ 0 = grind (arith, nat_tests) in
    (ends_all before mid after s.all s.no_feed s.consumed end.1).0 (nil s.all (omega (arith, none, long)))

enough : (before after : Option (List ℕ)) (all : List ℕ) (n : ℕ) → n ≤ length all → Consumes before after all → IfSome before (λ xs. n ≤ length xs)
enough None after all n h c = tt
enough (Some xs) None all n h c = absurd c
enough (Some xs) (Some ys) all n h c = omega (arith, h, ap length c, length-append all ys)

-- so many turns are as many bytes
pub cut_off : (can_break : Bool) (before now' : Option (List ℕ)) (kept : ArrayVec ℕ) (turns : ℕ) → 2 ^ 64 - 1 ≤ turns → SoFar can_break before now' kept turns → CanFail can_break before
cut_off can_break before now' kept turns many s =
    ⊎_elim (λ breaks. inl breaks) (λ each. inr (enough before now' s.all (2 ^ 64 - 1) (omega (arith, many, each)) s.consumed)) s.each
