-- A way in an answer's bytes: its head written in front of its cells, which stand there already.
use Rattle.std.proofs.Common.{◌≡◌, ℕ, ◌+◌, ◌-◌, ◌*◌, ◌/◌, min, ◌<◌, ◌≤◌, ◌⊎◌, List, ◌∷◌, ◌++◌, length, get_or, take, drop, Some, None, Ok, Option, sym, refl, ap, ◌∙◌, subst, inl, inr, ⊎_elim, append_assoc, append-nil, arith, MatchResult}
use borrow.Rule.Slice.PartMut.{put_mid}
use Rattle.std.specs.List.{flat_map}
use Rattle.std.proofs.lemmas.List.{length-append, length-drop, length-take-le, take-append-drop, drop_all, drop_at, drop-drop, get_or-take, get_or-drop, length-take, get_or_past, take_rest, take_min}
use Rattle.std.proofs.str.Laws.{order}
use Rattle.hexboard.specs.Games as games
use Rattle.hexboard.specs.Sides.{number}
use Rattle.hexboard.specs.declared.side.Side.{Side}
use Rattle.hexboard.specs.Words.{words}
use Rattle.wire.specs.Bytes.{two, way_head, shown, Written}
use Rattle.wire.specs.Formal.{asked}
use Rattle.wire.specs.Numbers.{reason}
use Rattle.wire.specs.Reading.{read}
use Rattle.wire.specs.declared.call.Call.{Call}
use Rattle.hexboard.proofs.TwoBytes.{words_length, words_take}
use Rattle.wire.proofs.Words.{joined_words, length_joined}
use Rattle.session.specs.Replies.{Reply, replied, way_cells}
use Rattle.session.specs.Calling.{Shown, Refuses, RightBytes}
use Rattle.wire.specs.declared.answer.Answer.TheVariants as reply
use Rattle.wire.specs.declared.refusal.Refusal.{Refusal}

-- whole cells alone tell the same way
pub whole_cells : (bs : List ℕ) (k j : ℕ) → j ≡ min k (length bs / 2) → words (take (2 * j) bs) ≡ words (take (2 * k) bs)
whole_cells bs k j few =
    ap (λ i. words (take i bs)) (twice j) ∙ words_take j bs ∙ (ap (λ i. take i (words bs)) (few ∙ ap (min k) (sym (words_length bs))) ∙
    (take_min k (words bs) ∙ (sym (words_take k bs) ∙ ap (λ i. words (take i bs)) (sym (twice k)))))
  where
    twice : (i : ℕ) → 2 * i ≡ i * 2
    twice i = omega arith

-- bytes of a part are bytes
part_small : (bs : List ℕ) (n k : ℕ) → ((i : ℕ) → get_or bs i 0 < 256) → (i : ℕ) → get_or (take n (drop k bs)) i 0 < 256
part_small bs n k small i =
    ⊎_elim
    (λ less. omega (arith, get_or-take n (drop k bs) i 0 less, get_or-drop k bs i 0, small (k + i)))
    (λ more. omega (arith, get_or_past (take n (drop k bs)) i 0 (omega (arith, length-take n (drop k bs)))))
    (order i n)

module _ (side : Side) (count : ℕ) (old : List ℕ) (room : 5 + 2 * count ≤ length old) where
  -- the bytes of the way's cells
  abbrev cells : List ℕ
  cells = take (2 * count) (drop 5 old)

  cells_long : length cells ≡ 2 * count
  cells_long = length-take-le (2 * count) (drop 5 old) (omega (arith, length-drop 5 old))

  head_and_cells : ((i : ℕ) → get_or cells i 0 < 256) → shown (games.way (number side) (words cells)) ≡ way_head side count ++ cells
  head_and_cells small =
      let many : length (words cells) ≡ count = omega (arith, words_length cells, cells_long) in
      let back = joined_words cells small (omega (arith, cells_long)) in
      ap (λ k. 2 ∷ (two (number side) ++ (two k ++ flat_map two (words cells)))) many ∙ ap (λ (xs : List ℕ). 2 ∷ (two (number side) ++ (two count ++ xs))) back

  pub shown_way : (new : List ℕ) → ((i : ℕ) → get_or new i 0 < 256) → (r : Option ℕ) → Written (way_head side count) old new r →
      Shown (games.way (number side) (words cells)) old new (5 + 2 * count)
  shown_way new small None short = absurd (omega (arith, short.0))
  shown_way new small (Some size) w =
      let same : drop 5 new ≡ drop 5 old = ap (drop 5) w.2 ∙ drop_at (way_head side count) (drop 5 old) 5 refl in
      let whole = head_and_cells (subst (λ (xs : List ℕ). (i : ℕ) → get_or (take (2 * count) xs) i 0 < 256) same (part_small new (2 * count) 5 small)) in
      record {
        many = sym (ap length whole ∙ (length-append (way_head side count) cells ∙ ap (λ k. 5 + k) cells_long));
        bytes =
            w.2 ∙ (ap (λ (xs : List ℕ). way_head side count ++ xs) (sym (take-append-drop (2 * count) (drop 5 old)) ∙ ap (λ (xs : List ℕ). cells ++ xs) (drop-drop (2 * count) 5 old)) ∙
            (sym (append_assoc (way_head side count) cells (drop (5 + 2 * count) old)) ∙ ap (λ (xs : List ℕ). xs ++ drop (5 + 2 * count) old) (sym whole)));
      }

-- Five bytes are kept for the head, and the rest is lent for the way's cells: what stands there then.
module _ (old way : List ℕ) (room : 5 ≤ length old) (long : length way ≡ length old - 5) where
  lent_behind : put_mid 5 (length old - 5) old way ≡ take 5 old ++ way
  lent_behind =
      ap (λ (xs : List ℕ). take 5 old ++ (way ++ xs)) (drop_all (length old - 5) (drop 5 old) (omega (arith, length-drop 5 old))) ∙
      ap (λ (xs : List ℕ). take 5 old ++ xs) (append-nil way)

  pub way_lent : drop 5 (put_mid 5 (length old - 5) old way) ≡ way
  way_lent = ap (drop 5) lent_behind ∙ drop_at (take 5 old) way 5 (length-take-le 5 old room)

  pub lent_long : length (put_mid 5 (length old - 5) old way) ≡ length old
  lent_long = ap length lent_behind ∙ (length-append (take 5 old) way ∙ omega (arith, length-take-le 5 old room))

  -- behind the answer's bytes nothing changes: k cells of a way were written, or none
  pub shown_after : (a : games.Answer) (k : ℕ) (new : List ℕ) (size : ℕ) → drop (2 * k) way ≡ drop (2 * k) (drop 5 old) →
      (k ≡ 0) ⊎ (size ≡ 5 + 2 * k) → Shown a (put_mid 5 (length old - 5) old way) new size → Shown a old new size
  shown_after a k new size behind either h = record { many = h.many; bytes = h.bytes ∙ ap (λ (xs : List ℕ). shown a ++ xs) (same either) }
    where
      all : way ≡ drop 5 old → put_mid 5 (length old - 5) old way ≡ old
      all e = lent_behind ∙ (ap (λ (xs : List ℕ). take 5 old ++ xs) e ∙ take-append-drop 5 old)

      same : (k ≡ 0) ⊎ (size ≡ 5 + 2 * k) → drop size (put_mid 5 (length old - 5) old way) ≡ drop size old
      same (inl none) = ap (drop size) (all (subst (λ j. drop (2 * j) way ≡ drop (2 * j) (drop 5 old)) none behind))
      same (inr e) =
          ap (λ j. drop j (put_mid 5 (length old - 5) old way)) e ∙
          (sym (drop-drop (2 * k) 5 (put_mid 5 (length old - 5) old way)) ∙
          (ap (drop (2 * k)) way_lent ∙ (behind ∙ (drop-drop (2 * k) 5 old ∙ ap (λ j. drop j old) (sym e)))))

-- how many bytes a reply has: none for cells, or those of a way's head and cells
pub reply_long : (r : Reply) (bytes : List ℕ) → 2 * way_cells r ≤ length bytes → (way_cells r ≡ 0) ⊎ (length (shown (replied r bytes)) ≡ 5 + 2 * way_cells r)
reply_long (reply.Refused why) bytes room = inl refl
reply_long (reply.Number n) bytes room = inl refl
reply_long (reply.Way side count) bytes room =
    let cells = take (2 * count) bytes in
    inr (omega (arith, length_joined (words cells), words_length cells, length-take-le (2 * count) bytes room))
reply_long (reply.Yes next) bytes room = inl refl
reply_long reply.No bytes room = inl refl
reply_long reply.TooMany bytes room = inl refl

-- only a refusal refuses
pub refuses_only : (r : Reply) (bytes : List ℕ) → Refuses (replied r bytes) → (why : Refusal) × (r ≡ reply.Refused why)
refuses_only (reply.Refused why) bytes h = (why, refl)
refuses_only (reply.Number n) bytes h = absurd h
refuses_only (reply.Way side count) bytes h = absurd h
refuses_only (reply.Yes next) bytes h = absurd h
refuses_only reply.No bytes h = absurd h
refuses_only reply.TooMany bytes h = absurd h

-- So a reply's bytes stand at the front of what was lent for the answer, and behind them nothing has changed.
pub served_shown : (old way new : List ℕ) (r : Reply) (size : ℕ) → 5 + 2 * way_cells r ≤ length old → length way ≡ length old - 5 →
    drop (2 * way_cells r) way ≡ drop (2 * way_cells r) (take (length old - 5) (drop 5 old)) →
    Shown (replied r (drop 5 (put_mid 5 (length old - 5) old way))) (put_mid 5 (length old - 5) old way) new size → Shown (replied r way) old new size
served_shown old way new r size room long behind h =
    let mid = put_mid 5 (length old - 5) old way in
    let five : 5 ≤ length old = omega arith in
    let stands = subst (λ (xs : List ℕ). Shown (replied r xs) mid new size) (way_lent old way five long) h in
    shown_after old way five long (replied r way) (way_cells r) new size (behind ∙ ap (drop (2 * way_cells r)) (take_rest old 5))
    (⊎_elim inl (λ e. inr (stands.many ∙ e)) (reply_long r way (omega arith))) stands

-- a call that was read is answered right
pub right_read : (g h : games.Game) (bytes : List ℕ) (call : Call) (a : games.Answer) → Ok call ≡ read bytes → games.Right g (asked call) a h → RightBytes g bytes a h
right_read g h bytes call a e right =
    subst (λ r. MatchResult r (λ c. games.Right g (asked c) a h) (λ why. (a ≡ games.refused (reason why).number (reason why).place) × (h ≡ g))) e right
