-- The cells of a way in their bytes: how many they are, and how they stand behind the head of an answer.
use Rattle.std.proofs.Common.{◌≡◌, ℕ, ◌+◌, ◌-◌, ◌*◌, ◌/◌, ◌%◌, ◌<◌, ◌≤◌, List, ◌++◌, length, get_or, take, drop, IfSome, MatchOption, Some, None, Option, Ok, Err, Result, sym, refl, ap, ◌∙◌, ⊎_elim, arith, take-add, Bor}
use Rattle.std.specs.Result.{OkIff, result_ok}
use borrow.Rule.Slice.PartMut.{put_mid}
use Rattle.hexboard.specs.declared.side.Side.{Side}
use Rattle.std.proofs.lemmas.List.{append_assoc, drop_at, drop-drop, get_or-drop, get_or_past, get_or-take, length-take, take_at}
use Rattle.std.proofs.lemmas.Bool.{cases_lt}
use Rattle.wire.specs.declared.answer.Answer.TheVariants.{Way}
use Rattle.hexboard.specs.Words.{words}
use Rattle.hexboard.proofs.TwoBytes.{words_length}
use Rattle.wire.specs.Numbers.{Row}
use Rattle.wire.specs.Bytes.{answer_bytes, way_head, Written, Headed}
use Rattle.wire.proofs.Words.{joined_words, length_joined}

-- half as many cells as bytes, if two bytes can count them
pub row_count : {E : Type 0} (bs : List ℕ) (count : Result ℕ E) → length bs % 2 ≡ 0 → OkIff count (length bs / 2 < 65536) (length bs / 2) →
    MatchOption (result_ok count) (Row bs → ⊥) (λ n. Row bs × (n ≡ length (words bs)))
row_count bs (Ok n) even is = let l = words_length bs in (record { even = even; few = omega (arith, is.0) }, omega (arith, is.1))
row_count bs (Err e) even is = λ row. let few = row.few in is (omega arith)

-- the bytes of a way are its head and its cells
pub way_bytes : (side : Side) (count : ℕ) (cells : Bor (List ℕ)) → ((i : ℕ) → get_or cells.now i 0 < 256) → length cells.now ≡ 2 * count → answer_bytes (Way side cells) ≡ way_head side count ++ cells.now
way_bytes side count cells small long =
    let even : length cells.now % 2 ≡ 0 = omega arith in
    let p : length (words cells.now) ≡ count = omega (arith, words_length cells.now) in
    let q = joined_words cells.now small even in
    rw (p, q)

-- so many bytes are these
pub way_long : (side : Side) (cells : Bor (List ℕ)) → Row cells.now → length (answer_bytes (Way side cells)) ≡ 5 + length cells.now
way_long side cells row = let e = row.even in omega (arith, words_length cells.now, length_joined (words cells.now))

-- a part of bytes is bytes
small_part : (bs : List ℕ) → ((i : ℕ) → get_or bs i 0 < 256) → (m n i : ℕ) → get_or (take n (drop m bs)) i 0 < 256
small_part bs small m n i =
    ⊎_elim (λ l. rw (get_or-take n (drop m bs) i 0 l, get_or-drop m bs i 0) (small (m + i)))
    (λ l. rw (get_or_past (take n (drop m bs)) i 0 (omega (arith, length-take n (drop m bs)))) (omega arith)) (cases_lt i n)

-- a head that is put in front of cells makes them a way
pub head_written : (side : Side) (count : ℕ) (old new : List ℕ) → ((i : ℕ) → get_or new i 0 < 256) → (r : Option ℕ) → Written (way_head side count) old new r → IfSome r (λ _. Headed side count new)
head_written side count old new small None h = tt
head_written side count old new small (Some told) h = λ cells long is.
    let front : take 5 new ≡ way_head side count = ap (take 5) h.2 in
    let part : (i : ℕ) → get_or cells.now i 0 < 256 = λ i. rw is (small_part new small 5 (2 * count) i) in
    take-add 5 (2 * count) new ∙ (rw (front, sym is) (sym (way_bytes side count cells part long)))

-- a head in front, and cells behind it
behind : (head cells old : List ℕ) (k : ℕ) → length head ≡ 5 → length cells ≡ k → take 5 (head ++ drop 5 old) ++ (cells ++ drop k (drop 5 (head ++ drop 5 old))) ≡ (head ++ cells) ++ drop (5 + k) old
behind head cells old k five long =
    rw (take_at head (drop 5 old) 5 five, drop_at head (drop 5 old) 5 five, drop-drop k 5 old) (sym (append_assoc head cells (drop (5 + k) old)))

-- the head of a way is written, and then its cells
pub way_written : (side : Side) (count : ℕ) (cells : Bor (List ℕ)) (old mid part : List ℕ) → ((i : ℕ) → get_or cells.now i 0 < 256) → Row cells.now → count ≡ length (words cells.now) →
    5 + length cells.now ≤ length old → (r : Option ℕ) → Written (way_head side count) old mid r → part ≡ cells.now →
    Written (answer_bytes (Way side cells)) old (put_mid 5 (5 + length cells.now - 5) mid part) (Some (5 + length cells.now))
way_written side count cells old mid part small row is room None head copied = absurd (omega (arith, head.0))
way_written side count cells old mid part small row is room (Some told) head copied =
    let e = row.even in
    let l = words_length cells.now in
    let long = way_long side cells row in
    let bytes = way_bytes side count cells small (omega arith) in
    let k = 5 + length cells.now - 5 in
    let size : 5 + k ≡ length (answer_bytes (Way side cells)) = omega arith in
    let same : k ≡ length cells.now = omega arith in (
      sym long,
      omega arith,
      ap (λ t. put_mid 5 k t part) head.2 ∙ ap (put_mid 5 k (way_head side count ++ drop 5 old)) copied
          ∙ behind (way_head side count) cells.now old k refl (sym same)
          ∙ ap (λ t. t ++ drop (5 + k) old) (sym bytes) ∙ ap (λ n. answer_bytes (Way side cells) ++ drop n old) size,
    )
