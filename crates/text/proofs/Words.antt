-- How far a row of bytes goes along with a word, with what stands behind the word, and with one of several forms.
use Rattle.std.proofs.Common.{◌≡◌, ℕ, zero, suc, ◌+◌, ◌-◌, ◌<◌, ◌≤◌, max, ◌⊎◌, List, [], ◌∷◌, ◌++◌, length, get_or, take, drop, slice_index_or, Bor, codes, sym, refl, ap, ◌∙◌, subst, inl, inr, ⊎_elim, arith, take-add}
use Rattle.std.proofs.lemmas.List.Prefix.{front_rest}
use Rattle.std.proofs.lemmas.List.{append_assoc, append_cancel_left, append-nil, ext_get_or, get_or_append_left, get_or-take, length-append, length-drop, length-take-le, nil_from_length, take_all, take-append-drop}
use Rattle.std.proofs.str.Laws.{order}
use Rattle.wire.specs.declared.call.Call.{Call}
use Rattle.wire.specs.declared.call.Call.TheVariants.{Move}
use Rattle.text.specs.Lines.{Word, SomeWord}
use Rattle.text.specs.Places.{Agree, Begins, Stops}

-- a word, and behind it bytes of the form G
abbrev pub After : List ℕ → (List ℕ → Type 0) → List ℕ → Type 0
After word G bytes = (behind : List ℕ) × (bytes ≡ word ++ behind) × G behind

module _ (word bytes : List ℕ) (p : ℕ) (a : Agree word bytes p) where
  -- the bytes that agree are the word's own
  same_front : take p bytes ≡ take p word
  same_front =
      let long = length-take-le p bytes a.in_bytes in
      ext_get_or 0 _ _ (long ∙ sym (length-take-le p word a.in_word))
      (λ k h. let l : k < p = omega arith in get_or-take p bytes k 0 l ∙ (sym (a.same k l) ∙ sym (get_or-take p word k 0 l)))

  -- where they part before the word's end, no longer front of the bytes begins with the word
  parted : p < length word → (q : ℕ) → p < q → q ≤ length bytes → (rest behind : List ℕ) → take q bytes ++ rest ≡ word ++ behind → ⊥
  parted short q more h rest behind e =
      let front = length-take-le q bytes h in
      a.stops short (omega arith)
      (sym (get_or_append_left word behind 0 p short) ∙
      (ap (λ (xs : List ℕ). get_or xs p 0) (sym e) ∙ (get_or_append_left (take q bytes) rest 0 p (omega arith) ∙ get_or-take q bytes p 0 more)))

  -- a line that leaves the word before its end stops there
  pub early_stops : (G : List ℕ → Type 0) (x : List ℕ) → G x → p < length word → Stops (After word G) bytes p
  early_stops G x g short = record {
    none = λ f.
        let long = ap length f.1 ∙ length-append word f.0 in
        parted short (length bytes) (omega arith) (omega arith) [] f.0 (append-nil _ ∙ (take_all (length bytes) bytes (omega arith) ∙ f.1));
    within = a.in_bytes;
    begins = (
      drop p word ++ x,
      (x, ap (λ (xs : List ℕ). xs ++ (drop p word ++ x)) same_front ∙ (sym (append_assoc (take p word) (drop p word) x) ∙ ap (λ (xs : List ℕ). xs ++ x) (take-append-drop p word)), g),
    );
    longest = λ q more h b. parted short q more h b.0 b.1.0 b.1.1;
  }

  module _ (whole : p ≡ length word) where
    all_of_it : take p bytes ≡ word
    all_of_it = same_front ∙ take_all p word (omega arith)

    -- what begins with the word has behind it what the bytes have there
    behind_it : (q : ℕ) → p ≤ q → (rest behind : List ℕ) → take q bytes ++ rest ≡ word ++ behind → behind ≡ take (q - p) (drop p bytes) ++ rest
    behind_it q h rest behind e =
        let sum : p + (q - p) ≡ q = omega arith in
        let split : take q bytes ≡ word ++ take (q - p) (drop p bytes) =
        ap (λ k. take k bytes) (sym sum) ∙ (take-add p (q - p) bytes ∙ ap (λ (xs : List ℕ). xs ++ take (q - p) (drop p bytes)) all_of_it) in
        append_cancel_left word _ _ (sym e ∙ (ap (λ (xs : List ℕ). xs ++ rest) split ∙ append_assoc word _ rest))

    -- a line with the whole word in front stops where what is behind the word stops
    pub late_stops : (G : List ℕ → Type 0) (q : ℕ) → Stops G (drop p bytes) q → Stops (After word G) bytes (p + q)
    late_stops G q g =
        let long = length-drop p bytes in
        record {
          none = λ f. g.none (subst G (sym (front_rest bytes word f.0 f.1) ∙ ap (λ k. drop k bytes) (sym whole)) f.2);
          within = omega (arith, g.within, a.in_bytes);
          begins = (
            g.begins.0,
            (
              take q (drop p bytes) ++ g.begins.0,
              ap (λ (xs : List ℕ). xs ++ g.begins.0) (take-add p q bytes ∙ ap (λ (xs : List ℕ). xs ++ take q (drop p bytes)) all_of_it) ∙ append_assoc word _ _,
              g.begins.1,
            ),
          );
          longest = λ k more h b.
              g.longest (k - p) (omega arith) (omega arith) (b.0, subst G (behind_it k (omega arith) b.0 b.1.0 b.1.1) b.1.2);
        }

    -- what stands behind the word, if it is of the form G
    pub found_behind : (G : List ℕ → Type 0) → G (drop p bytes) → After word G bytes
    found_behind G g = (drop p bytes, sym (take-append-drop p bytes) ∙ ap (λ (xs : List ℕ). xs ++ drop p bytes) all_of_it, g)

-- another name for a form changes nothing
pub stops_as : (F G : List ℕ → Type 0) → ((cs : List ℕ) → F cs → G cs) → ((cs : List ℕ) → G cs → F cs) → (bytes : List ℕ) (p : ℕ) →
    Stops F bytes p → Stops G bytes p
stops_as F G to from bytes p f = record {
  none = λ g. f.none (from bytes g);
  within = f.within;
  begins = (f.begins.0, to _ f.begins.1);
  longest = λ q more h b. f.longest q more h (b.0, from _ b.1);
}

-- a word alone is a word with nothing behind it
abbrev Nothing : List ℕ → Type 0
Nothing cs = cs ≡ []

something_stops : (cs : List ℕ) → 0 < length cs → Stops Nothing cs 0
something_stops cs some = record {
  none = λ e. omega (arith, ap length e);
  within = omega arith;
  begins = ([], refl);
  longest = λ q more h b. let long = length-append (take q cs) b.0 in omega (arith, length-take-le q cs h, ap length b.1);
}

alone : (word cs : List ℕ) → Word word cs → After word Nothing cs
alone word cs e = ([], e ∙ sym (append-nil word), refl)

only : (word cs : List ℕ) → After word Nothing cs → Word word cs
only word cs f = f.1 ∙ (ap (λ (xs : List ℕ). word ++ xs) f.2 ∙ append-nil word)

module _ (word bytes : List ℕ) (p : ℕ) (a : Agree word bytes p) where
  pub whole_word : p ≡ length word → p ≡ length bytes → Word word bytes
  whole_word w b =
      let long = length-drop p bytes in
      only word bytes (found_behind word bytes p a w Nothing (nil_from_length (drop p bytes) (omega arith)))

  pub word_stops : (p ≡ length word → p ≡ length bytes → ⊥) → Stops (Word word) bytes p
  word_stops less =
      let long = length-drop p bytes in
      stops_as (After word Nothing) (Word word) (only word) (alone word) bytes p
      (⊎_elim
      (early_stops word bytes p a Nothing [] refl)
      (λ far.
      let whole : p ≡ length word = omega (arith, a.in_word) in
      let more : 0 < length (drop p bytes) = omega (arith, a.in_bytes, less whole) in
      let none : p + 0 ≡ p = omega arith in
      subst (Stops (After word Nothing) bytes) none (late_stops word bytes p a whole Nothing 0 (something_stops (drop p bytes) more)))
      (order p (length word)))

-- the bytes of either form stop where the one form and the other have both stopped
pub either_stops : (F G : List ℕ → Type 0) (bytes : List ℕ) (p q : ℕ) → Stops F bytes p → Stops G bytes q →
    Stops (λ cs. F cs ⊎ G cs) bytes (max p q)
either_stops F G bytes p q f g = record {
  none = ⊎_elim f.none g.none;
  within = omega (arith, f.within, g.within);
  begins =
      ⊎_elim
      (λ less. let m : max p q ≡ q = omega arith in subst (λ n. Begins (λ cs. F cs ⊎ G cs) (take n bytes)) (sym m) (g.begins.0, inr g.begins.1))
      (λ more. let m : max p q ≡ p = omega arith in subst (λ n. Begins (λ cs. F cs ⊎ G cs) (take n bytes)) (sym m) (f.begins.0, inl f.begins.1))
      (order p q);
  longest = λ k more h b. ⊎_elim (λ e. f.longest k (omega arith) h (b.0, e)) (λ e. g.longest k (omega arith) h (b.0, e)) b.1;
}

-- words, each with the call that it asks for
abbrev Words : Type 0
Words = List (Bor (List ℕ) × Call)

abbrev word_at : Words → ℕ → List ℕ
word_at words i = (slice_index_or words i (record { ref_ptr = (0, 0); now = [] }, Move 0)).0.now

-- one of the words up to this one
abbrev UpTo : Words → ℕ → List ℕ → Type 0
UpTo words zero cs = Word (word_at words zero) cs
UpTo words (suc i) cs = Word (word_at words (suc i)) cs ⊎ UpTo words i cs

-- where the bytes have stopped to be one of so many words; with none tried, their start
abbrev pub Tried : Words → ℕ → List ℕ → ℕ → Type 0
Tried words zero bytes p = p ≡ 0
Tried words (suc i) bytes p = Stops (UpTo words i) bytes p

pub tried_more : (words : Words) (i : ℕ) (bytes : List ℕ) (p q r : ℕ) → r ≡ max q p → Tried words i bytes p → Stops (Word (word_at words i)) bytes q →
    Tried words (i + 1) bytes r
tried_more words zero bytes p q r e none f = let m : q ≡ r = omega (arith, e, none) in subst (Stops (Word (word_at words zero)) bytes) m f
tried_more words (suc i) bytes p q r e before f =
    let next : suc (suc i) ≡ suc i + 1 = omega arith in
    subst (λ n. Tried words n bytes r) next
    (subst (Stops (UpTo words (suc i)) bytes) (sym e) (either_stops (Word (word_at words (suc i))) (UpTo words i) bytes q p f before))

-- where the words of all calls that are a word alone are tried
pub all_tried : (x y z : Bor (List ℕ) × Call) (i : ℕ) (bytes : List ℕ) (p : ℕ) → i ≡ 3 →
    x.0.now ≡ codes "back" → y.0.now ≡ codes "who" → z.0.now ≡ codes "can force" → Tried (x ∷ y ∷ z ∷ []) i bytes p → Stops SomeWord bytes p
all_tried x y z i bytes p all back who can_force tried =
    let words : Words = x ∷ y ∷ z ∷ [] in
    stops_as (UpTo words 2) SomeWord
    (λ cs. ⊎_elim (λ e. inl (inl (e ∙ can_force))) (⊎_elim (λ e. inr (e ∙ who)) (λ e. inl (inr (e ∙ back)))))
    (λ cs. ⊎_elim (⊎_elim (λ e. inl (e ∙ sym can_force)) (λ e. inr (inr (e ∙ sym back)))) (λ e. inr (inl (e ∙ sym who))))
    bytes p (subst (λ n. Tried words n bytes p) all tried)
