-- A row of bytes is read as the call that it is, or up to where it ceases to be one.
use Rattle.std.proofs.Common.{◌≡◌, ℕ, suc, ◌+◌, ◌-◌, ◌*◌, ◌<◌, ◌≤◌, eqb, List, [], ◌∷◌, ◌++◌, length, get_or, take, drop, Ok, Err, Result, sym, refl, ap, ◌∙◌, append_assoc, arith}
use Rattle.std.proofs.lemmas.List.{take-append-drop, take_rest, take-take}
use Rattle.std.proofs.lemmas.Bool.{cond_both, eqb-true}
use Rattle.std.proofs.lemmas.Bool.Decides.{nat_tests}
use Rattle.wire.specs.declared.call.Call.{Call}
use Rattle.wire.specs.declared.call.Call.TheVariants.{Move, Back, Who, CanForce}
use Rattle.wire.specs.declared.refusal.Refusal.{Refusal}
use Rattle.wire.specs.declared.refusal.Refusal.TheVariants.{Unreadable}
use Rattle.wire.specs.Bytes.{two, call_bytes}
use Rattle.wire.specs.Reading.{read, read_cell, read_at_end, Begins, Ceases, Reads}
use Rattle.wire.proofs.Words.{two_given, given_two}

-- a call's bytes are read as this call
pub read_back : (c : Call) → read (call_bytes c) ≡ Ok c
read_back (Move cell) = ap (λ n. Ok (Move n)) (given_two cell)
read_back Back = refl
read_back Who = refl
read_back CanForce = refl

-- two calls have the same bytes only if they are the same
pub same_call : (c d : Call) → call_bytes c ≡ call_bytes d → c ≡ d
same_call c d e = let p = read_back c in let q = read_back d in let r = ap read e in cc

-- what is not read is no call's bytes
unread : (bs : List ℕ) (why : Refusal) → read bs ≡ Err why → (c : Call) → call_bytes c ≡ bs → ⊥
unread bs why e c is = let p = read_back c in let q = ap read is in let z : ◌≡◌ {A = ℕ} 0 1 = cc in omega arith

-- the beginning of a beginning is a beginning
shorter : (bs : List ℕ) (p q : ℕ) → p ≤ q → Begins (take q bs) → Begins (take p bs)
shorter bs p q le (c, more, e) =
    (c, drop p (take q bs) ++ more, e ∙ ap (λ t. t ++ more) (sym (take-append-drop p (take q bs))) ∙ rw take-take (append_assoc (take p bs) (drop p (take q bs)) more))

-- bytes that are not read cease to be a call where no call goes on with one byte more
ceases : (bs : List ℕ) (p : ℕ) → read bs ≡ Err (Unreadable p) → p ≤ length bs → Begins (take p bs) → (p < length bs → Begins (take (suc p) bs) → ⊥) → Ceases bs p
ceases bs p e within fits stops = record {
  none = unread bs (Unreadable p) e;
  within = within;
  fits = fits;
  longest = λ q more le b. stops (omega arith) (shorter bs (suc p) q more b);
}

-- the number of a call is at most 3
known : (c : Call) (n : ℕ) (bs : List ℕ) → call_bytes c ≡ n ∷ bs → n ≤ 3
known (Move cell) n bs e = let z : n ≡ 0 = cc in omega arith
known Back n bs e = let z : n ≡ 1 = cc in omega arith
known Who n bs e = let z : n ≡ 2 = cc in omega arith
known CanForce n bs e = let z : n ≡ 3 = cc in omega arith

-- only a move has more bytes than its number
only_move : (c : Call) (n b : ℕ) (bs : List ℕ) → call_bytes c ≡ n ∷ (b ∷ bs) → n ≡ 0
only_move (Move cell) n b bs e = cc
only_move Back n b bs e = let z : 1 ≡ suc (suc (length bs)) = ap length e in absurd (omega arith)
only_move Who n b bs e = let z : 1 ≡ suc (suc (length bs)) = ap length e in absurd (omega arith)
only_move CanForce n b bs e = let z : 1 ≡ suc (suc (length bs)) = ap length e in absurd (omega arith)

-- no call has more than three bytes
three : (c : Call) → length (call_bytes c) ≤ 3
three (Move cell) = omega arith
three Back = omega arith
three Who = omega arith
three CanForce = omega arith

-- after a move's number
reads_cell : (bs : List ℕ) → ((i : ℕ) → get_or bs i 0 < 256) → Reads (0 ∷ bs) (read_cell bs)
reads_cell [] small = (1, refl, ceases (0 ∷ []) 1 refl (omega arith) (Move 0, two 0, refl) (λ l b. omega arith))
reads_cell (low ∷ []) small =
    (2, refl, ceases (0 ∷ (low ∷ [])) 2 refl (omega arith) (Move (low + 0 * 256), 0 ∷ [], ap (λ t. 0 ∷ t) (two_given low 0 (small 0))) (λ l b. omega arith))
reads_cell (low ∷ (high ∷ [])) small = ap (λ t. 0 ∷ t) (two_given low high (small 0))
reads_cell (low ∷ (high ∷ (b ∷ bs))) small = (
  3,
  refl,
  ceases (0 ∷ (low ∷ (high ∷ (b ∷ bs)))) 3 refl (omega arith) (Move (low + high * 256), [], ap (λ t. 0 ∷ t) (two_given low high (small 0)))
      (λ l (c, more, e). let z = three c in omega (arith, ap length e)),
)

-- after the number of another call
reads_end : (c : Call) (n : ℕ) → call_bytes c ≡ n ∷ [] → 0 < n → (bs : List ℕ) → read (n ∷ bs) ≡ read_at_end c bs → Reads (n ∷ bs) (read_at_end c bs)
reads_end c n e other [] is = e
reads_end c n e other (b ∷ bs) is =
    (1, refl, ceases (n ∷ (b ∷ bs)) 1 is (omega arith) (c, [], e) (λ l (d, more, f). let z = only_move d n b more f in omega arith))

-- a number that no call has
strange : (n : ℕ) (bs : List ℕ) → 3 < n → Err (Unreadable 0) ≡ read (n ∷ bs)
strange n bs more = grind (arith, nat_tests)

reads_strange : (n : ℕ) (bs : List ℕ) → 3 < n → Reads (n ∷ bs) (Err (Unreadable 0))
reads_strange n bs more =
    (0, refl, ceases (n ∷ bs) 0 (sym (strange n bs more)) (omega arith) (Back, 1 ∷ [], refl) (λ l (c, rest, e). let z = known c n rest e in omega arith))

-- whatever the bytes are, read says what they are
pub reads : (bs : List ℕ) → ((i : ℕ) → get_or bs i 0 < 256) → Reads bs (read bs)
reads [] small = (0, refl, ceases [] 0 refl (omega arith) (Back, 1 ∷ [], refl) (λ l b. omega arith))
reads (n ∷ bs) small =
    cond_both (eqb n 0) _ _ (Reads (n ∷ bs)) (λ t. rw (eqb-true n 0 t) (reads_cell bs (λ i. small (suc i)))) (λ f0.
    cond_both (eqb n 1) _ _ (Reads (n ∷ bs)) (λ t. rw (eqb-true n 1 t) (reads_end Back 1 refl (omega arith) bs refl)) (λ f1.
    cond_both (eqb n 2) _ _ (Reads (n ∷ bs)) (λ t. rw (eqb-true n 2 t) (reads_end Who 2 refl (omega arith) bs refl)) (λ f2.
    cond_both (eqb n 3) _ _ (Reads (n ∷ bs)) (λ t. rw (eqb-true n 3 t) (reads_end CanForce 3 refl (omega arith) bs refl)) (λ f3.
    reads_strange n bs (grind (arith, nat_tests))))))

-- so it does of what is read by the first byte n and the others
pub reads_first : (bs : List ℕ) → ((i : ℕ) → get_or bs i 0 < 256) → (n : ℕ) → 0 < length bs → get_or bs 0 0 ≡ n → {r : Result Call Refusal} → r ≡ read (n ∷ take (length bs - 1) (drop 1 bs)) → (r ≡ read bs) × Reads bs r
reads_first [] small n some is e = absurd (omega arith)
reads_first (b ∷ bs) small n some is e = let v = rw take_rest at (rw (sym is) at e) in (v, rw v (reads (b ∷ bs) small))

pub reads_other : (bs : List ℕ) → 0 < length bs → 3 < get_or bs 0 0 → (Err (Unreadable 0) ≡ read bs) × Reads bs (Err (Unreadable 0))
reads_other [] some more = absurd (omega arith)
reads_other (b ∷ bs) some more = (strange b bs more, reads_strange b bs more)
