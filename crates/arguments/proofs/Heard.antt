-- What is known of a row of arguments, one argument further.
use Rattle.std.proofs.Common.{◌≡◌, ◌≢◌, ℕ, ◌+◌, List, Bool, true, refl, sym, ap, ◌∙◌, subst, ⊎_elim, arith}
use Rattle.std.specs.Prelude.{IsTrue, ◌↔◌, slice_index_or}
use Rattle.std.proofs.lemmas.Bool.{cases_eq}
use Rattle.arguments.specs.declared.flags.Flag.{Flag}
use Rattle.arguments.specs.declared.flags.Flag.TheVariants.{Help, Show, Times}
use Rattle.arguments.specs.declared.flags.Asked.{Asked}
use Rattle.arguments.specs.Flags.{written, with_flag, Takes, Untaken, argument_at, TakesFirst, Among}

abbrev third : List ℕ → ℕ
third xs = slice_index_or xs 2 0

-- The program takes each of the first, and one more.
pub takes_more : (taken : List Flag) (arguments : List (List ℕ)) (k : ℕ) → TakesFirst taken arguments k → Takes taken (argument_at arguments k) → TakesFirst taken arguments (k + 1)
takes_more taken arguments k h one i l =
    ⊎_elim (λ here. subst (λ j. Takes taken (argument_at arguments j)) (sym here) one) (λ apart. h i (omega (arith, l, apart))) (cases_eq i k)

-- The next argument is the flag,
among_now : (arguments : List (List ℕ)) (k : ℕ) (f : Flag) → argument_at arguments k ≡ written f → (IsTrue true ↔ Among arguments (k + 1) f)
among_now arguments k f is = ((λ _. (k, omega arith, is)), (λ _. refl))

-- or it is another.
among_as_before : (arguments : List (List ℕ)) (k : ℕ) (f : Flag) (b : Bool) → argument_at arguments k ≢ written f → (IsTrue b ↔ Among arguments k f) → (IsTrue b ↔ Among arguments (k + 1) f)
among_as_before arguments k f b other h = ((λ yes. more (h.0 yes)), (λ found. h.1 (fewer found)))
  where
    more : Among arguments k f → Among arguments (k + 1) f
    more (i, l, e) = (i, omega (arith, l), e)

    fewer : Among arguments (k + 1) f → Among arguments k f
    fewer (i, l, e) = ⊎_elim (λ here. absurd (other (ap (argument_at arguments) (sym here) ∙ e))) (λ apart. (i, omega (arith, l, apart), e)) (cases_eq i k)

-- which flags are among the first arguments is known
abbrev pub Told : List (List ℕ) → ℕ → Asked → Type 0
Told arguments k asked = (IsTrue asked.show ↔ Among arguments k Show) × (IsTrue asked.times ↔ Among arguments k Times)

-- One flag more; of two flags the third letter differs.
pub told_more : (arguments : List (List ℕ)) (k : ℕ) (f : Flag) (asked : Asked) → argument_at arguments k ≡ written f → Told arguments k asked → Told arguments (k + 1) (with_flag asked f)
told_more arguments k Help asked is (show, times) =
    (among_as_before arguments k Show _ (λ e. omega (arith, ap third (sym is ∙ e))) show, among_as_before arguments k Times _ (λ e. omega (arith, ap third (sym is ∙ e))) times)
told_more arguments k Show asked is (show, times) =
    (among_now arguments k Show is, among_as_before arguments k Times _ (λ e. omega (arith, ap third (sym is ∙ e))) times)
told_more arguments k Times asked is (show, times) =
    (among_as_before arguments k Show _ (λ e. omega (arith, ap third (sym is ∙ e))) show, among_now arguments k Times is)

-- What is no flag is none that the program takes.
pub no_flag : (taken : List Flag) (argument : List ℕ) → ((f : Flag) → argument ≢ written f) → Untaken taken argument
no_flag taken argument none = (none Help, (λ (f, _, _, is). none f is))
