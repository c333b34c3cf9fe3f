-- What stands behind the parents stays: a number is written before it, or not at all.
use Rattle.std.proofs.Common.{◌≡◌, ℕ, ◌*◌, ◌/◌, ◌<◌, ◌≤◌, List, length, drop, None, Option, ap, ◌∙◌, ⊎_elim, arith}
use Rattle.std.proofs.lemmas.Bool.{cases_lt}
use Rattle.std.proofs.lemmas.Bool.Decides.{nat_tests}
use Rattle.hexboard.specs.Words.{room_at}
use Rattle.hexboard.proofs.TwoBytes.{words_length}
use Rattle.groups.specs.Lent.{rest}

no_room : (bytes : List ℕ) (i : ℕ) → length bytes / 2 ≤ i → room_at bytes i ≡ None
no_room bytes i h = let n = words_length bytes in grind (arith, nat_tests)

pub rest_kept : (old new : List ℕ) (i : ℕ) (r : Option (Unit {0})) → length new ≡ length old → r ≡ room_at old i → (r ≡ None → new ≡ old) →
    ((k : ℕ) → i < k → drop (2 * k) new ≡ drop (2 * k) old) → rest new ≡ rest old
rest_kept old new i r long told refused behind =
    ⊎_elim
    (λ room. ap (λ n. drop (2 * (n / 2)) new) long ∙ behind (length old / 2) room)
    (λ none. ap rest (refused (told ∙ no_room old i none)))
    (cases_lt i (length old / 2))
