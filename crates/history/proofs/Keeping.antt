-- What memory holds after one move more, and after one move back.
use Rattle.std.proofs.Common.{◌≡◌, ℕ, zero, suc, ◌-◌, ◌*◌, ◌<◌, true, List, [], ◌∷◌, ◌++◌, length, set, sym, refl, ap, ◌∙◌, subst, ⊎_elim, arith}
use Rattle.std.proofs.lemmas.List.{append_assoc, length_push, set_at, set-get_or, set-set, take-append-le, take_at}
use Rattle.std.proofs.str.Laws.{order}
use Rattle.hexboard.specs.Board.{all_cells}
use Rattle.hexboard.specs.Words.{words}
use Rattle.groups.specs.Forest.{held}
use Rattle.groups.specs.Stones.{is_free}
use Rattle.groups.specs.Moves.{board_of, turn_of, forest_of, Legal}
use Rattle.groups.specs.Meaning.{Open}
use Rattle.groups.proofs.Positions.{free_parts}
use Rattle.groups.proofs.InTurn.{board_push, legal_push, legal_last}
use Rattle.history.specs.Played.{Played, winner_of, Kept}
use Rattle.history.proofs.Filling.{room}
use Rattle.history.proofs.Turns.{winner_open}

-- a move more, if nobody has won and the cell is free
pub played_more : (n : ℕ) (ms : List ℕ) (x : ℕ) → Played n ms → winner_of n ms ≡ 0 → is_free (board_of n ms) x ≡ true → Played n (ms ++ x ∷ [])
played_more n ms x h none is = record {
  legal = legal_push n ms x h.legal is;
  before = λ k l.
      ⊎_elim
      (λ less. subst (λ (xs : List ℕ). Open (board_of n xs)) (sym (take-append-le k ms (x ∷ []) (omega arith))) (h.before k less))
      (λ more.
      let last : length ms ≡ k = omega (arith, length_push ms x) in
      subst (λ (xs : List ℕ). Open (board_of n xs)) (sym (take_at ms (x ∷ []) k last)) (winner_open n ms h none))
      (order k (length ms));
}

-- a move less
pub played_less : (n : ℕ) (ms : List ℕ) (x : ℕ) → Played n (ms ++ x ∷ []) → Played n ms
played_less n ms x h = record {
  legal = (legal_last n ms x h.legal).0;
  before = λ k l.
      subst (λ (xs : List ℕ). Open (board_of n xs)) (take-append-le k ms (x ∷ []) (omega arith)) (h.before k (omega (arith, length_push ms x)));
}

-- the log, with one move more in the place of its first zero
log_more : (log ms : List ℕ) (x k : ℕ) → log ≡ ms ++ all_cells k → 0 < k → set log (length ms) x ≡ (ms ++ x ∷ []) ++ all_cells (k - 1)
unfolding all_cells
log_more log ms x zero e some = absurd (omega arith)
log_more log ms x (suc k) e some =
    let less : suc k - 1 ≡ k = omega arith in
    ap (λ (l : List ℕ). set l (length ms) x) e ∙
    (set_at ms 0 (all_cells k) x (length ms) refl ∙ (sym (append_assoc ms (x ∷ []) (all_cells k)) ∙ ap (λ j. (ms ++ x ∷ []) ++ all_cells j) (sym less)))

-- the log with the last move replaced by a zero
log_less : (log ms : List ℕ) (x k : ℕ) → log ≡ (ms ++ x ∷ []) ++ all_cells k → set log (length ms) 0 ≡ ms ++ all_cells (suc k)
unfolding all_cells
log_less log ms x k e =
    ap (λ (l : List ℕ). set l (length ms) 0) (e ∙ append_assoc ms (x ∷ []) (all_cells k)) ∙ set_at ms x (all_cells k) 0 (length ms) refl

module _ (n : ℕ) (ms : List ℕ) (x : ℕ) (stones log parents borders log' parents' borders' : List ℕ) where
  pub kept_more : Kept n ms stones log parents borders → Legal n ms → is_free (board_of n ms) x ≡ true →
      words log' ≡ set (words log) (length ms) x → length log' ≡ length log →
      held parents' borders' ≡ forest_of n (ms ++ x ∷ []) → length parents' ≡ length parents →
      Kept n (ms ++ x ∷ []) (set stones x (turn_of ms)) log' parents' borders'
  kept_more h legal is wrote log-same joined parents-same =
      let free = room n ms x legal is in
      let less : n * n - length ms - 1 ≡ n * n - length (ms ++ x ∷ []) = omega (arith, length_push ms x) in
      record {
        stones_are = ap (λ (cs : List ℕ). set cs x (turn_of ms)) h.stones_are ∙ ap (λ b. b.cells) (sym (board_push n ms x));
        log_is = wrote ∙ (log_more (words log) ms x (n * n - length ms) h.log_is (omega arith) ∙ ap (λ k. (ms ++ x ∷ []) ++ all_cells k) less);
        log_long = log-same ∙ h.log_long;
        groups_are = joined;
        parents_long = parents-same ∙ h.parents_long;
      }

  pub kept_less : Kept n (ms ++ x ∷ []) stones log parents borders → Legal n (ms ++ x ∷ []) →
      words log' ≡ set (words log) (length ms) 0 → length log' ≡ length log →
      held parents' borders' ≡ forest_of n ms → length parents' ≡ length parents → Kept n ms (set stones x 0) log' parents' borders'
  kept_less h legal wrote log-same lifted parents-same =
      let (before, is) = legal_last n ms x legal in
      let free = free_parts (board_of n ms) x is in
      let some = room n ms x before is in
      let more : suc (n * n - length (ms ++ x ∷ [])) ≡ n * n - length ms = omega (arith, length_push ms x) in
      record {
        stones_are =
            ap (λ (cs : List ℕ). set cs x 0) (h.stones_are ∙ ap (λ b. b.cells) (board_push n ms x)) ∙
            (set-set (board_of n ms).cells x (turn_of ms) 0 ∙ (ap (set (board_of n ms).cells x) (sym free.1) ∙ set-get_or (board_of n ms).cells x 0));
        log_is = wrote ∙ (log_less (words log) ms x _ h.log_is ∙ ap (λ k. ms ++ all_cells k) more);
        log_long = log-same ∙ h.log_long;
        groups_are = lifted;
        parents_long = parents-same ∙ h.parents_long;
      }
