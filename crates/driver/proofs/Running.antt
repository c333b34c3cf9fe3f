-- Lines and exchanges: one more behind those there are.
use Rattle.std.proofs.Common.{◌≡◌, ℕ, ◌+◌, ◌-◌, ◌^◌, List, [], ◌∷◌, ◌++◌, length, Bool, Some, None, IfSome, Option, Result, Ok, Err, IsErr, MatchResult, refl, sym, ap, subst, ◌∙◌, append-nil, append_assoc, length-append, arith}
use Rattle.std.proofs.lemmas.Bool.{false≢true}
use Rattle.hexboard.specs.Games as games
use Rattle.driver.specs.Lines.{lines_of, LosesLine, Ends, CanFail}
use Rattle.driver.specs.Served.{IsRead, Serves}
use Rattle.driver.specs.Exchanged.{Exchange, Exchanges, none, one, LosesLines, Hears, ServedAll, CutOff}
use Rattle.driver.specs.declared.limits.Limits.{Limits}

loses_none : (input : Option (List ℕ)) → LosesLines input input []
loses_none None = tt
loses_none (Some xs) = refl

loses_more : (input mid after : Option (List ℕ)) (lines : List (List ℕ)) (line : List ℕ) → LosesLines input mid lines → LosesLine mid after line → LosesLines input after (lines ++ line ∷ [])
loses_more None mid after lines line l k = tt
loses_more (Some xs) None after lines line l k = absurd l
loses_more (Some xs) (Some ys) None lines line l k = absurd k
loses_more (Some xs) (Some ys) (Some zs) lines line l k = l ∙ ap (λ t. lines ++ t) k ∙ sym (append_assoc lines (line ∷ []) (lines_of zs))

loses_all : (input mid after : Option (List ℕ)) (lines : List (List ℕ)) → LosesLines input mid lines → Ends mid after → IfSome input (λ bytes. lines ≡ lines_of bytes)
loses_all None mid after lines l e = tt
loses_all (Some xs) None after lines l e = absurd l
loses_all (Some xs) (Some ys) None lines l e = absurd e
loses_all (Some xs) (Some ys) (Some zs) lines l e = sym (l ∙ ap (λ t. lines ++ lines_of t) e.0 ∙ append-nil lines)

pub exchanges_more : {limits : Limits} {g h : Option games.Game} {lines : List (List ℕ)} {xs : List Exchange} {x : Exchange} (line : List ℕ) →
    Exchanges limits g lines xs h → IsRead line x.asked → Serves limits x.asked h x.reply x.game → Exchanges limits g (lines ++ line ∷ []) (xs ++ x ∷ []) x.game
exchanges_more line none reads serves = one _ _ _ _ reads serves none
exchanges_more line (one first lines x xs r s rest) reads serves = one first _ x _ r s (exchanges_more line rest reads serves)

-- some lines have been served, and each exchange was heard
pub record Running {L : Type 0} (heard : L → List Exchange → Type 0) (limits : Limits) (input rest : Option (List ℕ)) (g h : Option games.Game) (old now' : L) (count : ℕ) : Type 0 where
  pub lines : List (List ℕ)
  pub exchanges : List Exchange
  pub loses : LosesLines input rest lines
  pub served : Exchanges limits g lines exchanges h
  pub hears : Hears (heard old) (heard now') exchanges
  pub counted : length lines ≡ count

module _ {L : Type 0} (heard : L → List Exchange → Type 0) (fails : L → L → Type 0) (limits : Limits) (can_break : Bool) (input : Option (List ℕ)) (g : Option games.Game) (old : L) where
  pub run_none : Running heard limits input input g g old old 0
  run_none = record {
    lines = [];
    exchanges = [];
    loses = loses_none input;
    served = none;
    hears = λ earlier h. subst (heard old) (sym (append-nil earlier)) h;
    counted = refl;
  }

  module _ (rest : Option (List ℕ)) (h : Option games.Game) (mid : L) (count : ℕ) (so_far : Running heard limits input rest g h old mid count) where
    pub run_all : (after : Option (List ℕ)) → Ends rest after → ServedAll limits input g h (heard old) (heard mid)
    run_all after ends = record {
      lines = so_far.lines;
      exchanges = so_far.exchanges;
      all = loses_all input rest after so_far.lines so_far.loses ends;
      served = so_far.served;
      heard = so_far.hears;
    }

    pub run_unread : CanFail can_break rest → CutOff heard fails limits can_break input g old h mid
    run_unread can = CutOff.unread so_far.lines so_far.exchanges rest so_far.loses so_far.served so_far.hears can

    pub run_long : count ≡ 2 ^ 64 - 1 → CutOff heard fails limits can_break input g old h mid
    run_long long = CutOff.too_many so_far.lines so_far.exchanges rest so_far.loses so_far.served so_far.hears (so_far.counted ∙ long)

    module _ (after : Option (List ℕ)) (line : List ℕ) (x : Exchange) (loses : LosesLine rest after line) (reads : IsRead line x.asked) (serves : Serves limits x.asked h x.reply x.game)
        (ready : L) (begins : (all : List Exchange) → heard mid all → heard ready all) where
      pub run_more : (new : L) → ((all : List Exchange) → heard ready all → heard new (all ++ x ∷ [])) → Running heard limits input after g x.game old new (count + 1)
      run_more new hears = record {
        lines = so_far.lines ++ line ∷ [];
        exchanges = so_far.exchanges ++ x ∷ [];
        loses = loses_more input rest after so_far.lines line so_far.loses loses;
        served = exchanges_more line so_far.served reads serves;
        hears = λ earlier was. subst (heard new) (append_assoc earlier so_far.exchanges (x ∷ [])) (hears (earlier ++ so_far.exchanges) (begins _ (so_far.hears earlier was)));
        counted = omega (arith, length-append so_far.lines (line ∷ []), so_far.counted);
      }

      pub run_unheard : (new : L) → fails ready new → CutOff heard fails limits can_break input g old x.game new
      run_unheard new failed =
          CutOff.unheard (so_far.lines ++ line ∷ []) so_far.exchanges x after ready (loses_more input rest after so_far.lines line so_far.loses loses) (exchanges_more line so_far.served reads serves)
          (λ earlier was. begins _ (so_far.hears earlier was)) failed

-- what holds of an error holds of a result that is one
pub of_error : {X Y Q : Type 0} (P : Type 0) (r : Result X Y) → IsErr r → Q → MatchResult r (λ _. P) (λ _. Q)
of_error P (Ok x) is q = absurd (false≢true is)
of_error P (Err y) is q = q
