-- Chains, over any nearness: put end to end, turned round, and carried from one set of places to another.
use Rattle.std.proofs.Common.{◌≡◌, ℕ, Bool, true, sym, refl, subst}
use Rattle.hexboard.specs.Rows.{Chain, here, step}

module _ (near : ℕ → ℕ → Bool) where
  -- The first place of a chain is one's own, and so is the last.
  pub first_own : {own : ℕ → Type 0} {i j : ℕ} → Chain near own i j → own i
  first_own (here o e) = o
  first_own (step o n c) = o

  pub last_own : {own : ℕ → Type 0} {i j : ℕ} → Chain near own i j → own j
  last_own {own} (here o e) = subst own e o
  last_own (step o n c) = last_own c

  -- A chain to j and one from j are one.
  pub and_then : {own : ℕ → Type 0} {i j k : ℕ} → Chain near own i j → Chain near own j k → Chain near own i k
  and_then {own} {k = k} (here o e) d = subst (λ m. Chain near own m k) (sym e) d
  and_then (step o n c) d = step o n (and_then c d)

  -- Nearness of neighbours goes both ways, so a chain can be turned round.
  pub turned : ((i j : ℕ) → near i j ≡ true → near j i ≡ true) → {own : ℕ → Type 0} {i j : ℕ} → Chain near own i j → Chain near own j i
  turned both {own} (here o e) = here (subst own e o) (sym e)
  turned both (step {i = i} {j = j} o n c) = and_then (turned both c) (step (first_own c) (both i j n) (here o refl))

  -- What every place of a chain has is kept by a chain over places that have it.
  pub carried : {own mine : ℕ → Type 0} → ((i : ℕ) → own i → mine i) → {i j : ℕ} → Chain near own i j → Chain near mine i j
  carried f (here {i = i} o e) = here (f i o) e
  carried f (step {i = i} o n c) = step (f i o) n (carried f c)
