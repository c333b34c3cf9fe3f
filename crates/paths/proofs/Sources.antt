-- The start of the search: one's own places at the last border are listed, in the order of their numbers.
use Rattle.std.proofs.Common.{◌≡◌, ℕ, ◌+◌, ◌<◌, true, false, ◌&&◌, List, [], ◌∷◌, length, set, replicate, refl, inl, arith, below_more}
use Rattle.std.proofs.lemmas.Bool.{false≢true, and_parts, and_from, both_ways}
use Rattle.paths.specs.Ways.{Ground, crosses}
use Rattle.paths.specs.Search.{Reached, Tree, Unmet, Met}
use Rattle.paths.proofs.Trees.{none_reached, tree_none, Comes, stays, reaches, each_reached, tree_more}

-- the depth of every place at the start
abbrev flat : ℕ → ℕ
flat x = 0

-- Of the places before i those at the last border are listed, t in all, and no others.
pub record Sown (g : Ground) (queue from : List ℕ) (i t : ℕ) : Type 0 where
  pub tree : Tree g queue from t flat
  pub unmet : Unmet g from
  pub sources : (x : ℕ) → x < i → g.own x ≡ true → g.last x ≡ true → Reached from x
  pub below : (x : ℕ) → Reached from x → x < i

pub sow_none : (g : Ground) (queue : List ℕ) (n : ℕ) → length queue ≡ n → ((x : ℕ) → g.own x ≡ true → x < n)
    → Sown g queue (replicate n 0) 0 0
sow_none g queue n whole inside = record {
  tree = tree_none g queue n flat whole inside;
  unmet = λ x r f. none_reached n x r;
  sources = λ x l o e. absurd (omega arith);
  below = λ x r. absurd (none_reached n x r);
}

-- Every way has a place.
some_place : (g : Ground) (w : List ℕ) → crosses g w ≡ true → 0 < length w
unfolding crosses
some_place g [] way = absurd (false≢true way)
some_place g (i ∷ is) way = omega arith

module _ {g : Ground} {queue from : List ℕ} {i t : ℕ} (sown : Sown g queue from i t) where
  -- A place that is not one's own or not at the last border is passed over.
  pub sow_past : (g.own i && g.last i) ≡ false → Sown g queue from (i + 1) t
  sow_past test = record {
    tree = sown.tree;
    unmet = sown.unmet;
    sources =
        below_more (λ x. g.own x ≡ true → g.last x ≡ true → Reached from x) i sown.sources (λ o e. absurd (both_ways (g.own i && g.last i) test (and_from (g.own i) (g.last i) o e)));
    below = λ x r. let l = sown.below x r in omega arith;
  }

  module _ (test : (g.own i && g.last i) ≡ true) where
    sow_own : g.own i ≡ true
    sow_own = (and_parts (g.own i) (g.last i) test).0

    comes : Comes g queue from t i i flat flat
    comes = record {
      own = sow_own;
      new = λ r. let l = sown.below i r in omega arith;
      same = λ z r. refl;
      hangs = inl (and_parts (g.own i) (g.last i) test).1;
      shallow = omega arith;
      deepest = λ p l. omega arith;
    }

    tree : Tree g (set queue t i) (set from i (i + 1)) (t + 1) flat
    tree = tree_more sown.tree comes

    -- A place that is at the first border as well is a way.
    pub sow_met : g.first i ≡ true → Met g (set queue t i) (set from i (i + 1)) i
    sow_met first = record {
      t = t + 1;
      depth = flat;
      tree = tree;
      reached = reaches sown.tree comes;
      first = first;
      least = λ w way. some_place g w way;
    }

    -- Any other is listed.
    pub sow_more : g.first i ≡ false → Sown g (set queue t i) (set from i (i + 1)) (i + 1) (t + 1)
    sow_more inner = record {
      tree = tree;
      unmet = each_reached sown.tree comes (λ x. g.first x ≡ true → ⊥) sown.unmet (both_ways (g.first i) inner);
      sources =
          below_more (λ x. g.own x ≡ true → g.last x ≡ true → Reached (set from i (i + 1)) x) i
          (λ x l o e. stays sown.tree comes x (sown.sources x l o e))
          (λ o e. reaches sown.tree comes);
      below =
          each_reached sown.tree comes (λ x. x < i + 1)
          (λ x r. let l = sown.below x r in omega arith)
          (omega arith);
    }
