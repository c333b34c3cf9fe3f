use Rattle.std.proofs.Common.{◌≡◌, ℕ, ◌-◌, ◌^◌, ◌<◌, ◌≤◌, refl, sym, ap, ◌∙◌, subst, inl, le_trans, arith, pow_pos, pow_mono, if◌then◌else◌}
use lib.Bits.{bit_and}
use Rattle.ranking.specs.Sets.{bit, Within}
use Rattle.ranking.specs.Positions.{total, place}
use Rattle.ranking.specs.Table.{entry}
use Rattle.ranking.proofs.Bits.{bit_none, within_below, cell_le, cell_below, and_less, left_out, in_and, out_of_and}
use Rattle.ranking.proofs.Members.{members_rest, members_empty}
use Rattle.ranking.proofs.Ranks.{place_below}
use Rattle.endgame.specs.Ends.{Tells, connects, threatened, position_after}
use Rattle.endgame.specs.Searches.{SearchesOnce}
use Rattle.endgame.specs.declared.search.Found.{Found}
use Rattle.endgame.proofs.Nodes.{node_after}
use Rattle.endgame.proofs.Searching.{Searching, searching_none, searching_cut, searching_won, searching_lost, searching_all, won_within, told_at_once, told_known}
use Rattle.endgame.proofs.Once.{unseen, counting_none, counting_accounts, counting_more, counting_all, once_looked, searched_small, looks_small}
use Rattle.endgame.proofs.Threats.{one_within}
use Rattle.endgame.proofs.search.Search.+solve.Goals as goal
use Rattle.endgame.proofs.search.Search.+solve.Goals.{In-Some, In_default, In_default-known, After-best-step, After-solve}

-- a cell that connects at once is the first of those
first : (t : ℕ) (c : In-Some t) → (bit c.in-Some.step c.completions.result ≡ 1) × (c.in-Some.step < 64)
first t c = let (inside, small, _) = members_rest c.completions.result c.in-Some.step c.next.new.self (omega arith) (sym c.of.ensures ∙ c.in-Some.ensures.steps) in (inside, small)

-- there is none
none : (t : ℕ) (c : In_default t) → c.completions.result ≡ 0
none t c = members_empty c.completions.result (omega arith) (sym c.of.ensures ∙ c.in_default.ensures.steps.0)

-- the position has no entry
unknown : (t : ℕ) (c : In_default-known t) → entry c.args.table.now (place c.args.self.now.ranking.cells c.args.at.mine c.args.at.theirs) ≡ 0
unknown t c =
    let none = rw c.place-place.ensures at c.in_default-known.ensures in
    omega (arith, none, c.requires.accounts.readable (place c.args.self.now.ranking.cells c.args.at.mine c.args.at.theirs))

-- nothing is counted past what fits
pub overflow_add-self : goal.overflow_add-self
overflow_add-self t c = omega (arith, looks_small c.args.self.now.ranking.few c.requires.node c.requires.accounts)

pub one-requires : goal.one-requires
one-requires t c = (first t (goal.at.one-requires t c).In-Some).1

pub returns-in-Some-clause-within : goal.returns-in-Some-clause-within
returns-in-Some-clause-within t c =
    let at = (goal.at.returns-in-Some-clause-within t c).In-Some in
    rw c.one.ensures (one_within c.in-Some.step c.args.at.free (c.completions.ensures.inside c.in-Some.step (first t at).0))

pub returns-in-Some-clause-stepped : goal.returns-in-Some-clause-stepped
returns-in-Some-clause-stepped t c = c.completions.ensures.inside c.in-Some.step (first t (goal.at.returns-in-Some-clause-stepped t c).In-Some).0

pub returns-in-Some-clause-tells : goal.returns-in-Some-clause-tells
returns-in-Some-clause-tells t c =
    let at = (goal.at.returns-in-Some-clause-tells t c).In-Some in
    rw c.one.ensures
    (told_at_once c.args.self.now.ranking.cells c.args.mine.now c.args.theirs.now c.args.at c.args.table.now c.in-Some.step c.requires.node c.completions.ensures (first t at).0)

pub returns-in-Some-clause-kept : goal.returns-in-Some-clause-kept
returns-in-Some-clause-kept t c =
    let (here, _) = first t (goal.at.returns-in-Some-clause-kept t c).In-Some in
    inl (connects c.in-Some.step (c.completions.ensures.inside c.in-Some.step here) (c.completions.ensures.joins c.in-Some.step here))

-- against two threats nothing has to be tried
pub returns-then-cut-eq0-clause-tells : goal.returns-then-cut-eq0-clause-tells
returns-then-cut-eq0-clause-tells t c =
    let e = c.args.self.now.ranking.cells in
    let mine = c.args.mine.now in
    let theirs = c.args.theirs.now in
    searching_lost c.requires.node
    (subst (λ m. Searching e mine theirs c.args.at c.args.table.now c.args.table.now m c.replies-cut.result.lost) c.if-cut-eq0.true
    (searching_none e mine theirs c.args.at c.args.table.now c.requires.node c.completions-2.ensures c.replies-cut.ensures))

pub returns-then-cut-eq0-clause-kept : goal.returns-then-cut-eq0-clause-kept
returns-then-cut-eq0-clause-kept t c = inl (threatened c.completions-2.result c.replies-cut.result c.completions-2.ensures c.replies-cut.ensures c.if-cut-eq0.true)

pub known-requires : goal.known-requires
known-requires t c =
    omega (arith, c.place-place.ensures, place_below c.args.self.now.ranking.cells c.args.at.mine c.args.at.theirs c.requires.node.position)

-- what the table knows
pub returns-in-Some-known-clause-tells : goal.returns-in-Some-known-clause-tells
returns-in-Some-known-clause-tells t c =
    let (winner, is, found) = c.in-Some-known.ensures in
    subst (Tells c.args.self.now.ranking.cells c.args.mine.now c.args.theirs.now c.args.at c.args.table.now c.args.table.now) (sym found)
    (told_known c.args.self.now.ranking.cells c.args.mine.now c.args.theirs.now c.args.at c.args.table.now c.requires.node winner (rw c.place-place.ensures at is))

pub loop-must-init : goal.loop-must-init
loop-must-init t c = record {
  same = refl;
  finds = searching_none c.args.self.now.ranking.cells c.args.mine.now c.args.theirs.now c.args.at c.args.table.now c.requires.node c.completions-2.ensures c.replies-cut.ensures;
  counts = counting_none c.requires.node c.replies-cut.result.must c.requires.accounts c.replies-cut.ensures.inside;
}

pub best-step-requires-clause-fits : goal.best-step-requires-clause-fits
best-step-requires-clause-fits t c =
    let e = c.args.self.now.ranking.cells in
    le_trans (within_below e c.loop-must.must c.args.at.free c.loop-must.invariant.finds.inside c.requires.node.free_fits) (pow_mono c.args.self.now.ranking.few)

-- the step is a free cell
module _ (t : ℕ) (c : After-best-step t) where
  free : bit c.best-step.result c.args.at.free ≡ 1
  free = c.loop-must.invariant.finds.inside c.best-step.result c.best-step.ensures.chosen

  small : c.best-step.result < 16
  small = le_trans (cell_below c.args.self.now.ranking.cells c.best-step.result c.args.at.free c.requires.node.free_fits free) c.args.self.now.ranking.few

pub after-requires-clause-fits : goal.after-requires-clause-fits
after-requires-clause-fits t c =
    let room : 2 ^ c.args.self.now.ranking.cells ≤ 2 ^ 16 = pow_mono c.args.self.now.ranking.few in
    (omega (arith, c.requires.node.position.mine_fits), small t (goal.at.after-requires-clause-fits t c).After-best-step)

pub after-requires-clause-free : goal.after-requires-clause-free
after-requires-clause-free t c = cell_le c.best-step.result c.args.at.free (free t (goal.at.after-requires-clause-free t c).After-best-step)

pub solve-requires : goal.solve-requires
solve-requires t c =
    let at = (goal.at.solve-requires t c).After-best-step in
    let here = free t at in
    let room = cell_le c.best-step.result c.args.at.free here in
    let less = ap (λ p. p.free) c.after.ensures in
    let cells = ap (λ r. r.cells) c.loop-must.invariant.same in (
      omega (arith, c.decreases, pow_pos c.best-step.result),
      (
        rw (c.after.ensures, cells) (node_after c.requires.node c.best-step.result here),
        (
          omega (arith, ap total cells, c.requires.room, c.loop-must.auto.table),
          rw (c.after.ensures, cells)
              (counting_accounts c.requires.node c.loop-must.invariant.counts c.best-step.result c.best-step.ensures.chosen c.loop-must.invariant.finds.inside c.args.self.now.ranking.few c.requires.accounts),
        ),
      ),
    )

-- what the search says of the position after the step
module _ (t : ℕ) (c : After-solve t) where
  within-then : (carrier : ℕ) → Within carrier c.after.result.free → Within carrier (c.args.at.free - 2 ^ c.best-step.result)
  within-then carrier = subst (λ p. Within carrier p.free) c.after.ensures

  tells-then : {found : Found} → Tells c.loop-must.self.ranking.cells c.args.theirs.now c.args.mine.now c.after.result c.loop-must.table c.solve.new.table found →
      Tells c.args.self.now.ranking.cells c.args.theirs.now c.args.mine.now (position_after c.args.at (2 ^ c.best-step.result)) c.loop-must.table c.solve.new.table found
  tells-then h = rw (c.after.ensures, ap (λ r. r.cells) c.loop-must.invariant.same) at h

  once-then : SearchesOnce c.args.self.now.ranking.cells c.args.theirs.now c.args.mine.now (position_after c.args.at (2 ^ c.best-step.result)) c.loop-must.self.effort c.solve.new.self.effort c.loop-must.table c.solve.new.table
  once-then = rw (c.after.ensures, ap (λ r. r.cells) c.loop-must.invariant.same) at c.solve.ensures.once

  same-then : c.solve.new.self.ranking ≡ c.args.self.now.ranking
  same-then = c.solve.ensures.same ∙ c.loop-must.invariant.same

-- the step is not in the carrier of a win after it
pub loop-must-smaller : goal.loop-must-smaller
loop-must-smaller t c =
    let at = (goal.at.loop-must-smaller t c).After-solve in
    and_less c.best-step.result c.loop-must.must c.in-Won.carrier c.best-step.ensures.chosen
    (left_out c.best-step.result c.in-Won.carrier c.args.at.free (free t (goal.at.loop-must-smaller t c).After-best-step) (within-then t at c.in-Won.carrier c.in-Won.ensures.within))

pub loop-must-preserved : goal.loop-must-preserved
loop-must-preserved t c =
    let at = (goal.at.loop-must-preserved t c).After-solve in
    let before = (goal.at.loop-must-preserved t c).After-best-step in
    let k = c.best-step.result in
    let must = c.loop-must.must in
    let carrier = c.in-Won.carrier in
    record {
      same = same-then t at;
      finds = searching_cut c.requires.node c.completions.ensures (none t (goal.at.loop-must-preserved t c).In_default) c.loop-must.invariant.finds k c.best-step.ensures.chosen
          (within-then t at carrier c.in-Won.ensures.within) (tells-then t at c.in-Won.ensures.tells);
      counts = counting_more c.requires.node c.loop-must.invariant.counts k c.best-step.ensures.chosen c.loop-must.invariant.finds.inside (bit_and must carrier)
          (λ j i. (in_and j must carrier i).0)
          (out_of_and k must carrier (left_out k carrier c.args.at.free (free t before) (within-then t at carrier c.in-Won.ensures.within)))
          (once-then t at);
    }

pub enter-requires-clause-inside : goal.enter-requires-clause-inside
enter-requires-clause-inside t c =
    omega (arith, c.solve.auto.table, c.loop-must.auto.table, c.place-place.ensures, c.requires.room, place_below c.args.self.now.ranking.cells c.args.at.mine c.args.at.theirs c.requires.node.position)

pub enter-requires-clause-room : goal.enter-requires-clause-room
enter-requires-clause-room t c = searched_small c.solve.new.table c.args.self.now.ranking.few (once-then t (goal.at.enter-requires-clause-room t c).After-solve).searched

pub one-requires-in-Lost : goal.one-requires-in-Lost
one-requires-in-Lost t c = omega (arith, small t (goal.at.one-requires-in-Lost t c).After-best-step)

pub returns-in-Lost-clause-within : goal.returns-in-Lost-clause-within
returns-in-Lost-clause-within t c =
    let at = (goal.at.returns-in-Lost-clause-within t c).After-solve in
    rw c.one-in-Lost.ensures
    (won_within c.requires.node c.completions.ensures (none t (goal.at.returns-in-Lost-clause-within t c).In_default) c.loop-must.invariant.finds c.best-step.result c.best-step.ensures.chosen
    c.in-Lost.carrier (within-then t at c.in-Lost.carrier c.in-Lost.ensures.within))

pub returns-in-Lost-clause-tells : goal.returns-in-Lost-clause-tells
returns-in-Lost-clause-tells t c =
    let at = (goal.at.returns-in-Lost-clause-tells t c).After-solve in
    rw c.one-in-Lost.ensures
    (searching_won c.requires.node c.completions.ensures (none t (goal.at.returns-in-Lost-clause-tells t c).In_default) c.loop-must.invariant.finds c.best-step.result c.best-step.ensures.chosen
    c.enter.new.table (within-then t at c.in-Lost.carrier c.in-Lost.ensures.within) (tells-then t at c.in-Lost.ensures.tells) (rw c.place-place.ensures at c.enter.ensures.written))

pub returns-in-Lost-clause-once : goal.returns-in-Lost-clause-once
returns-in-Lost-clause-once t c =
    let at = (goal.at.returns-in-Lost-clause-once t c).After-solve in
    let k = c.best-step.result in
    let counts = counting_more c.requires.node c.loop-must.invariant.counts k c.best-step.ensures.chosen c.loop-must.invariant.finds.inside 0
    (λ j i. absurd (omega (arith, i, bit_none j))) (bit_none k) (once-then t at) in
    rw c.enter.ensures.counted
    (counting_all c.requires.node 1 (unseen c.completions.ensures (none t (goal.at.returns-in-Lost-clause-once t c).In_default) c.completions-2.ensures c.replies-cut.ensures (omega arith))
    (unknown t (goal.at.returns-in-Lost-clause-once t c).In_default-known) counts (omega arith) (omega arith) (rw c.place-place.ensures at c.enter.ensures.written))

pub returns-in-Lost-clause-same : goal.returns-in-Lost-clause-same
returns-in-Lost-clause-same t c = ap (λ s. s.ranking) c.enter.ensures.counted ∙ same-then t (goal.at.returns-in-Lost-clause-same t c).After-solve

pub enter-requires-2-clause-inside : goal.enter-requires-2-clause-inside
enter-requires-2-clause-inside t c =
    omega (arith, c.loop-must.auto.table, c.place-place.ensures, c.requires.room, place_below c.args.self.now.ranking.cells c.args.at.mine c.args.at.theirs c.requires.node.position)

pub enter-requires-2-clause-room : goal.enter-requires-2-clause-room
enter-requires-2-clause-room t c = searched_small c.loop-must.table c.args.self.now.ranking.few c.loop-must.invariant.counts.searched

pub returns-clause-tells : goal.returns-clause-tells
returns-clause-tells t c =
    let nothing : c.loop-must.must ≡ 0 = omega arith in
    searching_all c.requires.node
    (subst (λ m. Searching c.args.self.now.ranking.cells c.args.mine.now c.args.theirs.now c.args.at c.args.table.now c.loop-must.table m c.loop-must.lost) nothing c.loop-must.invariant.finds)
    c.enter-2.new.table (rw c.place-place.ensures at c.enter-2.ensures.written)

pub returns-clause-once : goal.returns-clause-once
returns-clause-once t c =
    rw c.enter-2.ensures.counted
    (counting_all c.requires.node 2 (unseen c.completions.ensures (none t (goal.at.returns-clause-once t c).In_default) c.completions-2.ensures c.replies-cut.ensures (omega arith))
    (unknown t (goal.at.returns-clause-once t c).In_default-known) c.loop-must.invariant.counts (omega arith) (omega arith) (rw c.place-place.ensures at c.enter-2.ensures.written))

pub returns-clause-same : goal.returns-clause-same
returns-clause-same t c = ap (λ s. s.ranking) c.enter-2.ensures.counted ∙ c.loop-must.invariant.same

pub returns-in-Some-clause-once : goal.returns-in-Some-clause-once
returns-in-Some-clause-once t c = once_looked c.requires.accounts

pub returns-then-cut-eq0-clause-once : goal.returns-then-cut-eq0-clause-once
returns-then-cut-eq0-clause-once t c = once_looked c.requires.accounts
