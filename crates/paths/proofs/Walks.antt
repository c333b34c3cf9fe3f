-- The walk from a place at the first border along the places from which each was reached, and the shortest way that it writes.
use Rattle.std.proofs.Common.{◌≡◌, ℕ, ◌+◌, ◌*◌, ◌<◌, ◌≤◌, true, false, ◌&&◌, ◌≢◌, List, [], ◌∷◌, ◌++◌, length, get_or, take, drop, set, sym, refl, ap, ◌∙◌, subst, ⊎_elim, arith, below_more}
use Rattle.std.proofs.lemmas.List.{append-nil, append_assoc, length-take-le, take_more_set, get_or-set_same, get_or-set_other, get_or-take}
use Rattle.std.proofs.lemmas.Bool.{and_from, both_ways}
use Rattle.paths.specs.Ways.{Ground, ground, leads, crosses, Shortest, Written}
use Rattle.paths.specs.Search.{Reached, parent, Child, Met}
use Rattle.hexboard.specs.Board.{Board}
use Rattle.hexboard.specs.Words.{words}
use Rattle.hexboard.proofs.TwoBytes.{words_take}
use Rattle.paths.proofs.Crossings.{Mutual}
use Rattle.paths.proofs.Grounds.{way_crosses}

-- The walk has come from the start to a place, and has written count places, each one step less deep than the one before: whatever
-- leads on from the place makes them a way.
pub record Walking (g : Ground) (from : List ℕ) (depth : ℕ → ℕ) (start cell count : ℕ) (out : List ℕ) : Type 0 where
  pub reached : Reached from cell
  pub deep : depth cell + count ≡ depth start + 1
  pub falls : (p : ℕ) → p < count → depth (get_or out p 0) + p ≡ depth start
  pub ahead : (js : List ℕ) → leads g cell js ≡ true → crosses g (take count out ++ js) ≡ true

-- The place that the search has met is no deeper than places are reached.
pub met_shallow : {g : Ground} {queue from : List ℕ} {x : ℕ} (m : Met g queue from x) → m.depth x < length from
met_shallow {x = x} m =
    let (p, l, e) = m.tree.placed x m.reached in
    let s = m.tree.shallow p l in
    omega (arith, ap m.depth e, m.tree.count)

pub walk_start : {g : Ground} {queue from : List ℕ} {x : ℕ} (m : Met g queue from x) (out : List ℕ) → 0 < length out
    → Walking g from m.depth x x 1 (set out 0 x)
unfolding crosses
walk_start {g} {queue} {from} {x} m [] some = absurd (omega arith)
walk_start {g} {queue} {from} {x} m (o ∷ out) some = record {
  reached = m.reached;
  deep = refl;
  falls = below_more (λ p. m.depth (get_or (x ∷ out) p 0) + p ≡ m.depth x) 0 (λ p l. absurd (omega arith)) (omega arith);
  ahead = λ js on. and_from (g.first x && g.own x) (leads g x js) (and_from (g.first x) (g.own x) m.first (m.tree.own x m.reached)) on;
}

module _ {g : Ground} {queue from : List ℕ} {start cell count : ℕ} {out : List ℕ} (m : Met g queue from start)
    (walking : Walking g from m.depth start cell count out) where
  -- A place that is not at the last border was reached from another,
  child : g.last cell ≡ false → Child g from m.depth cell
  child inner = ⊎_elim (λ last. absurd (both_ways (g.last cell) inner last)) (λ c. c) (m.tree.hangs cell walking.reached)

  -- to which the walk has room to go on.
  pub walk_room : g.last cell ≡ false → count < length from
  walk_room inner =
      let d = (child inner).deeper in
      let e = walking.deep in
      let s = met_shallow m in
      omega arith

  pub walk_more : Mutual g → g.last cell ≡ false → count < length out
      → Walking g from m.depth start (parent from cell) (count + 1) (set out count (parent from cell))
  unfolding leads
  walk_more both inner room =
      let next = parent from cell in
      let up = child inner in
      record {
        reached = up.reached;
        deep = let d = up.deeper in let e = walking.deep in omega arith;
        falls =
            below_more (λ p. m.depth (get_or (set out count next) p 0) + p ≡ m.depth start) count
            (λ p l. let n : p ≢ count = omega arith in subst (λ z. m.depth z + p ≡ m.depth start) (sym (get_or-set_other out count p next 0 n)) (walking.falls p l))
            (let e = walking.deep in let d = up.deeper in omega (arith, ap m.depth (get_or-set_same out count next 0 room)));
        ahead = λ js on.
            subst (λ w. crosses g w ≡ true) (sym (ap (λ w. w ++ js) (take_more_set out count next room) ∙ append_assoc (take count out) (next ∷ []) js))
            (walking.ahead (next ∷ js)
            (and_from (g.near cell next && g.own next) (leads g next js)
            (and_from (g.near cell next) (g.own next) (both next cell up.near) (m.tree.own next up.reached)) on));
      }

  -- At the last border the places are a way,
  pub walk_way : g.last cell ≡ true → crosses g (take count out) ≡ true
  unfolding leads
  walk_way last = subst (λ w. crosses g w ≡ true) (append-nil (take count out)) (walking.ahead [] last)

  -- with no more of them than there are,
  pub walk_few : count ≤ length from
  walk_few = let e = walking.deep in let s = met_shallow m in omega arith

  -- and no more than in any other way,
  pub walk_least : (w : List ℕ) → crosses g w ≡ true → count ≤ length w
  walk_least w way = let l = m.least w way in let e = walking.deep in omega arith

  -- and none of them twice.
  pub walk_once : (i j : ℕ) → i < j → j < count → get_or (take count out) i 0 ≢ get_or (take count out) j 0
  walk_once i j before inside same =
      let a = walking.falls i (omega arith) in
      let b = walking.falls j inside in
      let e : get_or out i 0 ≡ get_or out j 0 = sym (get_or-take count out i 0 (omega arith)) ∙ same ∙ get_or-take count out j 0 inside in
      omega (arith, ap m.depth e)

-- What the walk has written at the last border is a shortest way.
pub walk_written : (b : Board) (s : ℕ) {queue from : List ℕ} {start cell count : ℕ} (old new : List ℕ) (m : Met (ground b s) queue from start)
    → Walking (ground b s) from m.depth start cell count (words new) → (ground b s).last cell ≡ true → length from ≡ length b.cells
    → count ≤ length (words new) → drop (2 * count) new ≡ drop (2 * count) old → Written b s old new count
walk_written b s {count = count} old new m walking last whole room behind =
    let two : 2 * count ≡ count * 2 = omega arith in
    let front : words (take (2 * count) new) ≡ take count (words new) = rw two (words_take count new) in
    let long = length-take-le count (words new) room in
    let shortest : Shortest b s (take count (words new)) =
    record {
      way = way_crosses b s (take count (words new)) ∙ walk_way m walking last;
      least = λ v way. subst (λ k. k ≤ length v) (sym long) (walk_least m walking v (sym (way_crosses b s v) ∙ way));
      once = λ i j before inside. walk_once m walking i j before (subst (λ k. j < k) long inside);
      few = let f = walk_few m walking in omega arith;
    }
    in
    record {
      shortest = rw front shortest;
      count = ap length front ∙ long;
      behind = behind;
    }
