-- That no position is searched twice: what the loop over the moves keeps of what was done, and what it gives at the end.
use Rattle.std.proofs.Common.{◌≡◌, ◌≢◌, ℕ, suc, ◌+◌, ◌*◌, ◌^◌, ◌<◌, ◌≤◌, ◌⊎◌, List, ◌++◌, length, refl, sym, ap, ◌∙◌, inl, inr, subst, ⊎_elim, arith}
use lib.Count.{ones, ones-le}
use Rattle.std.proofs.lemmas.Bool.{cases_eq}
use Rattle.ranking.specs.Sets.{bit, Within}
use Rattle.ranking.specs.Positions.{start, total, place, free_at}
use Rattle.ranking.specs.Table.{entry, Put}
use Rattle.ranking.proofs.Bits.{bit_none, no_cell, ones_more, ones_within, ones_fewer, ones_shared, within_below}
use Rattle.ranking.proofs.Entries.{entry_front}
use Rattle.ranking.proofs.Ranks.{stones, start_more, place_from, place_next, place_below, free_there, stones_few, total_most}
use Rattle.ranking.proofs.Sums.{sum_none, sum_same, sum_put, sum_times, entries_most}
use Rattle.endgame.specs.declared.links.Links.{Links}
use Rattle.endgame.specs.declared.search.Cut.{Cut}
use Rattle.endgame.specs.declared.search.Effort.{Effort}
use Rattle.endgame.specs.declared.search.Position.{Position}
use Rattle.endgame.specs.Floods.{Completions}
use Rattle.endgame.specs.Replies.{Replied}
use Rattle.endgame.specs.Ends.{Node, IsSeen, connects, threatened, position_after}
use Rattle.endgame.specs.Efforts.{nothing_done, one_more_searched}
use Rattle.endgame.specs.Searches.{entries, moves, stones_of, IsReadable, Accounts, Extends, SearchesOnce, IsOnce}
use Rattle.endgame.proofs.Nodes.{no_stone}

-- Where no cell connects at once, and some cell meets all threats, nothing is decided by looking at the position.
pub unseen : {mine theirs : Links} {p : Position} {own threats : ℕ} {cut : Cut} → Completions mine p.mine p.free own → own ≡ 0 →
    Completions theirs p.theirs p.free threats → Replied threats p.free cut → 0 < cut.must → IsSeen mine theirs p → ⊥
unseen c none d r some (connects k free joins) = omega (arith, c.all k free joins, ap (bit k) none, bit_none k)
unseen {cut = cut} c none d r some (threatened threats cut' d' r' nothing) =
    let empty : cut.must ≡ 0 = no_cell cut.must (λ k meets.
    let (t, apart, lost) = r'.left k (r.inside k meets) (ap (bit k) nothing ∙ bit_none k) in
    let threat = r'.lost_in t lost in
    apart (r.meets k t meets (d.all t (d'.inside t threat) (d'.joins t threat)))) in
    omega arith

-- A table has its own entries, those of a table before the one before, and one more.
pub extends_none : (e m : ℕ) (t : List ℕ) → Extends e m t t
extends_none e m t = record { keeps = λ i some. refl; outside = λ i out. refl }

pub extends_more : {e m : ℕ} {t u v : List ℕ} → Extends e m t u → Extends e m u v → Extends e m t v
extends_more h g = record {
  keeps = λ i some. g.keeps i (λ none. some (sym (h.keeps i some) ∙ none)) ∙ h.keeps i some;
  outside = λ i out. g.outside i out ∙ h.outside i out;
}

-- What the loop over the moves keeps, with table t at first and u now.
pub record Counting (e : ℕ) (p : Position) (before now : Effort) (t u : List ℕ) (must : ℕ) : Type 0 where
  pub extends : Extends e (stones_of p + 1) t u
  pub readable : IsReadable u
  pub searched : now.searched ≡ entries e u
  pub more : before.looks < now.looks
  pub few : now.looks + moves e t + ones must ≤ before.looks + 1 + moves e u + ones p.free

module _ {e : ℕ} {p : Position} (node : Node e p.mine p.theirs p.free) where
  -- the moves in a position are as many as its place tells
  free_here : free_at e (place e p.mine p.theirs) ≡ ones p.free
  free_here = omega (arith, free_there e p.mine p.theirs node.position, ones_shared e p.mine p.theirs p.free node.position.mine_fits node.position.theirs_fits node.free_fits node.each)

  -- there is one stone more after a move
  pub stones_after : (k : ℕ) → bit k p.free ≡ 1 → stones_of (position_after p (2 ^ k)) ≡ stones_of p + 1
  stones_after k free = omega (arith, ones_more k p.mine (no_stone node k free).1)

  -- at first a look was taken, and each of the free cells may be tried
  pub counting_none : (must : ℕ) {before : Effort} {t : List ℕ} → Accounts e p before t → Within must p.free → Counting e p before (record before { looks = before.looks + 1 }) t t must
  counting_none must {t = t} a inside = record {
    extends = extends_none e (stones_of p + 1) t;
    readable = a.readable;
    searched = a.searched;
    more = omega arith;
    few = omega (arith, ones_within e must p.free (within_below e must p.free inside node.free_fits) node.free_fits inside);
  }

  module _ {before now : Effort} {t u : List ℕ} {must : ℕ} (h : Counting e p before now t u must) (k : ℕ) (of : bit k must ≡ 1) (inside : Within must p.free) where
    few_cells : ones p.free ≤ e
    few_cells = ones-le e p.free node.free_fits

    -- what was done is accounted for where a move leads to
    pub counting_accounts : e ≤ 16 → Accounts e p before t → Accounts e (position_after p (2 ^ k)) now u
    counting_accounts few a =
        let one : 0 < ones must = omega (arith, ones_fewer e k 0 must (within_below e must p.free inside node.free_fits) (λ j i. absurd (omega (arith, i, bit_none j))) of (bit_none k)) in
        record { readable = h.readable; searched = h.searched; looks = omega (arith, stones_after k (inside k of), h.few, a.looks, few_cells, one) }

    -- one move was tried, and fewer are left
    pub counting_more : {mine theirs : Links} {after : Effort} {v : List ℕ} (rest : ℕ) → Within rest must → bit k rest ≡ 0 →
        SearchesOnce e theirs mine (position_after p (2 ^ k)) now after u v → Counting e p before after t v rest
    counting_more {v = v} rest fewer gone once = record {
      extends = extends_more h.extends (subst (λ m. Extends e m u v) (stones_after k (inside k of)) once.extends);
      readable = once.readable;
      searched = once.searched;
      more = omega (arith, h.more, once.looks_more);
      few = omega (arith, h.few, once.looks_few, ones_fewer e k rest must (within_below e must p.free inside node.free_fits) fewer of gone);
    }

  -- nothing is left to try, and what was found is entered
  pub counting_all : {mine theirs : Links} {before now : Effort} {t u w : List ℕ} {must : ℕ} (v : ℕ) → (IsSeen mine theirs p → ⊥) → entry t (place e p.mine p.theirs) ≡ 0 →
      Counting e p before now t u must → 0 < v → v < 3 → Put u w (place e p.mine p.theirs) v → SearchesOnce e mine theirs p before (one_more_searched now) t w
  counting_all {t = t} {u = u} {w = w} v not_seen unknown h some small written =
      let here : ℕ = place e p.mine p.theirs in
      let below = place_below e p.mine p.theirs node.position in
      let own : here < start e (stones_of p + 1) = place_next' in
      let none : entry u here ≡ 0 = h.extends.outside here (inl own) ∙ unknown in
      record {
        seen = λ is. absurd (not_seen is);
        known = λ is. absurd (is unknown);
        extends = record {
          keeps = λ i is. ⊎_elim
              (λ same. absurd (is (ap (entry t) same ∙ unknown)))
              (λ apart. written.others i apart ∙ h.extends.keeps i is)
              (cases_eq i here);
          outside = λ i out. written.others i (apart i out) ∙ h.extends.outside i (⊎_elim (λ l. inl (omega (arith, start_more e (stones_of p) 1))) inr out);
        };
        readable = λ i. ⊎_elim
            (λ same. omega (arith, ap (entry w) same, written.there))
            (λ apart. omega (arith, written.others i apart, h.readable i))
            (cases_eq i here);
        searched = omega (arith, h.searched, sum_put (λ i. 1) u w (total e) here v written below none (λ e. omega arith));
        looks_more = h.more;
        looks_few = omega (arith, h.few, sum_put (free_at e) u w (total e) here v written below none (λ e. omega arith), free_here);
      }
    where
      place_next' : place e p.mine p.theirs < start e (stones_of p + 1)
      place_next' = let next : stones_of p + 1 ≡ suc (stones p.mine p.theirs) = omega arith in rw next (place_next e p.mine p.theirs node.position)

      apart : (i : ℕ) → (i < start e (stones_of p)) ⊎ (total e ≤ i) → i ≢ place e p.mine p.theirs
      apart i (inl l) same = omega (arith, place_from e p.mine p.theirs)
      apart i (inr l) same = omega (arith, place_below e p.mine p.theirs node.position)

-- What is decided by looking at it, or has an entry, costs a look.
pub once_looked : {e : ℕ} {mine theirs : Links} {p : Position} {before : Effort} {t : List ℕ} → Accounts e p before t →
    SearchesOnce e mine theirs p before (record before { looks = before.looks + 1 }) t t
once_looked {e} {p = p} {t = t} a = record {
  seen = λ is. refl;
  known = λ is. refl;
  extends = extends_none e (stones_of p) t;
  readable = a.readable;
  searched = a.searched;
  looks_more = omega arith;
  looks_few = omega arith;
}

-- What is counted is small.
pub searched_small : {e n : ℕ} (t : List ℕ) → e ≤ 16 → n ≡ entries e t → n < 2 ^ 32
searched_small {e} t few is = omega (arith, is, entries_most t (total e), total_most e few)

pub looks_small : {e : ℕ} {p : Position} {done : Effort} {t : List ℕ} → e ≤ 16 → Node e p.mine p.theirs p.free → Accounts e p done t → done.looks < 2 ^ 32
looks_small {e} {p} {t = t} few node a =
    let free : (i : ℕ) → free_at e i ≤ 16 = λ i. omega arith in
    omega (arith, a.looks, sum_times (free_at e) 16 t (total e) free, entries_most t (total e), total_most e few, stones_few e p.mine p.theirs node.position)

-- Before the first look nothing was done, and the table says nothing.
pub accounts_first : (e : ℕ) (p : Position) (t : List ℕ) → ((i : ℕ) → entry t i ≡ 0) → Accounts e p nothing_done t
accounts_first e p t nothing = record {
  readable = λ i. omega (arith, nothing i);
  searched = sym (sum_none (λ i. 1) t (total e) nothing);
  looks = omega arith;
}

-- Of a table only the places of positions count.
once_all : {e : ℕ} {done : Effort} (t u : List ℕ) → ((i : ℕ) → i < total e → entry u i ≡ entry t i) → done.searched ≡ entries e t → done.looks ≤ 1 + moves e t → IsOnce e done u
once_all {e} {done} t u same searched looks =
    let all : done.searched ≡ entries e u = searched ∙ sym (sum_same (λ i. 1) t u (total e) same) in
    record {
      searched = all;
      few = omega (arith, all, entries_most u (total e));
      looks = omega (arith, looks, sum_same (free_at e) t u (total e) same);
    }

-- Over the whole question: the table is the part that the positions take, and what is behind it.
pub once_front : {e n : ℕ} {done : Effort} (t rest : List ℕ) → n ≡ e → total e ≤ 4 * length t → done.searched ≡ entries e t → done.looks ≤ 1 + moves e t → IsOnce n done (t ++ rest)
once_front {e} {done = done} t rest same room searched looks =
    subst (λ m. IsOnce m done (t ++ rest)) (sym same) (once_all t (t ++ rest) (λ i l. entry_front t rest i (omega arith)) searched looks)
