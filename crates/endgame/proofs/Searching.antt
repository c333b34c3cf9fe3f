-- The search: a move that connects at once, what is tried so far, one more try, and what is found at the end.
use Rattle.std.proofs.Common.{◌≡◌, ℕ, ◌+◌, ◌-◌, ◌^◌, ◌<◌, List, Option, Some, sym, refl, ap, ◌∙◌, subst, ⊎_elim, arith}
use lib.Bits.{bit_and, bit_or}
use Rattle.std.proofs.lemmas.Bool.{cases_eq}
use Rattle.hexboard.specs.Board.{Board, other}
use Rattle.hexboard.specs.Games.{has}
use Rattle.hexboard.proofs.Boards.{other_side}
use Rattle.ranking.specs.Sets.{bit, Within}
use Rattle.ranking.specs.Positions.{place}
use Rattle.ranking.specs.Table.{entry, Put}
use Rattle.ranking.proofs.Ranks.{place_once}
use Rattle.ranking.proofs.Bits.{bit_one, bit_none, bit_less, more_below, in_and, in_or}
use Rattle.endgame.specs.declared.links.Links.{Links}
use Rattle.endgame.specs.declared.search.Cut.{Cut}
use Rattle.endgame.specs.declared.search.Found.{Found}
use Rattle.endgame.specs.declared.search.Found.TheVariants.{Won, Lost}
use Rattle.endgame.specs.declared.search.Position.{Position}
use Rattle.endgame.specs.declared.winner.Winner.{Winner}
use Rattle.endgame.specs.declared.winner.Winner.TheVariants.{Mover, Other}
use Rattle.endgame.specs.Findings.{found_of}
use Rattle.endgame.specs.Winners.{entry_of}
use Rattle.endgame.specs.Floods.{Joins, Completes, Completions}
use Rattle.endgame.specs.Replies.{Replied}
use Rattle.endgame.specs.Ends.{Wins, Stands, Node, Describes, Ending, Turn, IsKnown, unknown, won, lost, IsSound, IsTold, Tells, position_after}
use Rattle.endgame.proofs.Carried.{Tried, forced_more, win, tried_more, tried_all}
use Rattle.endgame.proofs.Joining.{completes_joins, joins_completes}
use Rattle.endgame.proofs.Nodes.{no_stone, same_free, turn_after, turn_once}
use Rattle.endgame.proofs.Full.{some_free}
use Rattle.endgame.proofs.Threats.{one_within}

-- the same end, seen from the other side
pub swapped : {e : ℕ} {b : Board} {es : List ℕ} {s : ℕ} {mine theirs : Links} → Ending e b es s mine theirs → Ending e b es (other s) theirs mine
swapped {e} {b} {es} {s} {mine} {theirs} h =
    let back : other (other s) ≡ s = omega (arith, h.side) in
    record { good = h.good; side = other_side s h.side; many = h.many; numbered = h.numbered; own = h.others; others = subst (λ r. Describes e b es r mine) (sym back) h.own }

module _ {e : ℕ} {b : Board} {es : List ℕ} {s : ℕ} {mine theirs : Links} (end : Ending e b es s mine theirs) where
  -- a stone that joins the borders connects
  pub at_once : {x : ℕ} (k : ℕ) → k < e → x < 2 ^ e → bit k x ≡ 0 → Completes mine x k → Stands b es s (x + 2 ^ k) 0
  at_once {x} k l fits out h =
      has (other s) (end.own.connects (x + 2 ^ k) (more_below e k x l fits out) (completes_joins mine end.own.both_ways x k out h))

  -- and so wins, with that cell as its carrier
  pub wins_at_once : {x : ℕ} (k : ℕ) → k < e → x < 2 ^ e → bit k x ≡ 0 → Completes mine x k → Wins b es s x (2 ^ k)
  wins_at_once {x} k l fits out h = win end.numbered s end.side x 0 k (omega (arith, end.many)) out (at_once k l fits out h)

  -- a cell that does not connect at once leaves the side unconnected
  pub still_apart : {x free own : ℕ} (k : ℕ) → bit k x ≡ 0 → bit k free ≡ 1 → Completions mine x free own → own ≡ 0 → (Joins mine x → ⊥) → Joins mine (x + 2 ^ k) → ⊥
  still_apart {x} {free} {own} k out h c none apart j =
      omega (arith, c.all k h (joins_completes mine end.own.both_ways x k out apart j), ap (bit k) none, bit_none k)

-- What the loop over the cells to try keeps, with table t at first and u now: those tried so far lose.
pub record Searching (e : ℕ) (mine theirs : Links) (p : Position) (t u : List ℕ) (must lost : ℕ) : Type 0 where
  pub inside : Within must p.free
  pub within : Within lost p.free
  pub so_far : (b : Board) (es : List ℕ) (a s : ℕ) → Ending e b es s mine theirs → Turn a s p.mine p.theirs →
      (Joins mine p.mine → ⊥) → (Joins theirs p.theirs → ⊥) → IsSound e b es a t →
      Tried b es (other s) p.theirs p.free must lost × IsSound e b es a u

-- at first: only what the threats leave must be tried
pub searching_none : (e : ℕ) (mine theirs : Links) (p : Position) (t : List ℕ) {threats : ℕ} {cut : Cut} → Node e p.mine p.theirs p.free →
    Completions theirs p.theirs p.free threats → Replied threats p.free cut → Searching e mine theirs p t t cut.must cut.lost
searching_none e mine theirs p t {cut = cut} node c r = record {
  inside = r.inside;
  within = λ k h. c.inside k (r.lost_in k h);
  so_far = λ b es a s end turn _ _ sound. (
    record {
      inside = λ k h. c.inside k (r.lost_in k h);
      answered = λ k h out.
          let (d, apart, in-lost) = r.left k h out in
          let threat = r.lost_in d in-lost in
          let (l, no-x, no-y) = no_stone node d (c.inside d threat) in
          (2 ^ d, ⊎_elim (λ q. absurd (apart (sym q.0))) (λ q. q.1) (bit_one d k), one_within d cut.lost in-lost, wins_at_once (swapped end) d l node.position.theirs_fits no-y (c.joins d threat));
    },
    sound,
  );
}

-- A table with one more entry, that is so, is sound.
sound_put : {e : ℕ} {b : Board} {es : List ℕ} (a s x y free v : ℕ) (u w : List ℕ) → Node e x y free → Turn a s x y → Put u w (place e x y) v →
    IsKnown b es s x y free v → IsSound e b es a u → IsSound e b es a w
sound_put {e} {b} {es} a s x y free v u w node turn written known sound r z q f turn' node' =
    ⊎_elim
    (λ same. let (ez, eq) = place_once e z q x y node'.position node.position same in
    let ef = same_free node f (rw (ez, eq) at node') in
    let er = turn_once a r s x y (rw (ez, eq) at turn') turn in
    rw (ez, eq, ef, er, written.there) known)
    (λ apart. rw (written.others (place e z q) apart) (sound r z q f turn' node'))
    (cases_eq (place e z q) (place e x y))

-- One more cell k is tried, and the node after it is told: a win of the one to move there, or a loss, within a carrier.
module _ {e : ℕ} {mine theirs : Links} {p : Position} {t u : List ℕ} {must own lost : ℕ} (node : Node e p.mine p.theirs p.free)
    (c : Completions mine p.mine p.free own) (none : own ≡ 0) (h : Searching e mine theirs p t u must lost) (k : ℕ) (of : bit k must ≡ 1) where
  here : bit k p.free ≡ 1
  here = h.inside k of

  told_then : {v : List ℕ} {next : Found} → Tells e theirs mine (position_after p (2 ^ k)) u v next → (b : Board) (es : List ℕ) (a s : ℕ) → Ending e b es s mine theirs →
      Turn a s p.mine p.theirs → (Joins mine p.mine → ⊥) → (Joins theirs p.theirs → ⊥) → IsSound e b es a u →
      IsTold b es (other s) p.theirs (p.mine + 2 ^ k) (p.free - 2 ^ k) next × IsSound e b es a v
  told_then tells b es a s end turn apart others sound =
      let out = (no_stone node k here).1 in
      tells.of b es a (other s) (swapped end) (turn_after a s p.mine p.theirs k end.side out turn) others (still_apart end k out here c none apart) sound

  smaller : (carrier : ℕ) → Within carrier (p.free - 2 ^ k) → Within carrier p.free
  smaller carrier inside j i = ⊎_elim (λ q. absurd (omega (arith, inside j i))) (λ q. sym q.1 ∙ inside j i) (bit_less k p.free here j)

  -- the other wins after it: what must be tried is cut down to the carrier of that win
  pub searching_cut : {v : List ℕ} {carrier : ℕ} {step : Option ℕ} → Within carrier (p.free - 2 ^ k) → Tells e theirs mine (position_after p (2 ^ k)) u v (Won carrier step) →
      Searching e mine theirs p t v (bit_and must carrier) (bit_or lost carrier)
  searching_cut {carrier = carrier} inside tells = record {
    inside = λ j i. h.inside j (in_and j must carrier i).0;
    within = λ j i. ⊎_elim (h.within j) (smaller carrier inside j) (in_or j lost carrier i);
    so_far = λ b es a s end turn apart others sound.
        let (tried, now) = h.so_far b es a s end turn apart others sound in
        let (told, after) = told_then tells b es a s end turn apart others now in
        (tried_more end.numbered (other s) (other_side s end.side) p.theirs p.free must lost carrier tried (smaller carrier inside) told.0, after);
  }

  -- the side itself wins after it, and so within that carrier and the cell;
  pub won_within : (carrier : ℕ) → Within carrier (p.free - 2 ^ k) → Within (bit_or carrier (2 ^ k)) p.free
  won_within carrier inside j i = ⊎_elim (smaller carrier inside j) (one_within k p.free here j) (in_or j carrier (2 ^ k) i)

  -- this is written into the table
  pub searching_won : {v : List ℕ} {carrier : ℕ} (w : List ℕ) → Within carrier (p.free - 2 ^ k) → Tells e theirs mine (position_after p (2 ^ k)) u v (Lost carrier) → Put v w (place e p.mine p.theirs) 1 →
      Tells e mine theirs p t w (Won (bit_or carrier (2 ^ k)) (Some k))
  searching_won {v} {carrier} w inside tells written = record {
    of = λ b es a s end turn apart others sound.
        let (tried, now) = h.so_far b es a s end turn apart others sound in
        let (told, after) = told_then tells b es a s end turn apart others now in
        let (l, out, _) = no_stone node k here in
        let back : other (other s) ≡ s = omega (arith, end.side) in
        let stands = subst (λ r. Stands b es r (p.mine + 2 ^ k) carrier) back told in
        let wins = win end.numbered s end.side p.mine carrier k (omega (arith, end.many)) out stands in
        let all = forced_more end.numbered s end.side p.mine (bit_or carrier (2 ^ k)) p.free (won_within carrier inside) wins in
        ((wins, record { of = here; carrier = carrier; within = smaller carrier inside; stands = stands }), sound_put a s p.mine p.theirs p.free 1 v w node turn written (won refl all) after);
  }

-- At the end nothing must be tried any more.
module _ {e : ℕ} {mine theirs : Links} {p : Position} {t u : List ℕ} {lost : ℕ} (node : Node e p.mine p.theirs p.free) (h : Searching e mine theirs p t u 0 lost) where
  -- what is found is told, if the table stays as it is
  pub searching_lost : Tells e mine theirs p t u (Lost lost)
  searching_lost = record {
    of = λ b es a s end turn apart others sound.
        let (tried, now) = h.so_far b es a s end turn apart others sound in
        let (k, free) = some_free end p.free node apart others in
        (tried_all end.numbered (other s) (other_side s end.side) p.theirs p.free lost k tried free, now);
  }

  -- or if it is written into the table
  pub searching_all : (w : List ℕ) → Put u w (place e p.mine p.theirs) 2 → Tells e mine theirs p t w (Lost lost)
  searching_all w written = record {
    of = λ b es a s end turn apart others sound.
        let (stands, now) = searching_lost.of b es a s end turn apart others sound in
        let all = forced_more end.numbered (other s) (other_side s end.side) p.theirs lost p.free h.within stands in
        (stands, sound_put a s p.mine p.theirs p.free 2 u w node turn written (IsKnown.lost refl all) now);
  }

-- A cell that connects at once is taken.
pub told_at_once : (e : ℕ) (mine theirs : Links) (p : Position) (t : List ℕ) {own : ℕ} (k : ℕ) → Node e p.mine p.theirs p.free →
    Completions mine p.mine p.free own → bit k own ≡ 1 → Tells e mine theirs p t t (Won (2 ^ k) (Some k))
told_at_once e mine theirs p t k node c h = record {
  of = λ b es a s end turn apart others sound.
      let (l, out, _) = no_stone node k (c.inside k h) in
      let fits = node.position.mine_fits in
      ((wins_at_once end k l fits out (c.joins k h), record { of = c.inside k h; carrier = 0; within = λ j i. absurd (omega (arith, i, bit_none j)); stands = at_once end k l fits out (c.joins k h) }), sound);
}

-- What the table knows is told.
module _ (e : ℕ) (mine theirs : Links) (p : Position) (t : List ℕ) (node : Node e p.mine p.theirs p.free) where
  known_loss : {b : Board} {es : List ℕ} {s v : ℕ} → v ≡ 2 → IsKnown b es s p.mine p.theirs p.free v → Stands b es (other s) p.theirs p.free
  known_loss e (unknown z) = absurd (omega arith)
  known_loss e (won one wins) = absurd (omega arith)
  known_loss e (lost two stands) = stands

  known_win : {b : Board} {es : List ℕ} {s v : ℕ} → v ≡ 1 → IsKnown b es s p.mine p.theirs p.free v → Wins b es s p.mine p.free
  known_win e (unknown z) = absurd (omega arith)
  known_win e (won one wins) = wins
  known_win e (lost two stands) = absurd (omega arith)

  pub told_known : (winner : Winner) → entry t (place e p.mine p.theirs) ≡ entry_of winner → Tells e mine theirs p t t (found_of winner p.free)
  told_known Mover is = record { of = λ b es a s end turn apart others sound. ((known_win is (sound s p.mine p.theirs p.free turn node), tt), sound) }
  told_known Other is = record { of = λ b es a s end turn apart others sound. (known_loss is (sound s p.mine p.theirs p.free turn node), sound) }
