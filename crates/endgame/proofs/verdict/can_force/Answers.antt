use Rattle.std.proofs.Common.{◌≡◌, ◌-◌, ◌^◌, ◌≤◌, Some, length, drop, ◌++◌, get_or, sym, ap, subst, arith}
use Rattle.std.proofs.lemmas.List.{length-take-le}
use Rattle.std.proofs.lemmas.Slice.{drop-append-drop}
use Rattle.hexboard.proofs.Boards.{side_number, empties_few}
use Rattle.hexboard.specs.Board.{other, empties}
use Rattle.hexboard.specs.Sides.{number}
use Rattle.std.specs.Int.{div_ceil}
use Rattle.ranking.specs.Positions.{total}
use Rattle.ranking.proofs.Bits.{cell_below}
use Rattle.endgame.specs.Prepared.{ArePrepared}
use Rattle.endgame.specs.declared.search.Found.{Found}
use Rattle.endgame.specs.declared.search.Found.TheVariants.{Won, Lost}
use Rattle.endgame.specs.Searched.{TellsWinner}
use Rattle.endgame.specs.Searches.{IsOnce}
use Rattle.endgame.proofs.Once.{once_front}
use Rattle.endgame.specs.Verdicts.{IsSameBehind, Judges}
use Rattle.endgame.specs.declared.verdict.Verdict.TheVariants.{Yes}
use Rattle.endgame.proofs.Starting.{node_first, enough}
use Rattle.endgame.proofs.Judging.{judged_no, judged_yes}
use Rattle.endgame.proofs.verdict.can_force.Goals as goal
use Rattle.endgame.proofs.verdict.can_force.Goals.{After-div_ceil-bytes, After-look_through}

-- the part of the table that the positions take is there, and takes them
fits : (c : After-div_ceil-bytes) → c.div_ceil-bytes.result ≤ length c.args.table.now
fits c =
    let n = c.args.position.now.size.n in
    let e = c.new-search.result.ranking.cells in
    let room = enough n e c.new-search.result.ranking.few (omega (arith, c.in-Some.ensures.many, empties_few c.args.position.now.stones.now, c.new-search.ensures.cells, c.args.position.now.whole)) in
    omega (arith, room, c.places.ensures.value, c.div_ceil-bytes.ensures, c.requires)

pub slice_bounds-look_through-end : goal.slice_bounds-look_through-end
slice_bounds-look_through-end c = fits (goal.at.slice_bounds-look_through-end c).After-div_ceil-bytes

pub slice_bounds-look_through-end-2 : goal.slice_bounds-look_through-end-2
slice_bounds-look_through-end-2 c = sym (length-take-le c.div_ceil-bytes.result c.args.table.now (fits (goal.at.slice_bounds-look_through-end-2 c).After-div_ceil-bytes))

pub look_through-requires-clause-room : goal.look_through-requires-clause-room
look_through-requires-clause-room c =
    let part = length-take-le c.div_ceil-bytes.result c.args.table.now (fits (goal.at.look_through-requires-clause-room c).After-div_ceil-bytes) in
    omega (arith, part, c.places.ensures.value, c.div_ceil-bytes.ensures)

-- What the links and the search tell, said of the other side and of the cells that are listed.
module _ (c : After-look_through) where
  others : ArePrepared c.args.position.now.size.n (other (number c.args.side)) c.args.position.now.stones.now c.args.position.now.parents.now c.args.position.now.borders.now c.in-Some.cells.items c.prepare-theirs.result
  others =
      let g = c.args.position.now in
      subst (λ w. ArePrepared g.size.n w g.stones.now g.parents.now g.borders.now c.in-Some.cells.items c.prepare-theirs.result) c.opponent.ensures c.prepare-theirs.ensures

  looked : (found : Found) → TellsWinner c.new-search.result.ranking.cells c.prepare-mine.result c.prepare-theirs.result found → TellsWinner (length c.in-Some.cells.items) c.prepare-mine.result c.prepare-theirs.result found
  looked found told = rw (sym c.len.ensures.value, sym c.new-search.ensures.cells) told

pub returns-in-Lost-clause-right : goal.returns-in-Lost-clause-right
returns-in-Lost-clause-right c =
    let at = (goal.at.returns-in-Lost-clause-right c).After-look_through in
    judged_no c.args.position.now (number c.args.side) (side_number c.args.side) c.in-Some.ensures c.prepare-mine.ensures (others at) c.in-Lost.carrier
    (looked at (Lost c.in-Lost.carrier) c.in-Lost.ensures.told)

-- the step is one of those cells
pub bounds-deref-cell : goal.bounds-deref-cell
bounds-deref-cell c =
    let e = c.new-search.result.ranking.cells in
    let inside = rw c.in-Won-default-Some.step-is at c.in-Won-default-Some.ensures.stepped in
    omega (arith, c.new-search.ensures.cells, c.len.ensures.value, ap length c.deref.ensures.0, cell_below e c.in-Won-default-Some.cell (2 ^ e - 1) (node_first e).free_fits inside)

pub returns-in-Won-default-Some-clause-right : goal.returns-in-Won-default-Some-clause-right
returns-in-Won-default-Some-clause-right c =
    let at = (goal.at.returns-in-Won-default-Some-clause-right c).After-look_through in
    let g = c.args.position.now in
    let cell = c.in-Won-default-Some.cell in
    let carrier = c.in-Won-default-Some.carrier in
    let told = rw c.in-Won-default-Some.step-is at c.in-Won-default-Some.ensures.told in
    subst (λ l. Judges g.size.n (number c.args.side) g.stones.now g.parents.now g.borders.now (Yes (get_or l cell 0))) (sym c.deref.ensures.0)
    (judged_yes g (number c.args.side) (side_number c.args.side) c.in-Some.ensures c.prepare-mine.ensures (others at) carrier cell (looked at (Won carrier (Some cell)) told))

-- the part of the table that was searched, and what is behind it
once : (c : After-look_through) (fit : c.div_ceil-bytes.result ≤ length c.args.table.now) → IsOnce (empties c.args.position.now.stones.now) c.look_through.new.self.effort (c.look_through.new.table ++ drop c.div_ceil-bytes.result c.args.table.now)
once c fit =
    let part = length-take-le c.div_ceil-bytes.result c.args.table.now fit in
    once_front c.look_through.new.table (drop c.div_ceil-bytes.result c.args.table.now)
    (omega (arith, c.in-Some.ensures.many, c.len.ensures.value, c.new-search.ensures.cells)) (omega (arith, part, c.look_through.auto.table, c.places.ensures.value, c.div_ceil-bytes.ensures))
    c.look_through.ensures.searched c.look_through.ensures.looks

pub returns-in-Lost-clause-once : goal.returns-in-Lost-clause-once
returns-in-Lost-clause-once c few = once (goal.at.returns-in-Lost-clause-once c).After-look_through (fits (goal.at.returns-in-Lost-clause-once c).After-div_ceil-bytes)

pub returns-in-Won-default-Some-clause-once : goal.returns-in-Won-default-Some-clause-once
returns-in-Won-default-Some-clause-once c few = once (goal.at.returns-in-Won-default-Some-clause-once c).After-look_through (fits (goal.at.returns-in-Won-default-Some-clause-once c).After-div_ceil-bytes)

-- no more of the table than the positions take was lent
behind : (c : After-look_through) (fit : c.div_ceil-bytes.result ≤ length c.args.table.now) → IsSameBehind (empties c.args.position.now.stones.now) c.args.table.now (c.look_through.new.table ++ drop c.div_ceil-bytes.result c.args.table.now)
behind c fit =
    let part = length-take-le c.div_ceil-bytes.result c.args.table.now fit in
    let cells : c.new-search.result.ranking.cells ≡ empties c.args.position.now.stones.now = omega (arith, c.in-Some.ensures.many, c.len.ensures.value, c.new-search.ensures.cells) in
    let bytes = ap (λ e. div_ceil (total e) 4) cells in
    drop-append-drop c.div_ceil-bytes.result c.args.table.now c.look_through.new.table _
    (omega (arith, bytes, ap (λ places. div_ceil places 4) c.places.ensures.value, c.div_ceil-bytes.ensures)) (omega (arith, part, c.look_through.auto.table))

pub returns-in-Lost-clause-behind : goal.returns-in-Lost-clause-behind
returns-in-Lost-clause-behind c = behind (goal.at.returns-in-Lost-clause-behind c).After-look_through (fits (goal.at.returns-in-Lost-clause-behind c).After-div_ceil-bytes)

pub returns-in-Won-default-Some-clause-behind : goal.returns-in-Won-default-Some-clause-behind
returns-in-Won-default-Some-clause-behind c = behind (goal.at.returns-in-Won-default-Some-clause-behind c).After-look_through (fits (goal.at.returns-in-Won-default-Some-clause-behind c).After-div_ceil-bytes)
