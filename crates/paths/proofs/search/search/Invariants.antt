-- The search goes on through the queue, and around the cell at its head.
use Rattle.std.proofs.Common.{◌≡◌, ◌-◌, ◌*◌, None}
use Rattle.hexboard.specs.Geometry.{neighbour_of}
use Rattle.hexboard.specs.Words.{words}
use Rattle.hexboard.proofs.Given.{Upto}
use Rattle.paths.specs.Search.{Ahead}
use Rattle.paths.specs.Grounds.{ground_of, HasRoom}
use Rattle.paths.proofs.Fronts.{Looking}
use Rattle.paths.proofs.search.search.Given as goal

abbrev pub invariant-search : goal.invariant-search
invariant-search l =
    record {
      none : l.found ≡ None;
      ahead : Ahead (ground_of l.ground) (words l.frontier.queue.now) (words l.frontier.from.now) l.head l.frontier.count;
      room : HasRoom l.frontier l.ground.size.n;
    }

abbrev pub invariant-loop-next : goal.invariant-loop-next
invariant-loop-next l =
    let near = neighbour_of l.ground.size.n l.cell in
    record {
      none : l.found ≡ None;
      looking : Upto near 6 l.next-iterator (Looking (ground_of l.ground) (words l.frontier.queue.now) (words l.frontier.from.now) l.head l.frontier.count l.cell near);
      room : HasRoom l.frontier l.ground.size.n;
    }

-- one place of the queue after another, of which there are no more than cells
abbrev pub decreases-search : goal.decreases-search
decreases-search l = l.ground.size.n * l.ground.size.n - l.head
