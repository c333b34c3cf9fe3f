-- The cells of the side at its border, so far, stand in the queue.
use Rattle.hexboard.specs.Words.{words}
use Rattle.paths.specs.Grounds.{ground_of, HasRoom}
use Rattle.paths.proofs.Sources.{Sown}
use Rattle.paths.proofs.search.sow.Given as goal

abbrev pub invariant-loop-cell : goal.invariant-loop-cell
invariant-loop-cell l =
    record {
      sown : Sown (ground_of l.ground) (words l.frontier.queue.now) (words l.frontier.from.now) l.cell l.frontier.count;
      room : HasRoom l.frontier l.ground.size.n;
    }
