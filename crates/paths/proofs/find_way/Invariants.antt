-- The way is walked back, and its cells so far are written.
use Rattle.std.proofs.Common.{◌≡◌, ◌-◌, ◌*◌, ◌<◌, drop}
use Rattle.hexboard.specs.Words.{words}
use Rattle.paths.specs.Grounds.{ground_of}
use Rattle.paths.specs.Search.{Met}
use Rattle.paths.proofs.Walks.{Walking}
use Rattle.paths.proofs.find_way.Given as goal

abbrev pub invariant-loop-ground : goal.invariant-loop-ground
invariant-loop-ground l =
    let g = ground_of l.ground in
    let queue = words l.frontier.queue.now in
    let from = words l.frontier.from.now in
    (m : Met g queue from l.initial.cell)
    × Walking g from m.depth l.initial.cell l.cell l.count (words l.out)
    × (0 < l.count)
    × (drop (2 * l.count) l.out ≡ drop (2 * l.count) l.initial.out)

-- a way has no more cells than the board
abbrev pub decreases-loop-ground : goal.decreases-loop-ground
decreases-loop-ground l = l.ground.size.n * l.ground.size.n - l.count
