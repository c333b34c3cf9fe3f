use Rattle.std.proofs.Common.{◌+◌, sym, refl, ◌∙◌, arith}
use Rattle.hexboard.specs.Geometry.{laid}
use Rattle.hexboard.specs.Sides.{number}
use Rattle.hexboard.specs.Words.{words}
use Rattle.hexboard.proofs.TwoBytes.{words_length}
use Rattle.paths.proofs.TwoBytes.{behind_more}
use Rattle.paths.proofs.Grounds.{ground_mutual, few_cells, has_room}
use Rattle.paths.proofs.Walks.{met_shallow, walk_start, walk_room, walk_more, walk_few, walk_written}
use Rattle.paths.proofs.find_way.Goals as goal

pub search-requires : goal.search-requires
search-requires c = has_room c.args.size.n _ c.requires.lent.queued c.requires.lent.marked

pub loop-ground-init : goal.loop-ground-init
loop-ground-init c =
    let m = c.in_ok-cell.ensures.met in
    let some = met_shallow m in
    let room = words_length c.args.out.now in
    (m, rw c.set_word.ensures.after (walk_start m (words c.args.out.now) (omega arith)), omega arith, refl)

pub unwrap-cell-requires : goal.unwrap-cell-requires
unwrap-cell-requires c =
    let (m, walking, some, behind) = c.loop-ground.invariant in
    c.parent.ensures.reached.1 walking.reached

pub overflow_add-count : goal.overflow_add-count
overflow_add-count c =
    let (m, walking, some, behind) = c.loop-ground.invariant in
    let short = walk_room m walking (sym c.loop-ground-test.ensures) in
    let few = few_cells c.args.size.n c.args.size.few in
    omega arith

pub loop-ground-smaller : goal.loop-ground-smaller
loop-ground-smaller c =
    let (m, walking, some, behind) = c.loop-ground.invariant in
    let short = walk_room m walking (sym c.loop-ground-test.ensures) in
    omega arith

pub loop-ground-preserved : goal.loop-ground-preserved
loop-ground-preserved c =
    let (m, walking, some, behind) = c.loop-ground.invariant in
    let last = sym c.loop-ground-test.ensures in
    let short = walk_room m walking last in
    let room = words_length c.loop-ground.out in
    let next = rw c.unwrap-cell.ensures at c.parent.ensures.parent in (
      m,
      rw (c.set_word-in-loop-ground.ensures.after, next)
          (walk_more m walking (ground_mutual (laid c.args.size.n c.args.cells.now) (number c.args.side)) last (omega arith)),
      omega arith,
      c.set_word-in-loop-ground.ensures.behind (c.loop-ground.count + 1) (omega arith)
          ∙ behind_more c.loop-ground.out c.set_word.new.bytes c.loop-ground.count behind,
    )

pub returns : goal.returns
returns c =
    let (m, walking, some, behind) = c.loop-ground.invariant in
    let few = walk_few m walking in
    let room = words_length c.loop-ground.out in
    walk_written (laid c.args.size.n c.args.cells.now) (number c.args.side) c.args.out.now c.loop-ground.out m walking (sym c.loop-ground-test.ensures)
    (c.in_ok-cell.ensures.room.marked ∙ sym c.requires.lent.board) (omega arith)
    (behind ∙ c.set_word.ensures.behind c.loop-ground.count some)
