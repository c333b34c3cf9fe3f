use Rattle.std.proofs.Common.{◌∙◌, arith}
use Rattle.session.proofs.Rooms.{longer_more}
use Rattle.session.proofs.desk.set_len.Goals as goal

pub loop-end-preserved : goal.loop-end-preserved
loop-end-preserved c =
    let so_far = c.loop-end.invariant in
    let room = c.insert.ensures.succeeds (omega (arith, so_far.long, so_far.in_place, c.loop-end-test.true, c.requires, c.truncate.ensures.capacity)) in
    let placed = c.insert.ensures.in_place (omega (arith, so_far.long, so_far.in_place, c.loop-end-test.true, c.requires, c.truncate.ensures.capacity)) in
    record {
      items_are =
          (rw room at c.insert.ensures.items) ∙
          longer_more c.truncate.new.self.items c.loop-end.bytes.items c.truncate.new.self.len c.loop-end.end (omega (arith, c.loop-end.auto.end, c.len-end.ensures)) (omega (arith, c.loop-end.bytes.ok.0, so_far.long)) so_far.items_are;
      long = (rw room at c.insert.ensures.len) ∙ omega (arith, so_far.long);
      in_place = placed.1.0 ∙ so_far.in_place;
    }
