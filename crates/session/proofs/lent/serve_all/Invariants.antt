-- The calls so far were answered, and the answers heard; the parts hold the game that they left.
use Rattle.std.proofs.Common.{◌≡◌, ◌*◌, length, take}
use Rattle.history.specs.Holds.{formal, Holds}
use Rattle.session.specs.Lending.{memory_in}
use Rattle.session.specs.Runs.{Hears, rows_of}
use Rattle.session.specs.Serving.{Room}
use Rattle.session.proofs.lent.serve_all.Given as goal

abbrev pub invariant-loop-bytes : goal.invariant-loop-bytes
invariant-loop-bytes g l = record {
  holds : Holds l.game (memory_in l.parts);
  room : Room l.game.size.n (length l.parts.scratch.now) (2 * (l.game.size.n * l.game.size.n));
  long : length l.answer ≡ 730;
  hears : Hears (formal l.initial.game (memory_in l.initial.parts)) (rows_of (take l.bytes-index l.calls)) (formal l.game (memory_in l.parts)) (g.S.Sink.heard l.initial.sink) (g.S.Sink.heard l.sink);
}
