use Rattle.std.proofs.Common.{subst, List, ℕ, ◌∷◌, ◌++◌, [], arith}
use Rattle.std.proofs.lemmas.List.{take_more}
use Rattle.history.specs.Holds.{formal}
use Rattle.session.specs.Lending.{memory_in}
use Rattle.session.proofs.Running.{hears_none, hears_more, hears_all, front_of, is_answered, taken_by}
use Rattle.session.proofs.lent.serve_all.Goals as goal

pub loop-bytes-init : goal.loop-bytes-init
loop-bytes-init g c = record {
  holds = c.requires.holds;
  room = c.requires.room;
  long = λ _. 730;
  hears = hears_none (formal c.args.game (memory_in c.args.parts)) (g.S.Sink.heard c.args.sink.now);
}

pub unwrap-requires : goal.unwrap-requires
unwrap-requires g c = is_answered _ _ _ _ _ _ _ _ _ _ c.call-left.ensures.called c.loop-bytes.invariant.long

pub loop-bytes-preserved : goal.loop-bytes-preserved
loop-bytes-preserved g c =
    let t = taken_by _ _ _ _ _ _ _ _ _ _ c.unwrap.result c.call-left.ensures.called c.unwrap.ensures in
    record {
      holds = c.call-left.ensures.holds;
      room = c.call-left.ensures.room;
      long = c.unwrap.array_long;
      hears =
          hears_more (formal c.args.game (memory_in c.args.parts)) (formal c.loop-bytes.game (memory_in c.loop-bytes.parts)) (formal c.call-left.result.0 (memory_in c.call-left.result.1))
          (g.S.Sink.heard c.args.sink.now) (g.S.Sink.heard c.loop-bytes.sink) (g.S.Sink.heard c.hear.new.self)
          c.args.calls.now c.loop-bytes.bytes-index _ t.answer (take_more c.args.calls.now c.loop-bytes.bytes-index _ c.loop-bytes-test.true)
          c.loop-bytes.invariant.hears t.right t.short
          (subst (λ (bs : List ℕ). (earlier : List (List ℕ)) → g.S.Sink.heard c.loop-bytes.sink earlier → g.S.Sink.heard c.hear.new.self (earlier ++ bs ∷ []))
          (front_of t.answer c.loop-bytes.answer c.call-left.new.answer c.unwrap.result t.shown_in) c.hear.ensures);
    }

pub returns : goal.returns
returns g c = (
  formal c.loop-bytes.game (memory_in c.loop-bytes.parts),
  hears_all (formal c.args.game (memory_in c.args.parts)) (formal c.loop-bytes.game (memory_in c.loop-bytes.parts)) (g.S.Sink.heard c.args.sink.now) (g.S.Sink.heard c.loop-bytes.sink)
      c.args.calls.now c.loop-bytes.bytes-index (omega arith) c.loop-bytes.invariant.hears,
)
