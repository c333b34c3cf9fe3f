use Rattle.std.proofs.Common.{◌≢◌, [], inl, inr, subst, append-nil}
use Rattle.std.proofs.KnownBytes.{Consumes-nil, Consumes-kept}
use Rattle.std.proofs.BufReadLemmas.{Consumes_shown}
use Rattle.std.proofs.lemmas.List.Elements.{All-nil}
use Rattle.std.specs.Io.BufRead.{FillKeeps}
use Rattle.std.specs.Io.KnownBytes.{Consumes}
use Rattle.driver.proofs.Keeping.{at_end}
use Rattle.driver.proofs.line.take_some.Goals as goal

pub returns-in-Err-clause-taken : goal.returns-in-Err-clause-taken
returns-in-Err-clause-taken g c = record {
  part = [];
  consumed = Consumes-kept _ _ _ [] (Consumes-nil _) c.fill.follows.holds-at-none.0;
  no_feed = All-nil (λ b. b ≢ 10);
  some = inl c.in-Err.ensures.broke;
  end = λ e. absurd cc;
  kept = λ all is. rw append-nil is;
}

pub returns-clause-taken : goal.returns-clause-taken
returns-clause-taken g c =
    let shown = c.in-Ok.bytes.now in
    let n = c.take_part-count.result.0 in
    let t = c.take_part-count.ensures.taken in
    let rested = c.fill.follows.lender-at-none in
    let filled = subst (FillKeeps _ (g.R.Read.remaining rested) (g.R.BufRead.consumable_len rested)) c.in-Ok.is c.fill.follows.holds-at-none in
    let moved = Consumes_shown _ _ _ _ shown n c.take_part-count.ensures.count c.in-Ok.ensures.front c.in-Ok.ensures.end filled.0 filled.1 c.consume.ensures.bytes in
    let consumed = subst (Consumes _ _) t.bytes_are moved.0 in
    record {
      part = t.part;
      consumed = consumed;
      no_feed = t.no_feed;
      some = inr t.some;
      end = λ e. at_end _ _ _ _ _ e t.some (λ d. c.take_part-count.ensures.end d) c.in-Ok.ensures.end moved.1 consumed;
      kept = t.kept;
    }
