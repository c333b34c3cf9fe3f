use Rattle.std.proofs.Common.{refl}
use Rattle.history.specs.Holds.{lent}
use Rattle.session.proofs.Asking.{stones_long, not_refused_number, not_refused_way}
use Rattle.session.proofs.serve.serve.Goals as goal

pub who-requires-clause-long : goal.who-requires-clause-long
who-requires-clause-long c = stones_long c.args.game (lent c.args.stones.now c.args.log.now c.args.parents.now c.args.borders.now) c.requires.holds

pub returns-in-Some : goal.returns-in-Some
returns-in-Some c = record {
  right = rw c.in-Who.is (c.in-Some.ensures.right c.args.log.now c.args.parents.now c.args.borders.now c.requires.holds);
  short = c.in-Some.ensures.short c.args.log.now c.args.parents.now c.args.borders.now c.requires.holds;
  holds = c.requires.holds;
  same_size = refl;
  refused = λ why e. absurd (not_refused_way c.in-Some.side c.in-Some.cells why e);
  has_bytes = tt;
  counted = c.in-Some.ensures.counted;
  fits = c.in-Some.ensures.fits;
  behind = c.in-Some.ensures.behind;
}

pub returns-in-None : goal.returns-in-None
returns-in-None c = record {
  right = rw c.in-Who.is (c.in-None.ensures.right c.args.log.now c.args.parents.now c.args.borders.now c.requires.holds);
  short = tt;
  holds = c.requires.holds;
  same_size = refl;
  refused = λ why e. absurd (not_refused_number 0 why e);
  has_bytes = tt;
  counted = c.in-None.ensures.counted;
  fits = c.in-None.ensures.fits;
  behind = c.in-None.ensures.behind;
}
