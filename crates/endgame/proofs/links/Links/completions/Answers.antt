use lib.Bits.{bit_and}
use Rattle.ranking.proofs.Bits.{in_and, and_in}
use Rattle.endgame.proofs.links.Links.completions.Goals as goal

pub returns : goal.returns
returns c =
    let free = c.args.free in
    let head = c.flood.result in
    let tail = c.flood-2.result in
    record {
      inside = λ k h. (in_and k free head (in_and k (bit_and free head) tail h).0).0;
      joins = λ k h. let both = in_and k (bit_and free head) tail h in
          (c.flood.ensures.sound k (in_and k free head both.0).1, c.flood-2.ensures.sound k both.1);
      all = λ k h t. and_in k (bit_and free head) tail (and_in k free head h (c.flood.ensures.complete k t.0)) (c.flood-2.ensures.complete k t.1);
    }
