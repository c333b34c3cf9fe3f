use Rattle.std.proofs.Common.{◌≡◌, length, get_or, ap, ◌∙◌, subst₂, arith}
use Rattle.hexboard.specs.Sides.{number}
use Rattle.endgame.specs.Gathering.{near_at, borders_at}
use Rattle.endgame.specs.Grouped.{board, parents}
use Rattle.hexboard.proofs.Boards.{side_number}
use Rattle.endgame.proofs.Preparing.{Preparing, preparing_none, preparing_more, prepared}
use Rattle.endgame.proofs.grouped.Grouped.prepare.Goals as goal

pub loop-k-init : goal.loop-k-init
loop-k-init c = preparing_none _ _

pub loop-k-preserved : goal.loop-k-preserved
loop-k-preserved c =
    let b = board c.args.self.now in
    let w = number c.args.side in
    let ps = parents c.args.self.now in
    let es = c.args.cells.now.items in
    let cell = ap (λ l. get_or l c.loop-k.k 0) c.deref-cell-items.ensures.0 in
    preparing_more
    {N = λ k. near_at b w ps c.gather-sets.result (get_or es k 0)}
    {T = λ k. borders_at b w ps c.args.self.now.borders.now (get_or es k 0)}
    c.loop-k.invariant c.look_around-it.result.near c.look_around-it.result.borders _ _ (omega arith)
    (c.look_around-it.ensures.near ∙ ap (near_at b w ps c.gather-sets.result) cell)
    (c.look_around-it.ensures.borders ∙ ap (borders_at b w ps c.args.self.now.borders.now) cell)
    c.add_if-first.ensures
    c.add_if-last.ensures

pub returns : goal.returns
returns c =
    let b = board c.args.self.now in
    let w = number c.args.side in
    let ps = parents c.args.self.now in
    let es = c.args.cells.now.items in
    let all : c.loop-k.k ≡ length es = omega (arith, ap length c.deref-cell-items.ensures.0) in
    prepared c.args.self.now.size.n w c.args.self.now.size.some c.args.self.now.size.few (side_number c.args.side) c.args.self.now.stones.now c.args.self.now.parents.now c.args.self.now.borders.now es _
    (subst₂ (λ m sets. Preparing (λ k. near_at b w ps sets (get_or es k 0)) (λ k. borders_at b w ps c.args.self.now.borders.now (get_or es k 0)) m c.loop-k.near c.loop-k.first c.loop-k.last) all c.gather-sets.ensures c.loop-k.invariant)
