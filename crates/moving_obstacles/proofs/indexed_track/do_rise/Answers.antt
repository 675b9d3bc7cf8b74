use Rattle.std.proofs.Common.{arith, ◌∙◌, sym}
use Rattle.moving_obstacles.proofs.Rising.{rise_more}
use Rattle.moving_obstacles.proofs.indexed_track.do_rise.Goals as goal

pub loop-placement-preserved : goal.loop-placement-preserved
loop-placement-preserved c =
    let at = c.loop-placement.placement-index in
    let tick = sym (c.from.ensures ∙ c.tick.ensures) ∙ c.if-from-next.false ∙ c.loop-placement.invariant.next in
    record { next = omega (arith, c.loop-placement.invariant.next); rise = rise_more c.args.first at c.args.placements.now c.placement-item.result c.loop-placement-test.true c.loop-placement.invariant.rise c.placement-item.is tick }
