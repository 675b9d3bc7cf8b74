use Rattle.std.proofs.Common.{◌≡◌, ◌+◌, ◌-◌, arith, ◌∙◌, sym}
use Rattle.moving_obstacles.proofs.Rising.{found_before, found_from}
use Rattle.moving_obstacles.proofs.indexed_track.placement_from.Goals as goal

pub returns-then-tick-first : goal.returns-then-tick-first
returns-then-tick-first c = sym (found_before c.args.first c.args.tick c.args.placements.now c.requires (omega (arith, c.if-tick-first.true)))

pub returns-else-tick-first : goal.returns-else-tick-first
returns-else-tick-first c =
    let place = c.args.tick - c.args.first in
    let sum : c.args.tick ≡ c.args.first + place = omega (arith, c.if-tick-first.false) in
    c.placement_at.ensures ∙ found_from c.args.first c.args.tick place c.args.placements.now c.requires sum
