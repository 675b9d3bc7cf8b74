use Rattle.std.proofs.Common.{◌≡◌, take, ◌≤ℤ◌, pos}
use Rattle.std.specs.Prelude.{Some}
use Rattle.std.specs.List.{fold, flat_map}
use Rattle.std.specs.Int.{int_min}
use Rattle.moving_obstacles.specs.Nearness.{distances}
use Rattle.moving_obstacles.specs.declared.limits.TheConstants.{MAX_DISTANCE}
use Rattle.moving_obstacles.proofs.moment.least_distance.Given as goal

abbrev pub invariant-loop-presence : goal.invariant-loop-presence
invariant-loop-presence l = record {
  value : l.nearest ≡ fold int_min MAX_DISTANCE (flat_map (λ p. distances l.position l.unit l.width (Some p.pose)) (take l.presence-index l.present));
  low : pos 0 ≤ℤ l.nearest;
}
