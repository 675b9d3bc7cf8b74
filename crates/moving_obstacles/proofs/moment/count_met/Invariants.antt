use Rattle.std.proofs.Common.{◌≡◌, ◌≤◌, take}
use Rattle.std.specs.Prelude.{count_by}
use Rattle.moving_obstacles.specs.Nearness.{is_met}
use Rattle.moving_obstacles.specs.Tracks.{occupancy_in}
use Rattle.moving_obstacles.proofs.moment.count_met.Given as goal

abbrev pub invariant-loop-presence : goal.invariant-loop-presence
invariant-loop-presence l = (l.count ≡ count_by (λ p. is_met l.ego (occupancy_in l.tracks p.place l.tick)) (take l.presence-index l.present)) × (l.count ≤ l.presence-index)
