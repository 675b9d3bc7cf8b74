use Rattle.std.proofs.Common.{rules, ◌≡◌, ◌∙◌, ap, FitsSigned, w64, to_z-of_z}
use Rattle.std.specs.List.{flat_map}
use Rattle.fixed_geometry.specs.declared.point.Point.{Point}
use Rattle.fixed_geometry.specs.Turning.{direction}
use Rattle.moving_obstacles.specs.declared.track.Track.{Track}
use Rattle.moving_obstacles.specs.Nearness.{least, distances}
use Rattle.moving_obstacles.specs.Tracks.{pose_in}
use Rattle.moving_obstacles.proofs.Same.{headway_same}
use Rattle.moving_obstacles.proofs.Leasts.{headway_is}
use Rattle.moving_obstacles.proofs.traffic.Traffic.headway.Goals as goal

pub returns-clause-all : goal.returns-clause-all
returns-clause-all c = λ obstacles e.
    let fits : FitsSigned w64 c.least_distance_at.result = search rules in
    let width : FitsSigned w64 c.args.width = c.ranges.width in
    let heading : FitsSigned w64 c.args.heading = c.ranges.heading in
    let tracks = c.as_slice-tracks.result.now in
    let unit : c.direction-unit.result ≡ direction c.args.heading = simp to_z-of_z at c.direction-unit.ensures.value in
    let found = simp to_z-of_z at c.least_distance_at.ensures.value in
    let turned = ap (λ (d : Point). least (flat_map (λ (t : Track). distances c.args.position d c.args.width (pose_in t c.args.tick)) tracks)) unit in
    simp to_z-of_z (found ∙ turned ∙ headway_same obstacles tracks c.args.position c.args.heading c.args.width c.args.tick (c.as_slice-tracks.ensures ∙ c.self.view_is ∙ e))

pub returns-clause-least : goal.returns-clause-least
returns-clause-least c = λ obstacles e.
    let fits : FitsSigned w64 c.least_distance_at.result = search rules in
    let width : FitsSigned w64 c.args.width = c.ranges.width in
    let heading : FitsSigned w64 c.args.heading = c.ranges.heading in
    let tracks = c.as_slice-tracks.result.now in
    let unit : c.direction-unit.result ≡ direction c.args.heading = simp to_z-of_z at c.direction-unit.ensures.value in
    let found = simp to_z-of_z at c.least_distance_at.ensures.value in
    let turned = ap (λ (d : Point). least (flat_map (λ (t : Track). distances c.args.position d c.args.width (pose_in t c.args.tick)) tracks)) unit in
    simp to_z-of_z (headway_is obstacles c.args.position c.args.heading c.args.width c.args.tick c.least_distance_at.result (found ∙ turned ∙ headway_same obstacles tracks c.args.position c.args.heading c.args.width c.args.tick (c.as_slice-tracks.ensures ∙ c.self.view_is ∙ e)))
