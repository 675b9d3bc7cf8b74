use Rattle.std.proofs.Common.{rules, arith, ◌≡◌, ◌∙◌, ap, subst, List, ℤ, ◌≤ℤ◌, FitsSigned, w64, to_z-of_z}
use Rattle.std.specs.Prelude.{int_le, true, map}
use Rattle.std.specs.List.{fold}
use Rattle.std.specs.Int.{int_min}
use Rattle.std.proofs.lemmas.Int.{ints}
use Rattle.fixed_geometry.specs.declared.point.Point.{Point}
use Rattle.fixed_geometry.specs.Boxes.{bounds, box_gap}
use Rattle.moving_obstacles.specs.declared.track.Placement.{Placement}
use Rattle.moving_obstacles.proofs.Bounding.{least_kept}
use Rattle.moving_obstacles.proofs.bounded_placement.BoundedPlacement.least_gap.Goals as goal

pub returns-then-least-box_gap-clause-value : goal.returns-then-least-box_gap-clause-value
returns-then-least-box_gap-clause-value c =
    let fits : FitsSigned w64 c.box_gap.result = search rules in
    let least_fits : FitsSigned w64 c.args.least = c.ranges.least in
    let test : int_le c.args.least c.box_gap.result ≡ true = simp to_z-of_z at c.if-least-box_gap.true in
    let below : c.args.least ≤ℤ c.box_gap.result = omega (arith, ints, test) in
    let IsFar : ℤ → Type 0 = λ gap. c.args.least ≤ℤ gap in
    let far = subst IsFar c.box_gap.ensures.value below in
    let kept = least_kept c.args.ego c.self.inside.bounds c.args.least c.self.inside.placement.shapes c.self.invariant far in
    let seen = ap (λ (placement : Placement). fold int_min c.args.least (map (λ (corners : List Point). box_gap c.args.ego (bounds corners)) placement.shapes)) c.self.view_is in
    simp to_z-of_z (kept ∙ seen)
