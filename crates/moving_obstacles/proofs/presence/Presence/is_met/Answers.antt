use Rattle.std.proofs.Common.{rules, arith, ◌≡◌, ◌∙◌, ap, subst, ℤ, pos, ◌<ℤ◌, FitsSigned, w64, to_z-of_z}
use Rattle.std.specs.Prelude.{int_lt, true}
use Rattle.std.proofs.lemmas.Int.{ints}
use Rattle.fixed_geometry.specs.declared.point.Box2.{Box2}
use Rattle.fixed_geometry.specs.Boxes.{box_gap}
use Rattle.moving_obstacles.proofs.Listing.{not_met}
use Rattle.moving_obstacles.proofs.presence.Presence.is_met.Goals as goal

pub returns-then-box_gap-gt0 : goal.returns-then-box_gap-gt0
returns-then-box_gap-gt0 c =
    let fits : FitsSigned w64 c.box_gap.result = search rules in
    let test : int_lt (pos 0) c.box_gap.result ≡ true = simp to_z-of_z at c.if-box_gap-gt0.true in
    let above : pos 0 <ℤ c.box_gap.result = omega (arith, ints, test) in
    let IsApart : ℤ → Type 0 = λ gap. pos 0 <ℤ gap in
    let apart = subst IsApart (c.box_gap.ensures.value ∙ ap (λ (ego : Box2). box_gap ego c.args.self.now.bounds) c.requires.bounds) above in
    not_met c.args.tracks.now c.args.tick c.args.self.now c.args.ego.now c.requires.present apart
