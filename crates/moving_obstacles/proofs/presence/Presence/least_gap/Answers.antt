use Rattle.std.proofs.Common.{rules, arith, ◌≡◌, subst, ℤ, ◌≤ℤ◌, FitsSigned, w64, to_z-of_z}
use Rattle.std.specs.Prelude.{int_le, true}
use Rattle.std.proofs.lemmas.Int.{ints}
use Rattle.moving_obstacles.proofs.Listing.{least_stays}
use Rattle.moving_obstacles.proofs.presence.Presence.least_gap.Goals as goal

pub returns-then-least-box_gap-clause-value : goal.returns-then-least-box_gap-clause-value
returns-then-least-box_gap-clause-value c =
    let fits : FitsSigned w64 c.box_gap.result = search rules in
    let least_fits : FitsSigned w64 c.args.least = c.ranges.least in
    let test : int_le c.args.least c.box_gap.result ≡ true = simp to_z-of_z at c.if-least-box_gap.true in
    let below : c.args.least ≤ℤ c.box_gap.result = omega (arith, ints, test) in
    let IsFar : ℤ → Type 0 = λ gap. c.args.least ≤ℤ gap in
    let far = subst IsFar c.box_gap.ensures.value below in
    simp to_z-of_z (least_stays c.args.tracks.now c.args.tick c.args.self.now c.args.ego c.args.least c.requires.present far)
