use Rattle.std.proofs.Common.{rules, arith, ◌≡◌, ◌∙◌, sym, ap, subst, ℤ, pos, ◌<ℤ◌, unsigned_abs, FitsSigned, w64, to_z-of_z}
use mir.Syntax.{w128}
use Rattle.std.specs.Prelude.{int_le}
use Rattle.std.specs.Int.{int_min}
use Rattle.std.proofs.lemmas.Int.{ints}
use Rattle.moving_obstacles.specs.Nearness.{along}
use Rattle.moving_obstacles.proofs.Leasts.{distance_there}
use Rattle.moving_obstacles.proofs.ahead.nearer.Goals as goal

pub returns-then-is_beside-clause-value : goal.returns-then-is_beside-clause-value
returns-then-is_beside-clause-value c =
    let f : FitsSigned w64 c.lesser.result = search rules in
    let g : FitsSigned w64 c.args.least = c.ranges.least in
    let w : FitsSigned w64 c.args.width = c.ranges.width in
    let a : FitsSigned w128 c.ahead-distance.result = search rules in
    let s : FitsSigned w128 c.beside.result = search rules in
    let distance = along c.args.position c.args.unit c.args.pose in
    let beside : c.is_beside.result ≡ int_le (pos (unsigned_abs c.beside.result)) c.args.width = simp to_z-of_z at c.is_beside.ensures in
    let lesser : c.lesser.result ≡ int_min c.args.least c.ahead-distance.result = simp to_z-of_z at c.lesser.ensures.value in
    let above : pos 0 <ℤ c.ahead-distance.result = omega (arith, ints, c.if-distance-gt0.true) in
    let IsAbove : ℤ → Type 0 = λ z. pos 0 <ℤ z in
    let near = ap (λ (z : ℤ). int_le (pos (unsigned_abs z)) c.args.width) (sym c.beside.ensures.value) ∙ sym beside ∙ c.if-is_beside.true in
    simp to_z-of_z (distance_there c.args.position c.args.unit c.args.width c.args.pose c.args.least c.lesser.result (subst IsAbove c.ahead-distance.ensures.value above) near (lesser ∙ ap (int_min c.args.least) c.ahead-distance.ensures.value))
