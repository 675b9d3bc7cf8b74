use Rattle.std.proofs.Common.{◌*◌, ◌^◌, ◌*ℤ◌, arith, FitsSigned, to_z-of_z}
use mir.Syntax.{w128}
use Rattle.std.proofs.lemmas.Int.{fits_signed_mul}
use Rattle.fixed_geometry.specs.declared.limits.TheConstants.{MAX_PLANE_COORDINATE}
use Rattle.fixed_geometry.proofs.Integers.{size-product_le}
use Rattle.fixed_geometry.proofs.vector.product.Goals as goal

pub returns-clause-value : goal.returns-clause-value
returns-clause-value c =
    let f : FitsSigned w128 c.args.u = c.ranges.u in
    let g : FitsSigned w128 c.args.v = c.ranges.v in
    let h : FitsSigned w128 (c.args.u *ℤ c.args.v) = fits_signed_mul w128 c.args.u c.args.v (2 * MAX_PLANE_COORDINATE) (10 ^ 20) c.requires.u c.requires.v (omega arith) in
    simp to_z-of_z

pub returns-clause-size : goal.returns-clause-size
returns-clause-size c =
    let f : FitsSigned w128 c.args.u = c.ranges.u in
    let g : FitsSigned w128 c.args.v = c.ranges.v in
    let h : FitsSigned w128 (c.args.u *ℤ c.args.v) = fits_signed_mul w128 c.args.u c.args.v (2 * MAX_PLANE_COORDINATE) (10 ^ 20) c.requires.u c.requires.v (omega arith) in
    simp to_z-of_z (size-product_le c.args.u c.args.v (2 * MAX_PLANE_COORDINATE) (10 ^ 20) c.requires.u c.requires.v)
