use Rattle.std.proofs.Common.{rules, ◌≡◌, ◌*ℤ◌, FitsSigned, w64, to_z-of_z}
use mir.Syntax.{w128}
use Rattle.std.specs.Int.{int_min, int_max}
use Rattle.violation_measures.specs.Intervals.{from_to}
use Rattle.violation_measures.specs.Ranges.{kept}
use Rattle.violation_measures.proofs.Products.{product_is}
use Rattle.violation_measures.proofs.range.product.Goals as goal

pub returns-clause-value : goal.returns-clause-value
returns-clause-value c =
    let al : FitsSigned w64 c.args.a.low = search rules in
    let ah : FitsSigned w64 c.args.a.high = search rules in
    let bl : FitsSigned w64 c.args.b.low = search rules in
    let bh : FitsSigned w64 c.args.b.high = search rules in
    let ll : c.times-ll.result ≡ c.args.a.low *ℤ c.args.b.low = simp to_z-of_z at c.times-ll.ensures.value in
    let lh : c.times-lh.result ≡ c.args.a.low *ℤ c.args.b.high = simp to_z-of_z at c.times-lh.ensures.value in
    let hl : c.times-hl.result ≡ c.args.a.high *ℤ c.args.b.low = simp to_z-of_z at c.times-hl.ensures.value in
    let hh : c.times-hh.result ≡ c.args.a.high *ℤ c.args.b.high = simp to_z-of_z at c.times-hh.ensures.value in
    let fll : FitsSigned w128 c.times-ll.result = search rules in
    let flh : FitsSigned w128 c.times-lh.result = search rules in
    let fhl : FitsSigned w128 c.times-hl.result = search rules in
    let fhh : FitsSigned w128 c.times-hh.result = search rules in
    let fl : FitsSigned w128 c.least_of.result = search rules in
    let fh : FitsSigned w128 c.greatest_of.result = search rules in
    let least : c.least_of.result ≡ int_min (int_min c.times-ll.result c.times-lh.result) (int_min c.times-hl.result c.times-hh.result) = simp to_z-of_z at c.least_of.ensures in
    let greatest : c.greatest_of.result ≡ int_max (int_max c.times-ll.result c.times-lh.result) (int_max c.times-hl.result c.times-hh.result) = simp to_z-of_z at c.greatest_of.ensures in
    let found : c.kept.result ≡ kept (from_to c.least_of.result c.greatest_of.result) = simp to_z-of_z at c.kept.ensures.value in
    product_is c.args.a c.args.b c.times-ll.result c.times-lh.result c.times-hl.result c.times-hh.result c.least_of.result c.greatest_of.result c.kept.result
    ll lh hl hh least greatest found
