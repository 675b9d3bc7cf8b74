use Rattle.std.proofs.Common.{◌≡◌, ◌∙◌, sym, subst, ◌+◌, length, arith, rules, to_z, FitsSigned}
use Rattle.std.specs.Int.{w128}
use Rattle.std.proofs.lemmas.Int.{to_z-of_z}
use Rattle.lanelet_network.proofs.Nearest.{IsFirstLeast, later_less, later_kept, renamed, is_less, is_no_less, nearest_is}
use Rattle.lanelet_network.proofs.bound.nearest.Goals as goal
use Rattle.lanelet_network.proofs.bound.nearest.Goals.{then-distance-least, else-distance-least}

pub loop-i-preserved : goal.loop-i-preserved
loop-i-preserved c =
    let fits : FitsSigned w128 c.squared_distance-distance.result = search rules in
    let read = to_z-of_z w128 c.squared_distance-distance.result fits in
    elim c.if-distance-least.branch [
      | then-distance-least w ↦
          let less = is_less _ c.squared_distance-distance.result _ read w.if-distance-least.true in
          renamed c.args.p c.args.bound.now (c.loop-i.i + 1) c.loop-i.i _ _ _ (later_less c.args.p c.args.bound.now c.loop-i.i c.loop-i.place _ c.squared_distance-distance.result c.loop-i.invariant c.squared_distance-distance.ensures less) w.place-is (w.least-is ∙ read)
      | else-distance-least w ↦
          let no_less = is_no_less _ c.squared_distance-distance.result _ read w.if-distance-least.false in
          renamed c.args.p c.args.bound.now (c.loop-i.i + 1) c.loop-i.place _ _ _ (later_kept c.args.p c.args.bound.now c.loop-i.i c.loop-i.place _ c.squared_distance-distance.result c.loop-i.invariant c.squared_distance-distance.ensures no_less) w.place-is w.least-is
    ]

pub returns-clause-value : goal.returns-clause-value
returns-clause-value c =
    let end : c.loop-i.i ≡ length c.args.bound.now = omega (arith, c.loop-i-test.false, c.loop-i.auto.i-end c.requires.some) in
    sym (nearest_is c.args.p c.args.bound.now c.loop-i.place (to_z w128 c.loop-i.least-bits) (subst (λ n. IsFirstLeast c.args.p c.args.bound.now n c.loop-i.place (to_z w128 c.loop-i.least-bits)) end c.loop-i.invariant))
