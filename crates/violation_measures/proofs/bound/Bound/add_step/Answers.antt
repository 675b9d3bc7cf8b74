use Rattle.std.proofs.Common.{rules, arith, ◌≡◌, ◌<◌, ◌≤◌, ℕ, List, length, sym, subst}
use Rattle.std.specs.Prelude.{All}
use Rattle.rule_language.specs.declared.limits.TheConstants.{MAX_PARTS, MAX_WEIGHT}
use Rattle.violation_measures.specs.Measured.{measured_at, IsMeasured}
use Rattle.violation_measures.specs.Resolved.{step_amount}
use Rattle.violation_measures.specs.Sources.{IsKnown, at_step}
use Rattle.violation_measures.specs.Vectors.{step_vector}
use Rattle.violation_measures.specs.declared.bound.BoundPart.{BoundPart}
use Rattle.violation_measures.specs.declared.amount.TheConstants.{MAX_AMOUNT}
use Rattle.violation_measures.specs.declared.used.TheConstants.{MAX_MEASURED}
use Rattle.violation_measures.proofs.Added.{same_length, all_added, room_at}
use Rattle.violation_measures.proofs.AmountLaws.{IsFew, each_few, within_vector, past_vector, steps_measurable, step_vector_is}
use Rattle.violation_measures.proofs.VectorLaws.{step_up_to, rule_added, at_rule}
use Rattle.violation_measures.proofs.bound.Bound.add_step.Goals as goal

pub measure-values-requires-clause-known : goal.measure-values-requires-clause-known
measure-values-requires-clause-known g c =
    let f = g.S.FeatureSource.features c.args.source.now in
    subst (λ (used : List ℕ). All (IsKnown f) used) (sym c.as_slice.ensures) (steps_measurable f c.args.self.now c.requires.source).known

pub measure-values-requires-clause-few : goal.measure-values-requires-clause-few
measure-values-requires-clause-few g c =
    let f = g.S.FeatureSource.features c.args.source.now in
    subst (λ (used : List ℕ). length used ≤ MAX_MEASURED) (sym c.as_slice.ensures) (steps_measurable f c.args.self.now c.requires.source).few

pub rule_value-requires-clause-few : goal.rule_value-requires-clause-few
rule_value-requires-clause-few g c =
    let f = g.S.FeatureSource.features c.args.source.now in
    let within : c.loop-i.i < length c.as_slice-rules.result.now = search rules in
    let rule = at_rule IsFew c.args.self.now.rules c.as_slice-rules.result.now c.index-rules-i.result c.loop-i.i c.as_slice-rules.ensures within c.index-rules-i.is (each_few f c.args.self.now c.requires.source) in
    subst (λ (parts : List BoundPart). length parts ≤ MAX_PARTS) (sym c.as_slice-parts.ensures) (subst IsFew c.index-rules-i.is rule).few

pub rule_value-requires-clause-weights : goal.rule_value-requires-clause-weights
rule_value-requires-clause-weights g c =
    let f = g.S.FeatureSource.features c.args.source.now in
    let within : c.loop-i.i < length c.as_slice-rules.result.now = search rules in
    let rule = at_rule IsFew c.args.self.now.rules c.as_slice-rules.result.now c.index-rules-i.result c.loop-i.i c.as_slice-rules.ensures within c.index-rules-i.is (each_few f c.args.self.now c.requires.source) in
    subst (λ (parts : List BoundPart). All (λ (part : BoundPart). part.weight ≤ MAX_WEIGHT) parts) (sym c.as_slice-parts.ensures) (subst IsFew c.index-rules-i.is rule).weights

pub add_at-requires-clause-in_range : goal.add_at-requires-clause-in_range
add_at-requires-clause-in_range g c =
    let f = g.S.FeatureSource.features c.args.source.now in
    let amounts = step_vector f c.args.self.now c.args.step.now in
    let within : c.loop-i.i < length c.as_slice-rules.result.now = search rules in
    let inside = within_vector f c.args.self.now c.as_slice-rules.result.now c.args.out.now c.loop-i.i c.requires.source c.as_slice-rules.ensures c.requires.width within in
    omega (arith, inside, same_length c.loop-i.out c.args.out.now amounts c.loop-i.i c.loop-i.invariant)

pub add_at-requires-clause-fits : goal.add_at-requires-clause-fits
add_at-requires-clause-fits g c =
    let f = g.S.FeatureSource.features c.args.source.now in
    let amounts = step_vector f c.args.self.now c.args.step.now in
    let within : c.loop-i.i < length c.as_slice-rules.result.now = search rules in
    let inside = within_vector f c.args.self.now c.as_slice-rules.result.now c.args.out.now c.loop-i.i c.requires.source c.as_slice-rules.ensures c.requires.width within in
    room_at c.loop-i.out c.args.out.now amounts c.loop-i.i MAX_AMOUNT c.rule_value.result c.requires.room c.loop-i.invariant inside c.rule_value.ensures.small

pub loop-i-preserved : goal.loop-i-preserved
loop-i-preserved g c =
    let f = g.S.FeatureSource.features c.args.source.now in
    let amounts = step_vector f c.args.self.now c.args.step.now in
    let values = c.measure-values.result in
    let within : c.loop-i.i < length c.as_slice-rules.result.now = search rules in
    let inside = within_vector f c.args.self.now c.as_slice-rules.result.now c.args.out.now c.loop-i.i c.requires.source c.as_slice-rules.ensures c.requires.width within in
    let there = within_vector f c.args.self.now c.as_slice-rules.result.now amounts c.loop-i.i c.requires.source c.as_slice-rules.ensures (step_up_to f c.args.self.now c.args.step.now c.requires.source).width within in
    let measured : IsMeasured f c.args.step.now c.args.self.now.at_steps values = subst (λ (used : List ℕ). IsMeasured f c.args.step.now used values) c.as_slice.ensures c.measure-values.ensures in
    let vector = step_vector_is f c.args.self.now c.args.step.now values (g.met.S.FeatureSource.sound c.args.source.now) c.requires.source c.requires.step measured in
    rule_added (λ parts. step_amount (measured_at values) (at_step f c.args.step.now) parts) c.args.self.now.rules c.as_slice-rules.result.now c.index-rules-i.result c.as_slice-parts.result.now amounts c.args.out.now c.loop-i.out _ c.loop-i.i c.rule_value.result
    c.as_slice-rules.ensures within c.index-rules-i.is c.as_slice-parts.ensures c.rule_value.ensures.exact vector c.loop-i.invariant inside there c.add_at.ensures

pub returns : goal.returns
returns g c =
    let f = g.S.FeatureSource.features c.args.source.now in
    let amounts = step_vector f c.args.self.now c.args.step.now in
    let far : length c.as_slice-rules.result.now ≤ c.loop-i.i = search rules in
    let same : length c.args.out.now ≡ length amounts = omega (arith, c.requires.width, (step_up_to f c.args.self.now c.args.step.now c.requires.source).width) in
    let past = past_vector f c.args.self.now c.as_slice-rules.result.now c.args.out.now c.loop-i.i c.requires.source c.as_slice-rules.ensures c.requires.width far in
    all_added c.loop-i.out c.args.out.now amounts c.loop-i.i c.loop-i.invariant same past
