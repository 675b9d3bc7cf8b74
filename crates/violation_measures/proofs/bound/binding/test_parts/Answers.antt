use Rattle.std.proofs.Common.{rules, ◌<◌, ◌≤◌, length}
use Rattle.violation_measures.specs.Binding.{MayBind}
use Rattle.violation_measures.proofs.FirstFault.{all_next, all_end}
use Rattle.violation_measures.proofs.bound.binding.test_parts.Goals as goal

pub loop-part-preserved : goal.loop-part-preserved
loop-part-preserved g c =
    let f = g.S.FeatureSource.features c.args.source.now in
    let within : c.loop-part.part-index < length c.args.parts.now = search rules in
    all_next (MayBind f) c.args.parts.now c.loop-part.part-index c.part-item.result within c.part-item.is c.loop-part.invariant c.in_ok-test_part.ensures.ok

pub returns-clause-ok : goal.returns-clause-ok
returns-clause-ok g c =
    let f = g.S.FeatureSource.features c.args.source.now in
    let far : length c.args.parts.now ≤ c.loop-part.part-index = search rules in
    all_end (MayBind f) c.args.parts.now c.loop-part.part-index far c.loop-part.invariant
