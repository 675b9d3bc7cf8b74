use Rattle.std.proofs.Common.{rules, ◌<◌, ◌≤◌, length}
use Rattle.violation_measures.specs.Binding.{RuleMayBind}
use Rattle.violation_measures.proofs.FirstFault.{all_next, all_end}
use Rattle.violation_measures.proofs.bound.binding.test_rules.Goals as goal

pub loop-number-preserved : goal.loop-number-preserved
loop-number-preserved g c =
    let f = g.S.FeatureSource.features c.args.source.now in
    let within : c.loop-number.number < length c.args.rules.now = search rules in
    all_next (RuleMayBind f) c.args.rules.now c.loop-number.number c.index-rules-number.result within c.index-rules-number.is c.loop-number.invariant c.in_ok-test_rule.ensures.ok

pub returns-clause-ok : goal.returns-clause-ok
returns-clause-ok g c =
    let f = g.S.FeatureSource.features c.args.source.now in
    let far : length c.args.rules.now ≤ c.loop-number.number = search rules in
    all_end (RuleMayBind f) c.args.rules.now c.loop-number.number far c.loop-number.invariant
