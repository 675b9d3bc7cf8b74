use Rattle.violation_measures.specs.Measured.{measured_at}
use Rattle.violation_measures.specs.Sources.{at_step}
use Rattle.violation_measures.proofs.Choices.{choice_is}
use Rattle.violation_measures.proofs.value.+value_of.Goals as goal

pub returns-in-If-clause-exact : goal.returns-in-If-clause-exact
returns-in-If-clause-exact g t c =
    let v = at_step (g.S.FeatureSource.features c.args.source.now) c.args.step.now in
    choice_is (measured_at c.args.values.now) v c.args.formula.now c.in-If.a c.in-If.b c.in-If.c c.chosen.result c.value_of-in-If.result c.value_of-in-If-2.result c.value_of-in-If-3.result c.in-If.is c.chosen.ensures.exact
    (rw c.get-in-If.ensures at c.value_of-in-If.ensures.exact) (rw c.get-in-If-2.ensures at c.value_of-in-If-2.ensures.exact) (rw c.get-in-If-3.ensures at c.value_of-in-If-3.ensures.exact)
