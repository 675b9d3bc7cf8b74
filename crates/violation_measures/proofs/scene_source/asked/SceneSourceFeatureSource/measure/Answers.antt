use Rattle.std.proofs.Common.{rules, ◌∙◌, ◌<◌, ◌≤◌, length, arith, FitsSigned, w64, to_z-of_z}
use Rattle.std.proofs.lemmas.List.{length-set}
use Rattle.violation_measures.specs.Scenes.{numbered, value_in}
use Rattle.violation_measures.specs.SceneSources.{scene_of}
use Rattle.violation_measures.specs.declared.used.TheConstants.{MAX_MEASURED}
use Rattle.violation_measures.proofs.Filling.{one_more}
use Rattle.violation_measures.proofs.scene_source.asked.SceneSourceFeatureSource.measure.Goals as goal

pub loop-place-preserved : goal.loop-place-preserved
loop-place-preserved c =
    let fits : FitsSigned w64 c.measured.result = search rules in
    let values = c.loop-place.values in
    let place = c.loop-place.place in
    let below : place < length c.args.used.now = omega (arith, c.loop-place-test.true, c.loop-place.auto.place-end) in
    let few : length c.args.used.now ≤ MAX_MEASURED = c.requires.few in
    let within : place < length values = omega (arith, below, few, c.loop-place.invariant.0) in
    simp to_z-of_z (length-set values place c.measured.result ∙ c.loop-place.invariant.0, one_more (λ n. value_in (scene_of c.args.self.now) (numbered n) c.args.step.now) c.args.used.now values place c.measured.result within c.loop-place.invariant.1 c.measured.ensures)
