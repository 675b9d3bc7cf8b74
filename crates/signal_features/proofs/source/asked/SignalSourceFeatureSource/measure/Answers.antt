use Rattle.std.proofs.Common.{◌≡◌, ◌∙◌, ◌≤◌, ◌<◌, rules, length, sym, ap, cond, arith, FitsSigned, w64, to_z, of_z, to_z-of_z}
use Rattle.std.specs.Prelude.{nat_lt, slice_index_or}
use Rattle.std.proofs.lemmas.List.{length-set}
use Rattle.violation_measures.proofs.Filling.{one_more}
use Rattle.violation_measures.specs.Measured.{measured_at}
use Rattle.violation_measures.specs.declared.used.TheConstants.{MAX_MEASURED}
use Rattle.signal_features.proofs.Measures.{all_of_scene, all_asked, value_there}
use Rattle.signal_features.specs.Features.{features_of, signal_value, signal_numbered}
use Rattle.signal_features.specs.declared.feature.TheConstants.{FIRST_NUMBER}
use Rattle.signal_features.specs.Sources.{signalled_of}
use Rattle.signal_features.proofs.source.asked.SignalSourceFeatureSource.measure.Goals as goal

pub measure-requires-clause-known : goal.measure-requires-clause-known
measure-requires-clause-known c =
    all_of_scene (signalled_of c.args.self.now) c.args.self.now.signalled.few_lights c.args.used.now c.requires.known (sym c.are_of_scene.ensures ∙ c.if-are_of_scene.true)

pub measure-measured-requires-clause-known : goal.measure-measured-requires-clause-known
measure-measured-requires-clause-known c =
    all_asked (signalled_of c.args.self.now) c.args.self.now.signalled.few_lights c.args.used.now c.scene_numbers-asked.result c.requires.known c.scene_numbers-asked.ensures.asked

pub loop-place-preserved : goal.loop-place-preserved
loop-place-preserved c =
    let self = c.args.self.now in
    let used = c.args.used.now in
    let place = c.loop-place.place in
    let values = c.loop-place.values in
    let room : length used ≤ length c.scene_numbers-asked.result = omega (arith, c.requires.few) in
    let fits : FitsSigned w64 c.value_by.result = search rules in
    let fits_there : FitsSigned w64 (measured_at c.measure-measured.result place) = search rules in
    let within : place < length values = omega (arith, c.loop-place-test.true, c.requires.few, c.loop-place.invariant.0) in
    let there = value_there (signalled_of self) c.args.step.now used c.scene_numbers-asked.result c.measure-measured.result c.scene_numbers-asked.ensures.asked c.measure-measured.ensures place c.loop-place-test.true room in
    let moved : cond (nat_lt (slice_index_or used place 0) FIRST_NUMBER) (to_z w64 (of_z w64 (measured_at c.measure-measured.result place))) (signal_value self.scene.network.now self.signals.now (signal_numbered (slice_index_or used place 0)) c.args.step.now)
    ≡ (features_of (signalled_of self)).value (slice_index_or used place 0) c.args.step.now = simp to_z-of_z there in
    let lanes : self.scene.network.now ≡ self.network.now = self.same in
    let by : c.value_by.result ≡ (features_of (signalled_of self)).value (slice_index_or used place 0) c.args.step.now =
    c.value_by.ensures ∙ ap (λ l. cond (nat_lt (slice_index_or used place 0) FIRST_NUMBER) (to_z w64 (of_z w64 (measured_at c.measure-measured.result place))) (signal_value l self.signals.now (signal_numbered (slice_index_or used place 0)) c.args.step.now)) (sym lanes) ∙ moved in
    simp to_z-of_z (length-set values place c.value_by.result ∙ c.loop-place.invariant.0, one_more (λ n. (features_of (signalled_of self)).value n c.args.step.now) used values place c.value_by.result within c.loop-place.invariant.1 by)
