use Rattle.std.proofs.Common.{ap, ◌∙◌}
use Rattle.violation_measures.specs.Resolved.{resolved_book}
use Rattle.violation_measures.specs.Scenes.{features_of}
use Rattle.violation_measures.specs.SceneSources.{scene_of as source_scene}
use Rattle.violation_measures.specs.Sources.{Features}
use Rattle.bound_scene.proofs.Binding.{told_bound, binding_stops}
use Rattle.bound_scene.proofs.scenes.test_binding.Goals as goal

pub returns-in-Ok-clause-tests : goal.returns-in-Ok-clause-tests
returns-in-Ok-clause-tests c = told_bound (features_of (source_scene c.args.source.now)) c.args.files.now c.in-Ok.bound c.requires.source c.in-Ok.ensures.book c.in-Ok.ensures.bound

pub returns-in-Ok-clause-book : goal.returns-in-Ok-clause-book
returns-in-Ok-clause-book c = c.in-Ok.ensures.exact ∙ ap (λ (f : Features). resolved_book f.find c.args.files.now.book) c.requires.source

pub returns-in-Err-clause-tests : goal.returns-in-Err-clause-tests
returns-in-Err-clause-tests c = binding_stops (features_of (source_scene c.args.source.now)) c.args.files.now c.as_slice.result.now c.in-Err.fault c.refuse_binding.result c.requires.source c.as_slice.ensures c.in-Err.ensures.fault c.refuse_binding.ensures
