use Rattle.std.proofs.Common.{length, ap, sym, subst, ◌∙◌}
use Rattle.rulebook_order.specs.Answer.{IsAnswerList}
use Rattle.rulebook_order.specs.NoWorseBy.{no_worse_by}
use Rattle.rulebook_order.specs.VectorOrder.{Holds}
use Rattle.label_search.specs.Found.{pairs_of}
use Rattle.violation_measures.specs.Scenes.{features_of}
use Rattle.violation_measures.specs.SceneSources.{scene_of as source_scene}
use Rattle.maneuver_lattice.specs.Moves.{scene_of}
use Rattle.bound_scene.specs.BoundScenes.{graph_at}
use Rattle.rulebook_commands.proofs.Planned.{not_too_many}
use Rattle.rulebook_commands.proofs.Sampled.{are_unbeaten, are_undominated, finals_within, pairs_long, reached, same_text}
use Rattle.check_command.proofs.Shown.{graph_same}
use Rattle.rulebook_commands.proofs.sampling.sample_found.Goals as goal

pub final_vectors-requires-clause-reached : goal.final_vectors-requires-clause-reached
final_vectors-requires-clause-reached c =
    let g = c.args.graph.now in
    reached (graph_at (scene_of g.moves) g.source.now g.bound.now) c.args.found.now.labels (Holds (no_worse_by c.args.rules.now)) c.requires.shown.labels

pub final_vectors-requires-clause-finals : goal.final_vectors-requires-clause-finals
final_vectors-requires-clause-finals c =
    let g = c.args.graph.now in
    finals_within (graph_at (scene_of g.moves) g.source.now g.bound.now) c.args.found.now.labels c.args.found.now.finals c.requires.shown.finals.at_goal

pub returns : goal.returns
returns c =
    let files = c.args.scene.now.files in
    let s = c.requires.scene in
    let g = c.args.graph.now in
    let is = c.requires.graph in
    let same = graph_same files (scene_of g.moves) (features_of (source_scene g.source.now)) g.bound.now is.scene_is is.features_are is.bound_is in
    let order = c.args.rules.now in
    let graph = graph_at (scene_of g.moves) g.source.now g.bound.now in
    let labels = c.args.found.now.labels in
    let sorted = c.in_ok-vectors.vectors.items in
    let vectors = c.in_ok-final_vectors.field-0.items in
    let are = c.in_ok-final_vectors.ensures in
    record {
      few = not_too_many files order c.requires.order graph same c.requires.few;
      pairs = pairs_of labels;
      undominated = are_undominated files s.bound_to s.files.lattice order c.requires.order graph same (pairs_of labels) c.requires.shown.labels;
      vectors = sorted;
      unbeaten = are_unbeaten files s.bound_to s.files.lattice order c.requires.order graph same vectors sorted (subst (IsAnswerList graph (Holds (no_worse_by order))) (sym are) c.requires.shown.finals.answer) c.in_ok-vectors.ensures.same c.in_ok-vectors.ensures.sorted;
      says = c.in_ok-text.ensures ∙ same_text c.args.number _ _ _ _ _ _ (ap length c.as_slice.ensures) (ap length c.as_slice-2.ensures ∙ pairs_long graph labels) c.as_slice-3.ensures.value;
    }
