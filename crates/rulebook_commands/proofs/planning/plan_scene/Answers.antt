use Rattle.std.proofs.Common.{subst}
use Rattle.label_search.specs.Found.{IfTooMany}
use Rattle.violation_measures.specs.Scenes.{features_of}
use Rattle.violation_measures.specs.SceneSources.{scene_of as source_scene}
use Rattle.maneuver_lattice.specs.Moves.{scene_of}
use Rattle.bound_scene.specs.BoundScenes.{graph_at}
use Rattle.rulebook_commands.proofs.Planned.{many_stops, too_many}
use Rattle.check_command.proofs.Shown.{graph_same}
use Rattle.rulebook_commands.proofs.planning.plan_scene.Goals as goal

pub returns-in-Err-TooManyLabels : goal.returns-in-Err-TooManyLabels
returns-in-Err-TooManyLabels c =
    let files = c.args.scene.now.files in
    let g = c.graph_of-graph.result in
    let is = c.graph_of-graph.ensures in
    let same = graph_same files (scene_of g.moves) (features_of (source_scene g.source.now)) g.bound.now is.scene_is is.features_are is.bound_is in
    let many = subst (IfTooMany _) c.in-Err-TooManyLabels.field-0-is c.in-Err-TooManyLabels.ensures.many in
    many_stops files c.end_as.result (too_many files c.rules_by-rules.result c.rules_by-rules.ensures (graph_at (scene_of g.moves) g.source.now g.bound.now) same many) c.end_as.ensures
