use Rattle.std.proofs.Common.{rules, ◌<◌, ◌∙◌, length, get_or}
use Rattle.maneuver_lattice.specs.Moves.{scene_of}
use Rattle.bound_scene.specs.BoundScenes.{graph_at}
use Rattle.rulebook_commands.proofs.Sampled.{one_more_final}
use Rattle.rulebook_commands.proofs.sampling.final_vectors.Goals as goal

pub loop-number-preserved : goal.loop-number-preserved
loop-number-preserved c =
    let g = graph_at (scene_of c.args.graph.now.moves) c.args.graph.now.source.now c.args.graph.now.bound.now in
    let labels = c.args.found.now.labels in
    let finals = c.args.found.now.finals in
    let i = c.loop-number.number-index in
    let inside : i < length finals = search rules in
    let number = get_or finals i 0 in
    let within : number < length labels = c.requires.finals i 0 inside in
    c.in_ok-push.ensures.items ∙ one_more_final g labels finals i number c.index-labels-number.result c.in_ok-finished.field-0 c.loop-number.vectors.items inside (search rules) within (search rules) (search rules)
