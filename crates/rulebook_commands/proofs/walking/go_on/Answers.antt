use Rattle.maneuver_lattice.specs.Moves.{scene_of}
use Rattle.bound_scene.specs.BoundScenes.{graph_at}
use Rattle.rulebook_commands.proofs.Walks.{walk_on}
use Rattle.rulebook_commands.proofs.walking.go_on.Goals as goal

pub returns-clause-reaches : goal.returns-clause-reaches
returns-clause-reaches c =
    let w = c.args.walked in
    record { reaches = walk_on (graph_at (scene_of c.args.graph.now.moves) c.args.graph.now.source.now c.args.graph.now.bound.now) w.choices c.push.new.self w.state w.vector c.args.choice (c.in_ok-state.state, c.in_ok-state.vector) c.requires.reaches.reaches c.requires.choice c.in_ok-state.ensures c.in_ok-push.ensures.ok }
