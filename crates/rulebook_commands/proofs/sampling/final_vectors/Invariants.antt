use Rattle.std.proofs.Common.{◌≡◌, take}
use Rattle.rulebook_order.specs.Certified.{finished_vectors}
use Rattle.label_search.specs.Found.{pairs_of}
use Rattle.maneuver_lattice.specs.Moves.{scene_of}
use Rattle.bound_scene.specs.BoundScenes.{graph_at}
use Rattle.rulebook_commands.proofs.sampling.final_vectors.Given as goal

abbrev pub invariant-loop-number : goal.invariant-loop-number
invariant-loop-number l = l.vectors.items ≡ finished_vectors (graph_at (scene_of l.graph.moves) l.graph.source.now l.graph.bound.now) (pairs_of l.found.labels) (take l.number-index l.found.finals)
