use Rattle.std.proofs.Common.{List, ℕ, Bor, map}
use Rattle.maneuver_lattice.specs.Moves.{scene_of}
use Rattle.bound_scene.specs.BoundScenes.{graph_at}
use Rattle.rulebook_commands.specs.Walked.{IsWalk}
use Rattle.rulebook_commands.proofs.Walks.{TellsSoFar}
use Rattle.rulebook_commands.proofs.walking.walk_names.Given as goal

abbrev pub invariant-loop-place : goal.invariant-loop-place
invariant-loop-place l =
    IsWalk (graph_at (scene_of l.graph.moves) l.graph.source.now l.graph.bound.now) l.walked
    × TellsSoFar (scene_of l.graph.moves) (map (λ (name : Bor (List ℕ)). name.now) l.names) l.walked.choices l.walked.state l.place
