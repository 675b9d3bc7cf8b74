use Rattle.std.proofs.Common.{◌≡◌, ◌++◌, drop}
use Rattle.maneuver_lattice.specs.Moves.{scene_of}
use Rattle.maneuver_lattice.specs.Scenes.{IsReached, start}
use Rattle.check_command.specs.Answers.{maneuver_words}
use Rattle.check_command.specs.Driven.{MayBeDriven}
use Rattle.check_command.proofs.answers.push_maneuvers.Given as goal

abbrev pub invariant-loop-place : goal.invariant-loop-place
invariant-loop-place l =
    IsReached (scene_of l.graph.moves) l.state
    × MayBeDriven (scene_of l.graph.moves) l.state (drop l.place l.list)
    × (l.out.items ++ maneuver_words (scene_of l.graph.moves) l.state (drop l.place l.list) ≡ l.initial.out.items ++ maneuver_words (scene_of l.graph.moves) (start (scene_of l.graph.moves)) l.list)
