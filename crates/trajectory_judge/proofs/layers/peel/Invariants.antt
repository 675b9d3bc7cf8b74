use Rattle.std.proofs.Common.{◌+◌, ◌≤◌, length}
use Rattle.trajectory_judge.specs.Peeling.{AreAlike, layers_of, vectors_of}
use Rattle.trajectory_judge.proofs.Rounds.{IsPeeled, left_count}
use Rattle.trajectory_judge.proofs.layers.peel.Given as goal

abbrev pub invariant-loop-round : goal.invariant-loop-round
invariant-loop-round g l =
    IsPeeled (g.O.VectorOrder.no_worse l.order) (vectors_of l.runs) l.round (layers_of l.runs)
    × AreAlike l.fn.runs l.runs
    × (l.round + left_count (length (vectors_of l.runs)) l.round (layers_of l.runs) ≤ length (vectors_of l.runs))

abbrev pub decreases-loop-round : goal.decreases-loop-round
decreases-loop-round g l = left_count (length (vectors_of l.runs)) l.round (layers_of l.runs)
