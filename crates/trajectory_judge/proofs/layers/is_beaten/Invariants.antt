use Rattle.std.proofs.Common.{◌≡◌, ℕ, ◌<◌, false}
use Rattle.std.specs.Prelude.{◌&&◌, nat_le, slice_index}
use Rattle.trajectory_judge.specs.Layers.{beats_at}
use Rattle.trajectory_judge.specs.Peeling.{layers_of, vectors_of}
use Rattle.trajectory_judge.proofs.layers.is_beaten.Given as goal

abbrev pub invariant-loop-other : goal.invariant-loop-other
invariant-loop-other g l =
    (k : ℕ) → k < l.other-index → (nat_le l.round (slice_index (layers_of l.runs) k) && beats_at (g.O.VectorOrder.no_worse l.order) (vectors_of l.runs) k l.i) ≡ false
