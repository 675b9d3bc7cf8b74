use Rattle.std.proofs.Common.{◌≡◌, ℕ, ◌<◌, ◌≤◌, true, false, length}
use Rattle.std.specs.Prelude.{slice_index}
use Rattle.trajectory_judge.specs.Peeling.{AreAlike, layers_of, raised, vectors_of}
use Rattle.trajectory_judge.proofs.layers.raise.Given as goal

abbrev pub invariant-loop-i : goal.invariant-loop-i
invariant-loop-i g l =
    AreAlike l.fn.runs l.runs
    × ((k : ℕ) → k < l.i → slice_index (layers_of l.runs) k ≡ raised (g.O.VectorOrder.no_worse l.order) (vectors_of l.fn.runs) (layers_of l.fn.runs) l.round k)
    × ((k : ℕ) → l.i ≤ k → slice_index (layers_of l.runs) k ≡ slice_index (layers_of l.fn.runs) k)
    × (l.is_raised ≡ false → layers_of l.runs ≡ layers_of l.fn.runs)
    × (l.is_raised ≡ true → (k : ℕ) × (k < length l.fn.runs) × (slice_index (layers_of l.fn.runs) k ≡ l.round))
