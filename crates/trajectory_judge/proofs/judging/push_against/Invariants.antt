use Rattle.std.proofs.Common.{◌≡◌, ℕ, ◌+◌, ◌-◌, ◌++◌, ◌≤◌, map}
use Rattle.std.specs.Prelude.{All}
use Rattle.std.specs.List.{range_with_len}
use Rattle.rulebook_order.specs.NoWorseBy.{IsVerdictBy}
use Rattle.trajectory_judge.specs.Judgements.{HasVerdict, places}
use Rattle.trajectory_judge.specs.Peeling.{vectors_of}
use Rattle.trajectory_judge.proofs.judging.push_against.Given as goal

abbrev pub invariant-loop-j : goal.invariant-loop-j
invariant-loop-j l =
    (map places l.pairs ≡ map places l.fn.pairs ++ map (λ (k : ℕ). (l.i, k)) (range_with_len (l.i + 1) (l.j - (l.i + 1))))
    × All (HasVerdict (IsVerdictBy l.order) (vectors_of l.runs)) l.pairs
    × (l.i + 1 ≤ l.j)
