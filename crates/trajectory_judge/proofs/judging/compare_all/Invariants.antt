use Rattle.std.proofs.Common.{◌≡◌, ◌-◌, ◌++◌, map, length}
use Rattle.std.specs.Prelude.{All}
use Rattle.std.specs.List.{range_with_len}
use Rattle.rulebook_order.specs.NoWorseBy.{IsVerdictBy}
use Rattle.trajectory_judge.specs.Judgements.{HasVerdict, place_pairs, places}
use Rattle.rulebook_order.specs.Pairs.{later_pairs}
use Rattle.trajectory_judge.specs.Peeling.{vectors_of}
use Rattle.trajectory_judge.proofs.judging.compare_all.Given as goal

abbrev pub invariant-loop-i : goal.invariant-loop-i
invariant-loop-i l =
    (map places l.pairs ++ later_pairs (range_with_len l.i (length l.runs - l.i)) ≡ place_pairs (length l.runs))
    × All (HasVerdict (IsVerdictBy l.order) (vectors_of l.runs)) l.pairs
