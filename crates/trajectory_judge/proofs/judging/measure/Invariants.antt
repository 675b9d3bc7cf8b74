use Rattle.std.proofs.Common.{◌≡◌, map, take}
use Rattle.std.specs.Prelude.{All}
use Rattle.violation_measures.specs.Vectors.{trajectory_vector}
use Rattle.trajectory_judge.specs.Peeling.{names_of, vectors_of}
use Rattle.trajectory_judge.specs.Records.{name_of}
use Rattle.trajectory_judge.specs.declared.judged.Judged.{Judged}
use Rattle.trajectory_judge.specs.declared.records.Recording.{Recording}
use Rattle.trajectory_judge.proofs.judging.measure.Given as goal

abbrev pub invariant-loop-run : goal.invariant-loop-run
invariant-loop-run g l =
    (names_of l.runs ≡ map name_of (take l.run-index l.records.runs))
    × (vectors_of l.runs ≡ map (λ (run : Recording). trajectory_vector (g.S.FeatureSource.features l.source) l.bound run.steps) (take l.run-index l.records.runs))
    × All (λ (run : Judged). run.layer ≡ 0) l.runs
