-- How recordings are judged: each one's vector and layer, and how each stands to each later one.
-- This project's own.
use Rattle.std.specs.Prelude.{◌≡◌, ℕ, ◌<◌, ◌++◌, List, [], ◌∷◌, length, map, slice_index}
use Rattle.std.specs.List.{range_with_len}
use Rattle.rulebook_order.specs.Pairs.{later_pairs}
use Rattle.rulebook_order.specs.Front.{vector_at}
use Rattle.rulebook_order.specs.declared.verdict.Verdict.{Verdict}
use Rattle.violation_measures.specs.Sources.{Features}
use Rattle.violation_measures.specs.Vectors.{trajectory_vector}
use Rattle.violation_measures.specs.declared.bound.Bound.{Bound}
use Rattle.trajectory_judge.specs.Layers.{IsLayerOf}
use Rattle.trajectory_judge.specs.Peeling.{layers_of, vectors_of}
use Rattle.trajectory_judge.specs.Records.{AreRecords, IsRecording}
use Rattle.trajectory_judge.specs.declared.judged.Judged.{Judged}
use Rattle.trajectory_judge.specs.declared.records.Recording.{Recording}
use Rattle.trajectory_judge.specs.declared.records.Records.{Records}

-- well-formed recordings, of any number of maneuvers
abbrev pub AreAnyRecords : Records → Type 0
AreAnyRecords records = (maneuvers : ℕ) × AreRecords maneuvers records

abbrev pub IsAnyRecording : Recording → Type 0
IsAnyRecording run = (maneuvers : ℕ) × IsRecording maneuvers run

-- the recording was measured, and has no layer yet
pub record IsMeasured (f : Features) (bound : Bound) (run : Recording)
    (judged : Judged) : Type 0 where
  pub name : judged.name ≡ run.name
  pub vector : judged.vector ≡ trajectory_vector f bound run.steps
  pub layer : judged.layer ≡ 0

-- the vector of each recording
abbrev pub measured : Features → Bound → Records → List (List ℕ)
measured f bound records =
    map (λ (run : Recording). trajectory_vector f bound run.steps) records.runs

-- each has its layer among all
abbrev pub HaveLayers : (List ℕ → List ℕ → Type 0) → List Judged → Type 0
HaveLayers IsNoWorse runs =
    (i : ℕ) → i < length runs → IsLayerOf IsNoWorse (vectors_of runs) i
    (slice_index (layers_of runs) i)

-- two places, and a verdict
abbrev pub places : ℕ × ℕ × Verdict → ℕ × ℕ
places p = (p.0, p.1)

-- of so many places, each with each later one
abbrev pub place_pairs : ℕ → List (ℕ × ℕ)
place_pairs n = later_pairs (range_with_len 0 n)

-- the verdict is one on the vectors at the two places
abbrev pub HasVerdict : (List ℕ → List ℕ → Verdict → Type 0) → List (List ℕ) → ℕ × ℕ × Verdict
    → Type 0
HasVerdict IsVerdictOn vectors p = IsVerdictOn (vector_at vectors p.0) (vector_at vectors p.1) p.2
