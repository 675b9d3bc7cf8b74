-- `judge SCENARIO BOOK LATTICE RECORDS`: how recordings stand to one another by a book.
use Rattle.std.specs.Prelude.{◌≡◌, ℕ, List, [], ◌∷◌, ◌++◌, length, map, slice_index_or, None}
use Rattle.std.specs.Prelude.{Result, Ok, Err, Vec, ⊤}
use Rattle.std.specs.declared.alloc.Global.{Global}
use Rattle.std.specs.List.{flat_map}
use Rattle.outside_io.specs.Outside.{Files}
use Rattle.preorder.specs.declared.row.Row.{Row}
use Rattle.text_lines.specs.Lines.{row_line}
use Rattle.rule_language.specs.declared.book.Rule.{Rule}
use Rattle.rulebook_order.specs.NoWorseUnder.{IsVerdictUnder}
use Rattle.rulebook_order.specs.declared.verdict.Verdict.{Verdict}
use Rattle.trajectory_judge.specs.Judgements.{HaveLayers, measured}
use Rattle.trajectory_judge.specs.Peeling.{names_of, vectors_of}
use Rattle.trajectory_judge.specs.Records.{name_of}
use Rattle.trajectory_judge.specs.declared.judged.Judged.{Judged}
use Rattle.trajectory_judge.specs.declared.records.Records.{Records}
use Rattle.command_outcome.specs.declared.outcome.Role.TheVariants as role
use Rattle.command_outcome.specs.declared.outcome.Status.TheVariants as status
use Rattle.command_outcome.specs.declared.outcome.Stop.{Stop}
use Rattle.command_outcome.specs.declared.outcome.Stop.TheVariants as stop
use Rattle.command_outcome.specs.Ends.{TestStops}
use Rattle.command_outcome.specs.Outcome.{Outcome}
use Rattle.command_outcome.specs.Inputs.{Inputs, given, tested, ◌>>=◌}
use Rattle.command_outcome.specs.Tasks.{Task}
use Rattle.check_command.specs.Answers.{NoWorseFor}
use Rattle.rulebook_commands.specs.Compare.{AreLines, IsPairLine, pair_line}
use Rattle.rulebook_order.specs.Pairs.{later_pairs}
use Rattle.rulebook_commands.specs.RecordInput.{records_input}
use Rattle.bound_scene.specs.SceneInputs.{binding_told, bound, features, maneuver_names}
use Rattle.bound_scene.specs.SceneInputs.{scene_files}
use Rattle.check_command.specs.Answers.{rules_line}
use Rattle.bound_scene.specs.declared.scene_files.SceneFiles.{SceneFiles}

-- ---- the inputs: all four files, then the binding; no start is asked for

abbrev pub with_binding : Records → SceneFiles → Inputs (SceneFiles × Records)
with_binding records files = do
  _ ← tested role.Book (binding_told files)
  given (files, records)

abbrev pub with_records : List ℕ → SceneFiles → Inputs (SceneFiles × Records)
with_records name files = do
  records ← records_input (maneuver_names files.lattice) name
  with_binding records files

abbrev pub judge_inputs : List ℕ → List ℕ → List ℕ → List ℕ → Inputs (SceneFiles × Records)
judge_inputs scenario book lattice records = do
  files ← scene_files scenario book lattice
  with_records records files

-- ---- what is printed

-- `NAME LAYER V1 .. Vn`
abbrev pub judged_line : Judged → List ℕ
judged_line run = row_line run.name (run.layer ∷ run.vector)

abbrev pub nobody : Judged
nobody = record { name = []; layer = 0; vector = [] }

-- a recording as a row of a table
abbrev pub row_of : Judged → Row
row_of run = record { name = run.name; values = run.vector }

abbrev pub row_at : List Judged → ℕ → Row
row_at runs i = row_of (slice_index_or runs i nobody)

-- the line of two recordings, by their places
abbrev pub told_pair : List Rule → List Judged → ℕ × ℕ × Verdict → List ℕ
told_pair rules runs p = pair_line rules (row_at runs p.0, row_at runs p.1) p.2

-- for each recording its vector and its layer, by chains; for each pair the verdict on the two
-- vectors
pub record IsJudgeText (files : SceneFiles) (records : Records) (text : List ℕ) : Type 0 where
  pub runs : List Judged
  pub names : names_of runs ≡ map name_of records.runs
  pub vectors : vectors_of runs ≡ measured (features files) (bound files) records
  pub layers : HaveLayers (NoWorseFor files) runs
  pub told : List ℕ
  pub verdicts : AreLines (IsPairLine (IsVerdictUnder files.book.statements
      (length files.book.rules)) files.book.rules) (later_pairs (map row_of runs)) told
  pub says : text ≡ rules_line files.book.rules ++ (flat_map judged_line runs ++ told)

-- what is made of the inputs: the files stay
pub record JudgeMakes (before : Files) (input : SceneFiles × Records)
    (outcome : Outcome) : Type 0 where
  pub done : outcome.status ≡ status.Done
  pub stays : outcome.files ≡ before
  pub says : IsJudgeText input.0 input.1 outcome.text

abbrev pub judge_task : List ℕ → List ℕ → List ℕ → List ℕ → Task
judge_task scenario book lattice records =
    record {
      Input = SceneFiles × Records;
      inputs = judge_inputs scenario book lattice records;
      Makes = JudgeMakes;
      saves = None;
    }

-- ---- before anything is written

abbrev pub JudgeStops : SceneFiles → Stop → Type 0
JudgeStops files stop.NoMemory = ⊤
JudgeStops files (stop.Ended e text) = TestStops role.Book (binding_told files) (stop.Ended e text)
JudgeStops files (stop.Unread r) = ⊥
JudgeStops files stop.Unsaved = ⊥

abbrev pub Judges : SceneFiles → Records → Result (Vec ℕ Global) Stop → Type 0
Judges files records (Ok text) = (binding_told files ≡ Ok tt) × IsJudgeText files records text.items
Judges files records (Err end) = JudgeStops files end
