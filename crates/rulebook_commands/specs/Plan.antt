-- `plan SCENARIO BOOK LATTICE CERT`: the answer over a scene, and a certificate that shows it.
use Rattle.std.specs.Prelude.{◌≡◌, ◌⊎◌, ℕ, ◌≤◌, List, length, Some, codes}
use Rattle.std.specs.FinMap.{insert}
use Rattle.outside_io.specs.Outside.{Files}
use Rattle.outside_io.specs.declared.TheConstants.{MAX_FILE}
use Rattle.rulebook_order.specs.Answer.{AreUndominated, HasMoreUndominated}
use Rattle.certificate_text.specs.Text.{HasText, text}
use Rattle.certificate_text.specs.declared.TheConstants.{MAX_LABELS}
use Rattle.certificate_text.specs.declared.certificate.Certificate.{Certificate}
use Rattle.certificate_checker.specs.GoodCertificate.{pairs_of}
use Rattle.certificate_checker.specs.declared.checked.Attained.{Attained}
use Rattle.command_outcome.specs.declared.outcome.Status.TheVariants as status
use Rattle.command_outcome.specs.Outcome.{Outcome}
use Rattle.command_outcome.specs.Inputs.{Inputs, ◌>>=◌}
use Rattle.command_outcome.specs.Tasks.{Task}
use Rattle.check_command.specs.Answers.{NoWorseFor, answer_text, graph_of}
use Rattle.check_command.specs.Certificates.{Shows}
use Rattle.bound_scene.specs.SceneInputs.{scene_files, bound_scene}
use Rattle.bound_scene.specs.declared.scene_files.SceneFiles.{SceneFiles}

abbrev pub plan_inputs : List ℕ → List ℕ → List ℕ → Inputs SceneFiles
plan_inputs scenario book lattice = do
  files ← scene_files scenario book lattice
  bound_scene files

-- there are more undominated pairs of a state and a running vector than a certificate may have
-- labels
abbrev pub HasTooMany : SceneFiles → Type 0
HasTooMany files = HasMoreUndominated (graph_of files) (NoWorseFor files) MAX_LABELS

-- the labels of the certificate have exactly the undominated pairs, each once
abbrev pub HasUndominated : SceneFiles → Certificate → Type 0
HasUndominated files certificate =
    AreUndominated (graph_of files) (NoWorseFor files)
    (pairs_of (graph_of files) certificate.labels)

-- a text says the answer, with the trajectories of a certificate that shows it; bytes are the
-- certificate's text, and fit a file
pub record IsPlan (files : SceneFiles) (printed saved : List ℕ) : Type 0 where
  pub few : ¬ HasTooMany files
  pub certificate : Certificate
  pub undominated : HasUndominated files certificate
  pub has_text : HasText certificate
  pub answers : List Attained
  pub shows : Shows files certificate answers
  pub says : printed ≡ answer_text files answers
  pub saves : saved ≡ text certificate
  pub fits : length saved ≤ MAX_FILE

-- what is printed says the answer, and under the name a certificate is saved that shows it
pub record IsPlanned (name : List ℕ) (before : Files) (files : SceneFiles)
    (outcome : Outcome) : Type 0 where
  pub bytes : List ℕ
  pub plans : IsPlan files outcome.text bytes
  pub done : outcome.status ≡ status.Done
  pub saves : outcome.files ≡ insert before name bytes

-- there are too many, and nothing is saved
pub record IsTooMuch (before : Files) (files : SceneFiles) (outcome : Outcome) : Type 0 where
  pub many : HasTooMany files
  pub is : outcome ≡ record {
    status = status.TooManyLabels;
    text = codes "too many labels\n";
    files = before;
  }

abbrev pub PlanMakes : List ℕ → Files → SceneFiles → Outcome → Type 0
PlanMakes name before files outcome =
    IsPlanned name before files outcome ⊎ IsTooMuch before files outcome

abbrev pub plan_task : List ℕ → List ℕ → List ℕ → List ℕ → Task
plan_task scenario book lattice certificate =
    record {
      Input = SceneFiles;
      inputs = plan_inputs scenario book lattice;
      Makes = PlanMakes certificate;
      saves = Some certificate;
    }
