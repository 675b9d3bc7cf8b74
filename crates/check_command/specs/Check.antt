-- `check SCENARIO BOOK LATTICE CERT`: what a certificate shows, whoever made it, or the first
-- condition that it fails.
use Rattle.std.specs.Prelude.{◌≡◌, ◌⊎◌, ℕ, List, ◌++◌, None, Result, Ok, Err, Vec, ⊤, codes}
use Rattle.std.specs.declared.alloc.Global.{Global}
use Rattle.std.specs.Fmt.{decimal}
use Rattle.outside_io.specs.Outside.{Files}
use Rattle.certificate_text.specs.declared.certificate.Certificate.{Certificate}
use Rattle.certificate_checker.specs.Failing.{Fails}
use Rattle.certificate_checker.specs.declared.checked.Attained.{Attained}
use Rattle.certificate_checker.specs.declared.checked.Rejection.{Rejection}
use Rattle.certificate_checker.specs.declared.checked.Rejection.TheVariants as rejection
use Rattle.command_outcome.specs.declared.outcome.Ending.TheVariants as ending
use Rattle.command_outcome.specs.declared.outcome.Stop.{Stop}
use Rattle.command_outcome.specs.declared.outcome.Stop.TheVariants as stop
use Rattle.command_outcome.specs.declared.outcome.Status.TheVariants as status
use Rattle.command_outcome.specs.Outcome.{EndsAs, Outcome}
use Rattle.command_outcome.specs.Inputs.{Inputs, given, ◌>>=◌}
use Rattle.command_outcome.specs.Tasks.{Task}
use Rattle.check_command.specs.Answers.{NoWorseFor, answer_text, graph_of}
use Rattle.check_command.specs.Certificates.{IsShownText, Shows, certificate_input}
use Rattle.bound_scene.specs.SceneInputs.{scene_files, bound_scene}
use Rattle.bound_scene.specs.declared.scene_files.SceneFiles.{SceneFiles}

-- ---- the inputs: all four files, then the binding and the start

abbrev pub with_bound : Certificate → SceneFiles → Inputs (SceneFiles × Certificate)
with_bound certificate files = do
  bound ← bound_scene files
  given (bound, certificate)

abbrev pub with_certificate : List ℕ → SceneFiles → Inputs (SceneFiles × Certificate)
with_certificate name files = do
  certificate ← certificate_input name
  with_bound certificate files

abbrev pub check_inputs : List ℕ → List ℕ → List ℕ → List ℕ → Inputs (SceneFiles × Certificate)
check_inputs scenario book lattice certificate = do
  files ← scene_files scenario book lattice
  with_certificate certificate files

-- ---- what is due

abbrev pub accepted_text : SceneFiles → List Attained → List ℕ
accepted_text files answers = codes "accepted\n" ++ answer_text files answers

-- `rejected CONDITION LABEL`
abbrev pub rejected_text : ℕ → ℕ → List ℕ
rejected_text number label =
    codes "rejected " ++ (decimal number ++ (codes " " ++ (decimal label ++ codes "\n")))

-- the certificate is accepted, and what is printed is the answer
pub record IsAccepted (before : Files) (files : SceneFiles) (certificate : Certificate)
    (outcome : Outcome) : Type 0 where
  pub answers : List Attained
  pub shows : Shows files certificate answers
  pub is : outcome ≡ record {
    status = status.Done;
    text = accepted_text files answers;
    files = before;
  }

-- a condition fails, and the first that does is named with its first label
pub record IsRejected (before : Files) (files : SceneFiles) (certificate : Certificate)
    (outcome : Outcome) : Type 0 where
  pub number : ℕ
  pub label : ℕ
  pub fails : Fails (graph_of files) (NoWorseFor files) certificate number label
  pub is : outcome ≡ record {
    status = status.Rejected;
    text = rejected_text number label;
    files = before;
  }

abbrev pub CheckMakes : Files → SceneFiles × Certificate → Outcome → Type 0
CheckMakes before input outcome =
    IsAccepted before input.0 input.1 outcome ⊎ IsRejected before input.0 input.1 outcome

-- what a check makes of a scene and a certificate, before anything is written: a text, a rejection,
-- or want of memory
abbrev pub Rejects : Rejection → Stop → Type 0
Rejects (rejection.Condition number label) end =
    EndsAs ending.Rejected (rejected_text number label) end
Rejects rejection.NoMemory end = end ≡ stop.NoMemory

abbrev pub CheckStops : SceneFiles → Certificate → Stop → Type 0
CheckStops files certificate stop.NoMemory = ⊤
CheckStops files certificate (stop.Ended e text) =
    (number : ℕ) × (label : ℕ) × Fails (graph_of files) (NoWorseFor files) certificate number label
    × EndsAs ending.Rejected (rejected_text number label) (stop.Ended e text)
CheckStops files certificate (stop.Unread role) = ⊥
CheckStops files certificate stop.Unsaved = ⊥

abbrev pub Checks : SceneFiles → Certificate → Result (Vec ℕ Global) Stop → Type 0
Checks files certificate (Ok text) = IsShownText (codes "accepted\n") files certificate text.items
Checks files certificate (Err end) = CheckStops files certificate end

abbrev pub check_task : List ℕ → List ℕ → List ℕ → List ℕ → Task
check_task scenario book lattice certificate =
    record {
      Input = SceneFiles × Certificate;
      inputs = check_inputs scenario book lattice certificate;
      Makes = CheckMakes;
      saves = None;
    }
