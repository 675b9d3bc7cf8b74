-- What a `plan` and a `check` that are done print and leave: the answer over the scene of their
-- files.
use Rattle.std.specs.Prelude.{◌≡◌, ℕ, List, [], Option, Some, Ok, IfSome}
use Rattle.std.specs.FinMap.{get}
use Rattle.outside_io.specs.Outside.{Files}
use Rattle.certificate_text.specs.Text.{HasText, text}
use Rattle.certificate_text.specs.declared.certificate.Certificate.{Certificate}
use Rattle.certificate_checker.specs.GoodCertificate.{IsGood}
use Rattle.command_outcome.specs.Inputs.{gives}
use Rattle.check_command.specs.Answers.{NoWorseFor, graph_of}
use Rattle.check_command.specs.Headline.{AcceptsTheAnswer, IsAnswerWritten}
use Rattle.rulebook_commands.specs.Plan.{HasUndominated, plan_inputs}
use Rattle.rulebook_cli.specs.Words.{plan, check, reading}
use Rattle.bound_scene.specs.declared.scene_files.SceneFiles.{SceneFiles}

-- the name holds the text of a certificate that shows the answer: it meets the conditions, its
-- labels have exactly the undominated pairs, each once, and it keeps to the limits of a text
pub record HoldsGoodCertificate (name : List ℕ) (scene : SceneFiles)
    (after : Option Files) : Type 0 where
  pub certificate : Certificate
  pub good : IsGood (graph_of scene) (NoWorseFor scene) certificate
  pub undominated : HasUndominated scene certificate
  pub within : HasText certificate
  pub holds : IfSome after (λ files. get files name ≡ Some (text certificate))

-- words that are `plan SCENARIO BOOK LATTICE CERT`: the three files have readings that are accepted
-- together, the answer over their scene was written, and CERT holds a certificate that shows it
abbrev pub PlanPrintsTheAnswer : List (List ℕ) → Option Files → Option Files → (List ℕ → Type 0)
    → Type 0
PlanPrintsTheAnswer words held after Written =
    (scenario book lattice name : List ℕ) → reading words ≡ Some (plan scenario book lattice name)
    → IfSome held (λ files. (scene : SceneFiles) ×
    (gives (plan_inputs scenario book lattice) files ≡ Ok scene)
    × IsAnswerWritten [] scene Written × HoldsGoodCertificate name scene after)

-- words that are `check SCENARIO BOOK LATTICE CERT`: the answer over the scene of the three files
-- was written behind `accepted`, whatever certificate CERT holds
abbrev pub CheckPrintsTheAnswer : List (List ℕ) → Option Files → (List ℕ → Type 0) → Type 0
CheckPrintsTheAnswer words held Written =
    (scenario book lattice name : List ℕ) → reading words ≡ Some (check scenario book lattice name)
    → AcceptsTheAnswer scenario book lattice name held Written
