-- What a `check` that is done prints: the answer over the scene of its files.
use Rattle.std.specs.Prelude.{◌≡◌, ℕ, List, ◌++◌, Option, Ok, IfSome, codes}
use Rattle.outside_io.specs.Outside.{Files}
use Rattle.certificate_text.specs.declared.certificate.Certificate.{Certificate}
use Rattle.certificate_checker.specs.declared.checked.Attained.{Attained}
use Rattle.command_outcome.specs.Inputs.{gives}
use Rattle.bound_scene.specs.declared.scene_files.SceneFiles.{SceneFiles}
use Rattle.check_command.specs.Answers.{AreAnswers, answer_text}
use Rattle.check_command.specs.Check.{check_inputs}

-- the answer over the scene was written, behind some words
pub record IsAnswerWritten (words : List ℕ) (scene : SceneFiles)
    (Written : List ℕ → Type 0) : Type 0 where
  pub answers : List Attained
  pub answers_are : AreAnswers scene answers
  pub written : Written (words ++ answer_text scene answers)

-- the three files have readings that are accepted together, and the answer over their scene was
-- written behind `accepted`, whatever certificate is under the last name
abbrev pub AcceptsTheAnswer : List ℕ → List ℕ → List ℕ → List ℕ → Option Files
    → (List ℕ → Type 0) → Type 0
AcceptsTheAnswer scenario book lattice name held Written =
    IfSome held (λ files. (input : SceneFiles × Certificate)
    × (gives (check_inputs scenario book lattice name) files ≡ Ok input)
    × IsAnswerWritten (codes "accepted\n") input.0 Written)
