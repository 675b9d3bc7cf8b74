-- The due outcomes of `check` in the words of the headline.
use Rattle.std.proofs.Common.{◌≡◌, ℕ, List, Result, Ok, Err, refl, sym, ap, subst, ◌∙◌, inl, inr}
use Rattle.std.specs.Prelude.{codes}
use Rattle.outside_io.specs.Outside.{Files}
use Rattle.certificate_text.specs.declared.certificate.Certificate.{Certificate}
use Rattle.command_outcome.specs.Ends.{EndsDue, Shelf}
use Rattle.command_outcome.specs.Inputs.{Halt, absent, refusal, gives}
use Rattle.command_outcome.specs.Outcome.{IsDueStatus, Outcome}
use Rattle.command_outcome.specs.Tasks.{IsDueTo, Settles}
use Rattle.command_outcome.specs.declared.outcome.Status.{Status}
use Rattle.command_outcome.specs.declared.outcome.Status.TheVariants as status
use Rattle.command_outcome.proofs.Options.{map_some}
use Rattle.bound_scene.specs.declared.scene_files.SceneFiles.{SceneFiles}
use Rattle.check_command.specs.Check.{CheckMakes, check_inputs, check_task}
use Rattle.check_command.specs.Headline.{AcceptsTheAnswer, IsAnswerWritten}

pub done_is_due : (s : Status) → s ≡ status.Done → IsDueStatus s
done_is_due s done = subst IsDueStatus (sym done) tt

module _ (Written : List ℕ → Type 0) (files : Files) (o : Outcome) (done : o.status ≡ status.Done) (written : Written o.text) (scenario book lattice name : List ℕ) where
  abbrev Checked : Type 0
  Checked = (input : SceneFiles × Certificate) × (gives (check_inputs scenario book lattice name) files ≡ Ok input) × IsAnswerWritten (codes "accepted\n") input.0 Written

  not_refused : (text : List ℕ) → o ≡ record { status = status.Refused; text = text; files = files } → ⊥
  not_refused text is = clash (sym done ∙ ap (λ (p : Outcome). p.status) is)
    where
      clash : status.Done ≡ status.Refused → ⊥
      clash e = absurd cc

  check_made : (input : SceneFiles × Certificate) → gives (check_inputs scenario book lattice name) files ≡ Ok input → CheckMakes files input o → Checked
  check_made input is (inl h) = (input, is, record { answers = h.answers; answers_are = h.shows.answers_are; written = subst Written (ap (λ (p : Outcome). p.text) h.is) written })
  check_made input is (inr h) = absurd (clash (sym done ∙ ap (λ (p : Outcome). p.status) h.is))
    where
      clash : status.Done ≡ status.Rejected → ⊥
      clash e = absurd cc

  check_by : (r : Result (SceneFiles × Certificate) Halt) → gives (check_inputs scenario book lattice name) files ≡ r → Settles r (CheckMakes files) files o → Checked
  check_by (Ok input) is h = check_made input is h
  check_by (Err (refusal text)) is h = absurd (not_refused text h)
  check_by (Err absent) is h = absurd h

  check_written : IsDueTo (check_task scenario book lattice name) files o → Checked
  check_written due = check_by (gives (check_inputs scenario book lattice name) files) refl due

-- what a `check` that is done prints
pub accepts : (scenario book lattice name : List ℕ) (old new : Shelf) (s : Status) (Written : List ℕ → Type 0) → s ≡ status.Done → EndsDue (check_task scenario book lattice name) old new s Written
    → AcceptsTheAnswer scenario book lattice name old.held Written
accepts scenario book lattice name old new s Written done due =
    map_some old.held (λ files told h. check_written Written files (record { status = s; text = h.0; files = h.1 }) done h.4 scenario book lattice name h.2) due.1
