-- The due outcomes of `plan` and `check` in the words of the headline.
use Rattle.std.proofs.Common.{◌≡◌, ℕ, List, [], Option, Some, Result, Ok, Err, IfSome, refl, sym, ap, subst, ◌∙◌, inl, inr}
use Rattle.std.specs.FinMap.{get}
use Rattle.outside_io.specs.Outside.{Files}
use Rattle.certificate_text.specs.Text.{text}
use Rattle.certificate_text.specs.declared.certificate.Certificate.{Certificate}
use Rattle.command_outcome.specs.Ends.{EndsDue, Shelf}
use Rattle.command_outcome.specs.Inputs.{Halt, absent, refusal, gives}
use Rattle.command_outcome.specs.Outcome.{Outcome}
use Rattle.command_outcome.specs.Tasks.{IsDueTo, Settles, task_by}
use Rattle.command_outcome.specs.declared.outcome.Status.{Status}
use Rattle.command_outcome.specs.declared.outcome.Status.TheVariants as status
use Rattle.command_outcome.proofs.Options.{map_some}
use Rattle.rulebook_cli.specs.Asked.{asked, task_of}
use Rattle.check_command.specs.Headline.{IsAnswerWritten}
use Rattle.check_command.proofs.CheckHeadline.{accepts}
use Rattle.rulebook_cli.specs.Headline.{CheckPrintsTheAnswer, HoldsGoodCertificate, PlanPrintsTheAnswer}
use Rattle.rulebook_commands.specs.Plan.{PlanMakes, plan_inputs, plan_task}
use Rattle.rulebook_cli.specs.Words.{Request, plan, check, reading}
use Rattle.bound_scene.specs.declared.scene_files.SceneFiles.{SceneFiles}
use Rattle.rulebook_cli.proofs.Accepted.{held_here}

module _ (Written : List ℕ → Type 0) (files : Files) (o : Outcome) (done : o.status ≡ status.Done) (written : Written o.text) where
  not_refused : (text : List ℕ) → o ≡ record { status = status.Refused; text = text; files = files } → ⊥
  not_refused text is = clash (sym done ∙ ap (λ (p : Outcome). p.status) is)
    where
      clash : status.Done ≡ status.Refused → ⊥
      clash e = absurd cc

  -- ---- plan

  module _ (scenario book lattice name : List ℕ) (after : Option Files) (left : after ≡ Some o.files) where
    abbrev Planned : Type 0
    Planned = (scene : SceneFiles) × (gives (plan_inputs scenario book lattice) files ≡ Ok scene) × IsAnswerWritten [] scene Written × HoldsGoodCertificate name scene after

    plan_made : (scene : SceneFiles) → gives (plan_inputs scenario book lattice) files ≡ Ok scene → PlanMakes name files scene o → Planned
    plan_made scene is (inl h) = (
      scene,
      is,
      record { answers = h.plans.answers; answers_are = h.plans.shows.answers_are; written = subst Written h.plans.says written },
      record {
        certificate = h.plans.certificate;
        good = h.plans.shows.good;
        undominated = h.plans.undominated;
        within = h.plans.has_text;
        holds = subst (λ (a : Option Files). IfSome a (λ held. get held name ≡ Some (text h.plans.certificate))) (sym (left ∙ ap (λ (f : Files). Some f) h.saves)) (held_here files name h.bytes ∙ ap (λ (b : List ℕ). Some b) h.plans.saves);
      },
    )
    plan_made scene is (inr h) = absurd (clash (sym done ∙ ap (λ (p : Outcome). p.status) h.is))
      where
        clash : status.Done ≡ status.TooManyLabels → ⊥
        clash e = absurd cc

    plan_by : (r : Result SceneFiles Halt) → gives (plan_inputs scenario book lattice) files ≡ r → Settles r (PlanMakes name files) files o → Planned
    plan_by (Ok scene) is h = plan_made scene is h
    plan_by (Err (refusal text)) is h = absurd (not_refused text h)
    plan_by (Err absent) is h = absurd h

    pub plan_written : IsDueTo (plan_task scenario book lattice name) files o → Planned
    plan_written due = plan_by (gives (plan_inputs scenario book lattice) files) refl due

module _ (words : List (List ℕ)) (old new : Shelf) (s : Status) (Written : List ℕ → Type 0) (done : s ≡ status.Done) (due : EndsDue (asked words) old new s Written) where
  due_to : (request : Request) → reading words ≡ Some request → EndsDue (task_of request) old new s Written
  due_to request is = subst (λ (q : Option Request). EndsDue (task_by task_of q) old new s Written) is due

  pub plan_prints : PlanPrintsTheAnswer words old.held new.held Written
  plan_prints scenario book lattice name is =
      map_some old.held (λ files told h. plan_written Written files (record { status = s; text = h.0; files = h.1 }) done h.4 scenario book lattice name new.held h.3 h.2) (due_to (plan scenario book lattice name) is).1

  pub check_prints : CheckPrintsTheAnswer words old.held Written
  check_prints scenario book lattice name is = accepts scenario book lattice name old new s Written done (due_to (check scenario book lattice name) is)
