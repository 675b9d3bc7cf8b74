-- What due outcomes of `plan` have in common.
use Rattle.std.proofs.Common.{◌≡◌, inl, inr, ℕ, List, refl, sym, ◌∙◌, ap}
use Rattle.outside_io.specs.Outside.{Files}
use Rattle.command_outcome.specs.Outcome.{Outcome}
use Rattle.command_outcome.specs.Tasks.{EndAlike, KeepsFiles}
use Rattle.command_outcome.specs.declared.outcome.Status.TheVariants as status
use Rattle.command_outcome.proofs.DueOutcomes.{IsLawful, alike, end_alike, keeps}
use Rattle.bound_scene.specs.declared.scene_files.SceneFiles.{SceneFiles}
use Rattle.rulebook_commands.specs.Plan.{PlanMakes, plan_task}

plan_ends : (name : List ℕ) (before : Files) (files : SceneFiles) (o p : Outcome) → PlanMakes name before files o → PlanMakes name before files p → EndAlike o p
plan_ends name before files o p (inl h) (inl k) = (h.done ∙ sym k.done, λ refused. absurd (not_refused (sym h.done ∙ refused)))
  where
    not_refused : status.Done ≡ status.Refused → ⊥
    not_refused e = absurd cc
plan_ends name before files o p (inl h) (inr k) = absurd (h.plans.few k.many)
plan_ends name before files o p (inr h) (inl k) = absurd (k.plans.few h.many)
plan_ends name before files o p (inr h) (inr k) = end_alike o p (h.is ∙ sym k.is)

plan_keeps : (scenario book lattice name : List ℕ) (before : Files) (files : SceneFiles) (o : Outcome) → PlanMakes name before files o → KeepsFiles (plan_task scenario book lattice name) before o
plan_keeps scenario book lattice name before files o (inl h) = inr (h.done, name, h.bytes, refl, h.saves)
plan_keeps scenario book lattice name before files o (inr h) = inl (ap (λ (q : Outcome). q.files) h.is)

pub plan_lawful : (scenario book lattice name : List ℕ) → IsLawful (plan_task scenario book lattice name)
plan_lawful scenario book lattice name = record {
  once = λ saves. absurd cc;
  ends_alike = λ files. alike EndAlike (λ o. end_alike o o refl) (plan_task scenario book lattice name) files (plan_ends name files);
  keeps_files = λ files. keeps (plan_task scenario book lattice name) files (plan_keeps scenario book lattice name files);
}
