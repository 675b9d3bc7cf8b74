-- What due outcomes of `check` have in common.
use Rattle.std.proofs.Common.{◌≡◌, inl, inr, ℕ, List, sym, ◌∙◌, ap}
use Rattle.outside_io.specs.Outside.{Files}
use Rattle.certificate_text.specs.declared.certificate.Certificate.{Certificate}
use Rattle.certificate_checker.specs.declared.checked.Attained.{Attained}
use Rattle.certificate_checker.proofs.OneFinding.{Fails-not_good, Fails-once}
use Rattle.command_outcome.specs.Outcome.{Outcome}
use Rattle.command_outcome.specs.declared.outcome.Status.TheVariants as status
use Rattle.command_outcome.proofs.DueOutcomes.{IsLawful, lawful_text}
use Rattle.bound_scene.specs.declared.scene_files.SceneFiles.{SceneFiles}
use Rattle.check_command.specs.Answers.{NoWorseFor, graph_of}
use Rattle.check_command.specs.Check.{CheckMakes, IsAccepted, IsRejected, accepted_text, check_task, rejected_text}
use Rattle.check_command.proofs.AscendingAnswers.{one_list}

one_accepted : (before : Files) (files : SceneFiles) (certificate : Certificate) (o p : Outcome) → IsAccepted before files certificate o → IsAccepted before files certificate p → o ≡ p
one_accepted before files certificate o p h k =
    let same : h.answers ≡ k.answers = one_list (λ (a : Attained). a.vector) h.answers k.answers h.shows.answers_are.ascending k.shows.answers_are.ascending
    (λ a. (λ listed. (k.shows.of_finals a).1 ((h.shows.of_finals a).0 listed), λ listed. (h.shows.of_finals a).1 ((k.shows.of_finals a).0 listed))) in
    h.is ∙ ap (λ (answers : List Attained). record { status = status.Done; text = accepted_text files answers; files = before }) same ∙ sym k.is

one_rejected : (before : Files) (files : SceneFiles) (certificate : Certificate) (o p : Outcome) → IsRejected before files certificate o → IsRejected before files certificate p → o ≡ p
one_rejected before files certificate o p h k =
    let same = Fails-once (graph_of files) (NoWorseFor files) certificate h.number h.label k.number k.label h.fails k.fails in
    h.is
    ∙ ap (λ (n : ℕ). record { status = status.Rejected; text = rejected_text n h.label; files = before }) same.0
    ∙ ap (λ (l : ℕ). record { status = status.Rejected; text = rejected_text k.number l; files = before }) same.1
    ∙ sym k.is

never_both : (before : Files) (files : SceneFiles) (certificate : Certificate) (o p : Outcome) → IsAccepted before files certificate o → IsRejected before files certificate p → ⊥
never_both before files certificate o p h k = Fails-not_good (graph_of files) (NoWorseFor files) certificate h.shows.good k.number k.label k.fails

one_check : (before : Files) (x : SceneFiles × Certificate) (o p : Outcome) → CheckMakes before x o → CheckMakes before x p → o ≡ p
one_check before x o p (inl h) (inl k) = one_accepted before x.0 x.1 o p h k
one_check before x o p (inl h) (inr k) = absurd (never_both before x.0 x.1 o p h k)
one_check before x o p (inr h) (inl k) = absurd (never_both before x.0 x.1 p o k h)
one_check before x o p (inr h) (inr k) = one_rejected before x.0 x.1 o p h k

check_stays : (before : Files) (x : SceneFiles × Certificate) (o : Outcome) → CheckMakes before x o → o.files ≡ before
check_stays before x o (inl h) = ap (λ (q : Outcome). q.files) h.is
check_stays before x o (inr h) = ap (λ (q : Outcome). q.files) h.is

pub check_lawful : (scenario book lattice name : List ℕ) → IsLawful (check_task scenario book lattice name)
check_lawful scenario book lattice name = lawful_text (check_task scenario book lattice name) one_check check_stays
