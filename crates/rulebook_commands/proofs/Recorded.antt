-- What is due to `judge` over its inputs.
use Rattle.std.proofs.Common.{◌≡◌, ℕ, List, ◌++◌, length, map, Result, Ok, Err, Vec, refl, sym, ap, subst, ◌∙◌}
use Rattle.std.specs.declared.alloc.Global.{Global}
use Rattle.std.specs.List.{flat_map}
use Rattle.outside_io.specs.Outside.{Files}
use Rattle.rulebook_order.specs.NoWorseUnder.{IsVerdictUnder}
use Rattle.trajectory_judge.specs.declared.judged.Judged.{Judged}
use Rattle.trajectory_judge.specs.declared.records.Records.{Records}
use Rattle.command_outcome.specs.declared.outcome.Role.TheVariants as role
use Rattle.command_outcome.specs.declared.outcome.Status.TheVariants as status
use Rattle.command_outcome.specs.declared.outcome.Stop.{Stop}
use Rattle.command_outcome.specs.declared.outcome.Stop.TheVariants as stop
use Rattle.command_outcome.specs.Ends.{Serves, Shelf, Stands}
use Rattle.command_outcome.specs.Outcome.{Outcome}
use Rattle.command_outcome.proofs.DueOutcomes.{same_outcome}
use Rattle.command_outcome.proofs.HavingInputs.{SoFar, has_tested, none_more, one_more, test_stops}
use Rattle.command_outcome.proofs.Serving.{made, stops}
use Rattle.check_command.specs.Answers.{NoWorseFor}
use Rattle.rulebook_commands.specs.Compare.{AreLines, IsPairLine}
use Rattle.rulebook_order.specs.Pairs.{later_pairs}
use Rattle.rulebook_commands.specs.Judge.{IsJudgeText, JudgeMakes, Judges, judge_inputs, judge_task, judged_line, row_of, with_binding}
use Rattle.bound_scene.specs.SceneInputs.{binding_told}
use Rattle.check_command.specs.Answers.{rules_line}
use Rattle.bound_scene.specs.declared.scene_files.SceneFiles.{SceneFiles}
use Rattle.rulebook_commands.proofs.Judgings.{one_judging}
use Rattle.rulebook_commands.proofs.Lines.{lines_unique, one_pair_line}
use Rattle.command_outcome.proofs.HavingInputs.{has_given}
use Rattle.command_outcome.proofs.DueOutcomes.{IsLawful, lawful_text}

module _ (scenario book lattice name : List ℕ) (old mid : Shelf) (files : SceneFiles) (records : Records) (so_far : SoFar (judge_inputs scenario book lattice name) (with_binding records files) old mid) (stands : Stands old mid) where
  pub judge_serves : (result : Result (Vec ℕ Global) Stop) → Judges files records result → Serves (judge_task scenario book lattice name) old mid result
  judge_serves (Ok text) h =
      let had = (one_more so_far (has_tested role.Book (binding_told files) mid tt h.0)).has mid (files, records) (has_given (files, records) mid) in
      made (judge_task scenario book lattice name) old mid (files, records) had status.Done text.items (λ before. record { done = refl; stays = refl; says = h.1 })
  judge_serves (Err stop.NoMemory) h = stands
  judge_serves (Err (stop.Ended e text)) h =
      stops (judge_task scenario book lattice name) old mid (stop.Ended e text) (none_more so_far mid (stop.Ended e text) (test_stops role.Book (binding_told files) mid (stop.Ended e text) h))
  judge_serves (Err (stop.Unread r)) h = absurd h
  judge_serves (Err stop.Unsaved) h = absurd h

module _ (files : SceneFiles) where
  abbrev Told : List Judged → List ℕ → Type 0
  Told runs told = AreLines (IsPairLine (IsVerdictUnder files.book.statements (length files.book.rules)) files.book.rules) (later_pairs (map row_of runs)) told

  told_once : (xs ys : List Judged) → xs ≡ ys → (a b : List ℕ) → Told xs a → Told ys b → a ≡ b
  told_once xs ys same a b f g =
      lines_unique (IsPairLine (IsVerdictUnder files.book.statements (length files.book.rules)) files.book.rules) (one_pair_line files.book) (later_pairs (map row_of ys)) a b (subst (λ (l : List Judged). Told l a) same f) g

  one_judge_text : (records : Records) (s t : List ℕ) → IsJudgeText files records s → IsJudgeText files records t → s ≡ t
  one_judge_text records s t h k =
      let runs = one_judging (NoWorseFor files) h.runs k.runs (h.names ∙ sym k.names) (h.vectors ∙ sym k.vectors) h.layers k.layers in
      h.says
      ∙ ap (λ (l : List ℕ). rules_line files.book.rules ++ (flat_map judged_line h.runs ++ l)) (told_once h.runs k.runs runs h.told k.told h.verdicts k.verdicts)
      ∙ ap (λ (l : List Judged). rules_line files.book.rules ++ (flat_map judged_line l ++ k.told)) runs
      ∙ sym k.says

one_judge : (before : Files) (x : SceneFiles × Records) (o p : Outcome) → JudgeMakes before x o → JudgeMakes before x p → o ≡ p
one_judge before x o p h k = same_outcome o p (h.done ∙ sym k.done) (one_judge_text x.0 x.1 o.text p.text h.says k.says) (h.stays ∙ sym k.stays)

pub judge_lawful : (scenario book lattice name : List ℕ) → IsLawful (judge_task scenario book lattice name)
judge_lawful scenario book lattice name = lawful_text (judge_task scenario book lattice name) one_judge (λ files x o h. h.stays)
