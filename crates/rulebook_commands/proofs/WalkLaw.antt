-- What due outcomes of `walk` have in common.
use Rattle.std.proofs.Common.{◌≡◌, ◌↔◌, Bool, true, false, IsTrue, ℕ, List, refl, sym, ◌∙◌, ap}
use Rattle.outside_io.specs.Outside.{Files}
use Rattle.maneuver_lattice.specs.SceneGraphs.{IsLatticeTrajectory}
use Rattle.command_outcome.specs.Outcome.{Outcome}
use Rattle.command_outcome.proofs.DueOutcomes.{IsLawful, lawful_text, same_outcome}
use Rattle.bound_scene.specs.SceneInputs.{scene}
use Rattle.bound_scene.specs.declared.scene_files.SceneFiles.{SceneFiles}
use Rattle.check_command.specs.Answers.{vector_of}
use Rattle.rulebook_commands.specs.Walk.{WalkMakes, IsWalkText, walk_lines, walk_task}

same_tests : (b c : Bool) (P : Type 0) → IsTrue b ↔ P → IsTrue c ↔ P → b ≡ c
same_tests true true P h k = refl
same_tests true false P h k = sym (k.1 (h.0 refl))
same_tests false true P h k = h.1 (k.0 refl)
same_tests false false P h k = refl

one_walk_text : (files : SceneFiles) (list s t : List ℕ) → IsWalkText files list s → IsWalkText files list t → s ≡ t
one_walk_text files list s t h k =
    let same = same_tests h.goal k.goal (IsLatticeTrajectory (scene files) list) h.ends k.ends in
    h.says ∙ ap (λ (b : Bool). walk_lines files.book.rules (vector_of files list) b) same ∙ sym k.says

one_walk : (files : Files) (x : SceneFiles × List ℕ) (o p : Outcome) → WalkMakes files x o → WalkMakes files x p → o ≡ p
one_walk files x o p h k = same_outcome o p (h.done ∙ sym k.done) (one_walk_text x.0 x.1 o.text p.text h.says k.says) (h.stays ∙ sym k.stays)

pub walk_lawful : (scenario book lattice list : List ℕ) → IsLawful (walk_task scenario book lattice list)
walk_lawful scenario book lattice list = lawful_text (walk_task scenario book lattice list) one_walk (λ files x o h. h.stays)
