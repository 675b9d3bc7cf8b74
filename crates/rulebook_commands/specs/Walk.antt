-- `walk SCENARIO BOOK LATTICE LIST`: what a list of maneuvers amounts to, and whether it ends at a
-- goal.
use Rattle.std.specs.Prelude.{◌≡◌, ◌↔◌, ℕ, Bool, true, false, List, ◌++◌, IsTrue, None, codes}
use Rattle.outside_io.specs.Outside.{Files}
use Rattle.text_lines.specs.Lines.{row_line}
use Rattle.rule_language.specs.declared.book.Rule.{Rule}
use Rattle.maneuver_lattice.specs.SceneGraphs.{IsLatticeTrajectory}
use Rattle.command_outcome.specs.declared.outcome.Role.TheVariants as role
use Rattle.command_outcome.specs.declared.outcome.Status.TheVariants as status
use Rattle.command_outcome.specs.Outcome.{Outcome}
use Rattle.command_outcome.specs.Inputs.{Inputs, given, tested, ◌>>=◌}
use Rattle.command_outcome.specs.Tasks.{Task}
use Rattle.rulebook_commands.specs.MoveList.{list_told}
use Rattle.bound_scene.specs.SceneInputs.{scene_files, bound_scene, scene}
use Rattle.check_command.specs.Answers.{rules_line, vector_of}
use Rattle.bound_scene.specs.declared.scene_files.SceneFiles.{SceneFiles}

-- `goal yes` or `goal no`
abbrev pub goal_line : Bool → List ℕ
goal_line true = codes "goal yes\n"
goal_line false = codes "goal no\n"

-- the three lines
abbrev pub walk_lines : List Rule → List ℕ → Bool → List ℕ
walk_lines rules vector goal =
    rules_line rules ++ (row_line (codes "vector") vector ++ goal_line goal)

-- `goal yes` stands there exactly where the list is a lattice trajectory
pub record IsWalkText (files : SceneFiles) (list : List ℕ) (text : List ℕ) : Type 0 where
  pub goal : Bool
  pub ends : IsTrue goal ↔ IsLatticeTrajectory (scene files) list
  pub says : text ≡ walk_lines files.book.rules (vector_of files list) goal

abbrev pub with_list : List ℕ → SceneFiles → Inputs (SceneFiles × List ℕ)
with_list list files = do
  choices ← tested role.List (list_told (scene files) list)
  given (files, choices)

abbrev pub with_scene : List ℕ → SceneFiles → Inputs (SceneFiles × List ℕ)
with_scene list files = do
  scene ← bound_scene files
  with_list list scene

abbrev pub walk_inputs : List ℕ → List ℕ → List ℕ → List ℕ → Inputs (SceneFiles × List ℕ)
walk_inputs scenario book lattice list = do
  files ← scene_files scenario book lattice
  with_scene list files

-- what is made of the inputs: the files stay
pub record WalkMakes (before : Files) (input : SceneFiles × List ℕ)
    (outcome : Outcome) : Type 0 where
  pub done : outcome.status ≡ status.Done
  pub stays : outcome.files ≡ before
  pub says : IsWalkText input.0 input.1 outcome.text

abbrev pub walk_task : List ℕ → List ℕ → List ℕ → List ℕ → Task
walk_task scenario book lattice list =
    record {
      Input = SceneFiles × List ℕ;
      inputs = walk_inputs scenario book lattice list;
      Makes = WalkMakes;
      saves = None;
    }
