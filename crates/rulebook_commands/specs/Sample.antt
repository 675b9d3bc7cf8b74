-- `sample N`: how large the answer over the sample scene of a number is.
use Rattle.std.specs.Prelude.{◌≡◌, ◌↔◌, ◌⊎◌, ℕ, List, [], ◌∷◌, ◌++◌, length, Contains, None, Result}
use Rattle.std.specs.Prelude.{Ok, Err, Vec, codes}
use Rattle.std.specs.declared.alloc.Global.{Global}
use Rattle.outside_io.specs.Outside.{Files}
use Rattle.text_lines.specs.Lines.{row_line}
use Rattle.rulebook_order.specs.Answer.{AreUndominated}
use Rattle.maneuver_lattice.specs.declared.state.LatticeState.{LatticeState}
use Rattle.sample_scene.specs.Sample.{sample}
use Rattle.command_outcome.specs.declared.outcome.Status.TheVariants as status
use Rattle.command_outcome.specs.declared.outcome.Stop.{Stop}
use Rattle.command_outcome.specs.Outcome.{Outcome}
use Rattle.command_outcome.specs.Inputs.{given}
use Rattle.command_outcome.specs.Tasks.{Task}
use Rattle.check_command.specs.Answers.{AreAscending, IsUnbeaten, NoWorseFor, graph_of}
use Rattle.rulebook_commands.specs.Plan.{HasTooMany, IsTooMuch}
use Rattle.rulebook_commands.specs.Planning.{StopsTooMuch}
use Rattle.bound_scene.specs.declared.scene_files.SceneFiles.{SceneFiles}

-- the sample scene of a number, as if it had been read
unfoldable pub sample_files : ℕ → SceneFiles
sample_files number =
    record {
      scenario = (sample number).scenario;
      book = (sample number).book;
      lattice = (sample number).lattice;
    }

-- exactly the vectors that no lattice trajectory's beats, each once, in ascending order
pub record AreUnbeaten (files : SceneFiles) (vectors : List (List ℕ)) : Type 0 where
  pub exact : (v : List ℕ) → Contains vectors v ↔ IsUnbeaten files v
  pub ascending : AreAscending vectors

-- the first vector; no numbers where there is none
abbrev pub first_of : List (List ℕ) → List ℕ
first_of [] = []
first_of (v ∷ vectors) = v

-- five lines: the number, and how many obstacles, undominated pairs and vectors there are; and the
-- first vector
abbrev pub sample_text : ℕ → ℕ → ℕ → List (List ℕ) → List ℕ
sample_text number obstacles labels vectors =
    row_line (codes "sample") (number ∷ []) ++ (row_line (codes "obstacles") (obstacles ∷ [])
    ++ (row_line (codes "labels") (labels ∷ []) ++
    (row_line (codes "front") (length vectors ∷ [])
    ++ row_line (codes "least") (first_of vectors))))

-- the text says how large the answer over the scene is
pub record IsSample (number : ℕ) (files : SceneFiles) (text : List ℕ) : Type 0 where
  pub few : ¬ HasTooMany files
  pub pairs : List (LatticeState × List ℕ)
  pub undominated : AreUndominated (graph_of files) (NoWorseFor files) pairs
  pub vectors : List (List ℕ)
  pub unbeaten : AreUnbeaten files vectors
  pub says : text ≡ sample_text number (length files.scenario.obstacles) (length pairs) vectors

-- it is printed, and the files stay
pub record IsSampled (number : ℕ) (before : Files) (files : SceneFiles)
    (outcome : Outcome) : Type 0 where
  pub done : outcome.status ≡ status.Done
  pub stays : outcome.files ≡ before
  pub says : IsSample number files outcome.text

abbrev pub SampleMakes : Files → ℕ → Outcome → Type 0
SampleMakes before number outcome =
    IsSampled number before (sample_files number) outcome
    ⊎ IsTooMuch before (sample_files number) outcome

-- it reads no file
abbrev pub sample_task : ℕ → Task
sample_task number = record { Input = ℕ; inputs = given number; Makes = SampleMakes; saves = None }

-- what is made of a scene, before anything is written: a text; too many labels, or want of memory
abbrev pub Samples : ℕ → SceneFiles → Result (Vec ℕ Global) Stop → Type 0
Samples number files (Ok text) = IsSample number files text.items
Samples number files (Err end) = StopsTooMuch files end
