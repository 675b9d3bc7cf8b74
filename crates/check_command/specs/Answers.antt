-- The answer over a scene: the violation vectors of lattice trajectories that no lattice
-- trajectory's beats; and how it is printed.
use Rattle.std.specs.Prelude.{◌≡◌, ◌↔◌, ℕ, List, [], ◌∷◌, ◌++◌, length, Bool, All, Contains, codes}
use Rattle.std.specs.Ordering.{is_lt, nat_cmp}
use Rattle.std.specs.Cmp.Lexicographic.{slice_cmp}
use Rattle.std.specs.List.{flat_map}
use Rattle.std.specs.List.Sorted.{IsStrictlySortedBy}
use Rattle.text_lines.specs.Lines.{cell, word}
use Rattle.rule_language.specs.declared.book.Rule.{Rule}
use Rattle.violation_measures.specs.Vectors.{trajectory_vector}
use Rattle.maneuver_lattice.specs.Driving.{trajectory}
use Rattle.rulebook_order.specs.Front.{IsInFront}
use Rattle.rulebook_order.specs.Graph.{Graph}
use Rattle.rulebook_order.specs.NoWorseUnder.{NoWorseUnder}
use Rattle.certificate_text.specs.Text.{spaced}
use Rattle.certificate_checker.specs.Answers.{vectors_of}
use Rattle.certificate_checker.specs.declared.checked.Attained.{Attained}
use Rattle.maneuver_lattice.specs.SceneGraphs.{scene_graph, IsDriven, IsLatticeTrajectory}
use Rattle.maneuver_lattice.specs.Scenes.{Scene, start, chosen, next}
use Rattle.maneuver_lattice.specs.declared.state.LatticeState.{LatticeState}
use Rattle.bound_scene.specs.SceneInputs.{scene, features, bound}
use Rattle.bound_scene.specs.declared.scene_files.SceneFiles.{SceneFiles}

-- `rules` and the names of the rules
abbrev pub rules_line : List Rule → List ℕ
rules_line rules = codes "rules" ++ (flat_map (λ (rule : Rule). word rule.name) rules ++ codes "\n")

-- the violation vector of a list of choices: of the start step and all steps of its maneuvers
abbrev pub vector_of : SceneFiles → List ℕ → List ℕ
vector_of files list =
    trajectory_vector (features files) (bound files) (trajectory (scene files) list)

-- ---- what it is

-- one vector is no worse than another by the rules of the book
abbrev pub NoWorseFor : SceneFiles → List ℕ → List ℕ → Type 0
NoWorseFor files = NoWorseUnder files.book.statements (length files.book.rules)

-- the violation vector of a lattice trajectory, such that no lattice trajectory has one that beats
-- it
abbrev pub IsUnbeaten : SceneFiles → List ℕ → Type 0
IsUnbeaten files =
    IsInFront (NoWorseFor files) (IsDriven (scene files) (features files) (bound files))

-- the list of choices is a lattice trajectory, and the vector is its violation vector
pub record IsDrivenBy (files : SceneFiles) (answer : Attained) : Type 0 where
  pub drives : IsLatticeTrajectory (scene files) answer.choices
  pub vector_is : answer.vector ≡ vector_of files answer.choices

-- one vector comes before another: number by number from the first rule, the first that differs is
-- smaller
abbrev pub AreAscending : List (List ℕ) → Type 0
AreAscending vectors = IsStrictlySortedBy (slice_cmp nat_cmp) vectors

-- the same as a test of two vectors, and of two answers
abbrev pub vector_before : List ℕ → List ℕ → Bool
vector_before one other = is_lt (slice_cmp nat_cmp one other)

abbrev pub comes_before : Attained → Attained → Bool
comes_before one other = is_lt (slice_cmp nat_cmp one.vector other.vector)

-- exactly the vectors that no lattice trajectory's beats, each once, in ascending order, each with
-- a lattice trajectory that has it; there is none only where there is no lattice trajectory
pub record AreAnswers (files : SceneFiles) (answers : List Attained) : Type 0 where
  pub exact : (v : List ℕ) → Contains (vectors_of answers) v ↔ IsUnbeaten files v
  pub ascending : AreAscending (vectors_of answers)
  pub driven : All (IsDrivenBy files) answers
  pub none : answers ≡ [] → (list : List ℕ) → ¬ IsLatticeTrajectory (scene files) list

-- the graph of the scene
abbrev pub graph_of : SceneFiles → Graph LatticeState
graph_of files = scene_graph (scene files) (features files) (bound files)

-- ---- how it is printed

-- the names of the maneuvers that a list of choices chooses from a state on
abbrev pub maneuver_words : Scene → LatticeState → List ℕ → List ℕ
maneuver_words scene state [] = []
maneuver_words scene state (choice ∷ list) =
    word (chosen scene state choice).name ++ maneuver_words scene (next scene state choice) list

-- `V1 .. Vn :` and the names of the trajectory's maneuvers
unfoldable pub answer_line : Scene → Attained → List ℕ
answer_line scene answer =
    spaced answer.vector ++ (codes " :" ++ (maneuver_words scene (start scene) answer.choices
    ++ codes "\n"))

-- `none`, or `front N` and a line for each answer
abbrev pub front_lines : Scene → List Attained → List ℕ
front_lines scene [] = codes "none\n"
front_lines scene (answer ∷ answers) =
    codes "front" ++ (cell (length (answer ∷ answers))
    ++ (codes "\n" ++ flat_map (answer_line scene) (answer ∷ answers)))

-- the line of the rules' names, and the answers
abbrev pub answer_text : SceneFiles → List Attained → List ℕ
answer_text files answers = rules_line files.book.rules ++ front_lines (scene files) answers
