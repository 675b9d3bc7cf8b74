-- A scenario, a book and a lattice as inputs, and what is asked of the three together: that the
-- book can be bound to the scene, and that there is a start. This project's own.
use Rattle.std.specs.Prelude.{ℕ, ◌+◌, not, ◌==◌, List, [], ◌∷◌, length, map, slice_index_or, pos}
use Rattle.std.specs.Prelude.{Option, None, Some, Result, Ok, Err, if◌then◌else◌, ⊤, codes}
use Rattle.reading.specs.Reading.{◌>>=◌ as ◌then◌}
use Rattle.scenario_model.specs.declared.problem.Problem.{Problem}
use Rattle.scenario_model.specs.declared.scenario.Scenario.{Scenario}
use Rattle.lanelet_network.specs.Lanes.{lanes_of}
use Rattle.rule_language.specs.declared.book.Book.{Book}
use Rattle.rule_language.specs.declared.book.Rule.{Rule}
use Rattle.rule_language.specs.declared.part.Part.{Part}
use Rattle.violation_measures.specs.Intervals.{all_known, all_keep}
use Rattle.violation_measures.specs.Resolved.{resolved_book}
use Rattle.violation_measures.specs.Scenes.{scene_among, features_of}
use Rattle.violation_measures.specs.Sources.{Features, bounds_of}
use Rattle.violation_measures.specs.declared.bind_fault.BindFault.{BindFault}
use Rattle.violation_measures.specs.declared.bind_fault.BindFault.TheVariants as bind
use Rattle.violation_measures.specs.declared.bound.Bound.{Bound}
use Rattle.maneuver_lattice.specs.Faults.{word}
use Rattle.maneuver_lattice.specs.Lattices.{lattice_of}
use Rattle.maneuver_lattice.specs.Scenes.{Scene}
use Rattle.maneuver_lattice.specs.Starts.{start_class}
use Rattle.maneuver_lattice.specs.declared.fault.LatticeFault.{LatticeFault}
use Rattle.maneuver_lattice.specs.declared.fault.LatticeFault.TheVariants as fault
use Rattle.maneuver_lattice.specs.declared.fault.LatticeKind.{LatticeKind}
use Rattle.maneuver_lattice.specs.declared.fault.LatticeKind.TheVariants as kind
use Rattle.maneuver_lattice.specs.declared.lattice.Lattice.{Lattice}
use Rattle.maneuver_lattice.specs.declared.lattice.Maneuver.{Maneuver}
use Rattle.command_outcome.specs.declared.outcome.Role.TheVariants as role
use Rattle.command_outcome.specs.Outcome.{fault_of}
use Rattle.command_outcome.specs.Inputs.{Inputs, file, given, tested, told, ◌>>=◌}
use Rattle.bound_scene.specs.Inputs.{rule_name}
use Rattle.bound_scene.specs.Inputs.{book_input}
use Rattle.bound_scene.specs.ScenarioInput.{scenario_input}
use Rattle.bound_scene.specs.declared.scene_files.SceneFiles.{SceneFiles}

-- ---- a lattice

abbrev pub lattice_kind_text : LatticeKind → List ℕ
lattice_kind_text kind.Class = codes "class"
lattice_kind_text kind.Maneuver = codes "maneuver"
lattice_kind_text kind.Choice = codes "choice"
lattice_kind_text kind.Step = codes "step"

-- a fault's name in lower case with dashes between its words, and the key, name or kind; want of
-- memory has none
abbrev pub lattice_fault_text : LatticeFault → Option (List ℕ)
lattice_fault_text fault.Toml = Some (codes "toml")
lattice_fault_text (fault.Missing key) = Some (fault_of (codes "missing") (word key))
lattice_fault_text (fault.BadValue key) = Some (fault_of (codes "bad-value") (word key))
lattice_fault_text (fault.UnknownClass name) = Some (fault_of (codes "unknown-class") name)
lattice_fault_text (fault.DuplicateName name) = Some (fault_of (codes "duplicate-name") name)
lattice_fault_text (fault.EndMismatch name) = Some (fault_of (codes "end-mismatch") name)
lattice_fault_text (fault.TooMany kind) =
    Some (fault_of (codes "too-many") (lattice_kind_text kind))
lattice_fault_text fault.NoStartClass = Some (codes "no-start-class")
lattice_fault_text fault.NoMemory = None

abbrev pub lattice_read : List ℕ → Result Lattice (Option (List ℕ))
lattice_read bytes = told lattice_fault_text (lattice_of bytes)

abbrev pub lattice_input : List ℕ → Inputs Lattice
lattice_input name = file role.Lattice lattice_read name

-- ---- the three files

abbrev pub with_lattice : List ℕ → Scenario → Book → Inputs SceneFiles
with_lattice lattice_name scenario book = do
  lattice ← lattice_input lattice_name
  given (record { scenario = scenario; book = book; lattice = lattice })

abbrev pub with_book : List ℕ → List ℕ → Scenario → Inputs SceneFiles
with_book book_name lattice_name scenario = do
  book ← book_input role.Book book_name
  with_lattice lattice_name scenario book

abbrev pub scene_files : List ℕ → List ℕ → List ℕ → Inputs SceneFiles
scene_files scenario_name book_name lattice_name = do
  scenario ← scenario_input scenario_name
  with_book book_name lattice_name scenario

-- ---- what they are together

-- the first planning problem, which a scenario has
abbrev pub first_problem : Scenario → Problem
first_problem scenario =
    slice_index_or scenario.problems 0 (record {
      id = 0;
      start = record {
        tick = 0;
        position = record { x = pos 0; y = pos 0 };
        heading = pos 0;
        speed = pos 0;
      };
      goals = [];
    })

-- a vehicle on its way over the lattice, for the first problem among the lanelets
abbrev pub scene : SceneFiles → Scene
scene files =
    record {
      lattice = files.lattice;
      lanes = lanes_of files.scenario;
      problem = first_problem files.scenario;
    }

-- the names of the lattice's maneuvers, in its order
abbrev pub maneuver_names : Lattice → List (List ℕ)
maneuver_names lattice = map (λ (m : Maneuver). m.name) lattice.maneuvers

-- the features of the scene: over all its lanelets and obstacles, for a vehicle of the lattice's
-- size
abbrev pub features : SceneFiles → Features
features files =
    features_of (scene_among
    (lanes_of files.scenario) files.scenario.obstacles files.lattice.length files.lattice.width
    (maneuver_names files.lattice))

-- the book as it is bound to the features
abbrev pub bound : SceneFiles → Bound
bound files = resolved_book (features files).find files.book

-- ---- binding and start

-- a part: first for unknown features, then for range
abbrev pub bind_part : Features → ℕ → Part → Result ⊤ BindFault
bind_part f i part =
    if not (all_known f.find part.expr) then Err (bind.UnknownFeature i)
    else if not (all_keep (bounds_of f) part.expr) then Err (bind.RangeTooLarge i)
    else Ok tt

-- the parts of rule i, in order
abbrev pub bind_parts : Features → ℕ → List Part → Result ⊤ BindFault
bind_parts f i [] = Ok tt
bind_parts f i (part ∷ parts) = ◌then◌ (bind_part f i part) (λ _. bind_parts f i parts)

-- rule i: it isn't bare
abbrev pub bind_rule : Features → ℕ → Rule → Result ⊤ BindFault
bind_rule f i rule =
    if length rule.parts == 0 then Err (bind.BareRule i) else bind_parts f i rule.parts

-- the rules from number i on
abbrev pub bind_rules : Features → ℕ → List Rule → Result ⊤ BindFault
bind_rules f i [] = Ok tt
bind_rules f i (rule ∷ rules) = ◌then◌ (bind_rule f i rule) (λ _. bind_rules f (i + 1) rules)

-- the fault's name and the rule's; want of memory has none
abbrev pub bind_fault_text : List Rule → BindFault → Option (List ℕ)
bind_fault_text rules (bind.BareRule i) = Some (fault_of (codes "bare-rule") (rule_name rules i))
bind_fault_text rules (bind.UnknownFeature i) =
    Some (fault_of (codes "unknown-feature") (rule_name rules i))
bind_fault_text rules (bind.RangeTooLarge i) =
    Some (fault_of (codes "range-too-large") (rule_name rules i))
bind_fault_text rules bind.NoMemory = None

abbrev pub binding_told : SceneFiles → Result ⊤ (Option (List ℕ))
binding_told files =
    told (bind_fault_text files.book.rules) (bind_rules (features files) 0 files.book.rules)

abbrev pub start_found : Option ℕ → Result ⊤ (Option (List ℕ))
start_found None = Err (lattice_fault_text fault.NoStartClass)
start_found (Some class) = Ok tt

abbrev pub start_told : SceneFiles → Result ⊤ (Option (List ℕ))
start_told files =
    start_found (start_class files.lattice (first_problem files.scenario).start.speed)

abbrev pub with_start : SceneFiles → Inputs SceneFiles
with_start files = do
  _ ← tested role.Lattice (start_told files)
  given files

-- after all files: the book is bound, then the start is found
abbrev pub bound_scene : SceneFiles → Inputs SceneFiles
bound_scene files = do
  _ ← tested role.Book (binding_told files)
  with_start files
