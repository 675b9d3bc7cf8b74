-- What the program makes of a scenario, a book and a lattice: well-formed files, and the book bound
-- to the scene. This project's own.
use Rattle.std.specs.Prelude.{◌≡◌, ◌<◌, List, length, IsSome, ⊤}
use Rattle.scenario_model.specs.Scenario.{IsScenario}
use Rattle.lanelet_network.specs.Lanes.{lanes_of}
use Rattle.moving_obstacles.specs.Tracks.{IsTrafficOf}
use Rattle.rule_language.specs.Books.{IsBook}
use Rattle.rule_language.specs.declared.book.Rule.{Rule}
use Rattle.violation_measures.specs.Binding.{IsBoundTo}
use Rattle.violation_measures.specs.declared.bound.Bound.{Bound}
use Rattle.violation_measures.specs.declared.bind_fault.BindFault.{BindFault}
use Rattle.violation_measures.specs.declared.bind_fault.BindFault.TheVariants as bind
use Rattle.rulebook_order.specs.Graph.{Graph}
use Rattle.violation_measures.specs.SceneSources.{scene_of as source_scene}
use Rattle.violation_measures.specs.Scenes.{features_of}
use Rattle.violation_measures.specs.declared.scene_source.SceneSource.{SceneSource}
use Rattle.maneuver_lattice.specs.Lattice.{IsLattice}
use Rattle.maneuver_lattice.specs.SceneGraphs.{scene_graph}
use Rattle.maneuver_lattice.specs.Scenes.{Scene}
use Rattle.maneuver_lattice.specs.declared.state.LatticeState.{LatticeState}
use Rattle.maneuver_lattice.specs.Starts.{start_class}
use Rattle.bound_scene.specs.SceneInputs.{bound, features, first_problem, maneuver_names, scene}
use Rattle.bound_scene.specs.declared.scene_files.SceneFiles.{SceneFiles}
use Rattle.bound_scene.specs.declared.scenes.BoundScene.{BoundScene}

pub record AreSceneFiles (files : SceneFiles) : Type 0 where
  pub scenario : IsScenario files.scenario
  pub book : IsBook files.book
  pub lattice : IsLattice files.lattice

-- each part of it is that of its files; the book is bound to their features, and there is a start
pub record IsBoundScene (scene : BoundScene) : Type 0 where
  pub files : AreSceneFiles scene.files
  pub network : scene.network ≡ lanes_of scene.files.scenario
  pub traffic : IsTrafficOf scene.files.scenario.obstacles scene.traffic
  pub names : scene.names ≡ maneuver_names scene.files.lattice
  pub book : scene.bound ≡ bound scene.files
  pub bound_to : IsBoundTo (features scene.files) (bound scene.files)
  pub starts : IsSome (start_class scene.files.lattice
      (first_problem scene.files.scenario).start.speed)

-- the rule that a fault of binding names is one of these
abbrev pub NamesARule : List Rule → BindFault → Type 0
NamesARule rules (bind.BareRule i) = i < length rules
NamesARule rules (bind.UnknownFeature i) = i < length rules
NamesARule rules (bind.RangeTooLarge i) = i < length rules
NamesARule rules bind.NoMemory = ⊤

-- ---- the graph of a scene

abbrev pub graph_at : Scene → SceneSource → Bound → Graph LatticeState
graph_at scene source bound = scene_graph scene (features_of (source_scene source)) bound

-- the parts of a graph are those of the files
pub record IsGraphOf (files : SceneFiles) (graph_scene : Scene) (source : SceneSource)
    (graph_bound : Bound) : Type 0 where
  pub scene_is : graph_scene ≡ scene files
  pub features_are : features_of (source_scene source) ≡ features files
  pub bound_is : graph_bound ≡ bound files
