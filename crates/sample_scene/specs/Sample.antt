-- The sample scene of a number, and what a scene needs to be planned. This project's own.
use Rattle.std.specs.Prelude.{ℕ, slice_index_or, map, All, IsSome}
use Rattle.scenario_model.specs.declared.problem.Problem.{Problem}
use Rattle.lanelet_network.specs.Lanes.{lanes_of}
use Rattle.violation_measures.specs.Binding.{RuleMayBind}
use Rattle.violation_measures.specs.Scenes.{scene_among, features_of}
use Rattle.violation_measures.specs.Sources.{Features}
use Rattle.maneuver_lattice.specs.Starts.{start_class}
use Rattle.maneuver_lattice.specs.declared.lattice.Maneuver.{Maneuver}
use Rattle.sample_scene.specs.declared.sample.SampleScene.{SampleScene}
use Rattle.sample_scene.specs.Motorway.{scenario}
use Rattle.sample_scene.specs.Maneuvers.{lattice}
use Rattle.sample_scene.specs.Rules.{book}

-- the cars alone depend on the number
abbrev pub sample : ℕ → SampleScene
sample number = record { scenario = scenario number; book = book; lattice = lattice }

-- a vehicle may start in some class, at the speed of the first problem
abbrev pub HasStart : SampleScene → Type 0
HasStart scene =
    (none : Problem) → IsSome (start_class scene.lattice
    (slice_index_or scene.scenario.problems 0 none).start.speed)

-- the features of the scene: over all its lanelets and obstacles, for a vehicle of the lattice's
-- size and with its maneuvers
abbrev pub features : SampleScene → Features
features scene =
    features_of (scene_among
    (lanes_of scene.scenario) scene.scenario.obstacles scene.lattice.length scene.lattice.width
    (map (λ (m : Maneuver). m.name) scene.lattice.maneuvers))

-- each rule of the book may be bound to the features
abbrev pub MayBeBound : SampleScene → Type 0
MayBeBound scene = All (RuleMayBind (features scene)) scene.book.rules
