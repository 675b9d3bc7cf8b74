-- What the text of a walk says: whether the list ends at a goal, and its violation vector.
use Rattle.std.proofs.Common.{◌≡◌, ◌↔◌, ℕ, Bool, List, [], ◌∷◌, refl, sym, ap, ◌∙◌, subst}
use Rattle.std.specs.Prelude.{IsTrue, Ok}
use Rattle.rulebook_order.specs.Graph.{Reaches, finished}
use Rattle.violation_measures.specs.Binding.{IsBoundTo}
use Rattle.violation_measures.specs.Sources.{Features}
use Rattle.violation_measures.specs.Vectors.{trajectory_vector}
use Rattle.violation_measures.specs.declared.bound.Bound.{Bound}
use Rattle.maneuver_lattice.specs.Driving.{trajectory}
use Rattle.maneuver_lattice.specs.Goals.{is_goal, IsAtGoal}
use Rattle.maneuver_lattice.specs.Lattice.{IsLattice}
use Rattle.maneuver_lattice.specs.SceneGraphs.{scene_graph, IsLatticeTrajectory}
use Rattle.maneuver_lattice.specs.Scenes.{Scene, start, next, Leads}
use Rattle.maneuver_lattice.specs.declared.state.LatticeState.{LatticeState}
use Rattle.maneuver_lattice.proofs.GoalLaws.{goal_is}
use Rattle.maneuver_lattice.proofs.GraphLaws.{reaches_its_steps, finished_is}
use Rattle.command_outcome.specs.Ends.{Shelf, Has}
use Rattle.command_outcome.specs.Inputs.{given, gives}
use Rattle.command_outcome.proofs.HavingInputs.{unchanged}
use Rattle.command_outcome.proofs.Options.{each_some}
use Rattle.bound_scene.specs.SceneInputs.{scene, features, bound}
use Rattle.rulebook_commands.specs.Walk.{IsWalkText, walk_lines}
use Rattle.bound_scene.specs.declared.scene_files.SceneFiles.{SceneFiles}

leads_once : (scene : Scene) (list : List ℕ) (s a b : LatticeState) → Leads scene s list a → Leads scene s list b → a ≡ b
leads_once scene [] s a b h k = sym h ∙ k
leads_once scene (c ∷ cs) s a b h k = leads_once scene cs (next scene s c) a b h.1 k.1

module _ (scene : Scene) (f : Features) (bound : Bound) (bound_to : IsBoundTo f bound) (list : List ℕ) (state : LatticeState) (vector : List ℕ) (reaches : Reaches (scene_graph scene f bound) list state vector) where
  leads : Leads scene (start scene) list state
  leads = ((reaches_its_steps scene f bound bound_to list state vector).0 reaches).0

  pub ends_at_goal : (b : Bool) → b ≡ is_goal scene state → IsTrue b ↔ IsLatticeTrajectory scene list
  ends_at_goal b is = (there, back)
    where
      there : IsTrue b → IsLatticeTrajectory scene list
      there h = record { state = state; leads = leads; at_goal = (goal_is scene state).0 (sym is ∙ h) }

      back : IsLatticeTrajectory scene list → IsTrue b
      back t = is ∙ (goal_is scene state).1 (subst (IsAtGoal scene) (leads_once scene list (start scene) t.state state t.leads leads) t.at_goal)

  pub vector_amounts : IsLattice scene.lattice → finished (scene_graph scene f bound) state vector ≡ trajectory_vector f bound (trajectory scene list)
  vector_amounts sound = finished_is scene f bound bound_to list state vector sound leads ((reaches_its_steps scene f bound bound_to list state vector).0 reaches).1

-- the text of a list that was walked in the graph of the files
module _ (files : SceneFiles) (g : Scene) (f : Features) (b : Bound) (scene_is : g ≡ scene files) (features_are : f ≡ features files) (bound_is : b ≡ bound files) where
  pub walk_says : IsBoundTo (features files) (bound files) → IsLattice files.lattice → (list : List ℕ) (state : LatticeState) (vector end : List ℕ) (goal : Bool) (text : List ℕ)
      → Reaches (scene_graph g f b) list state vector → end ≡ finished (scene_graph g f b) state vector → goal ≡ is_goal g state → text ≡ walk_lines files.book.rules end goal → IsWalkText files list text
  walk_says bound_to sound list state vector end goal text reaches ended at says =
      let r : Reaches (scene_graph (scene files) (features files) (bound files)) list state vector = subst (λ (x : Bound). Reaches (scene_graph (scene files) (features files) x) list state vector) bound_is (subst (λ (y : Features). Reaches (scene_graph (scene files) y b) list state vector) features_are (subst (λ (z : Scene). Reaches (scene_graph z f b) list state vector) scene_is reaches)) in
      let e : end ≡ finished (scene_graph (scene files) (features files) (bound files)) state vector =
      ended ∙ ap (λ (z : Scene). finished (scene_graph z f b) state vector) scene_is ∙ ap (λ (y : Features). finished (scene_graph (scene files) y b) state vector) features_are ∙ ap (λ (x : Bound). finished (scene_graph (scene files) (features files) x) state vector) bound_is in
      record {
        goal = goal;
        ends = ends_at_goal (scene files) (features files) (bound files) bound_to list state vector r goal (at ∙ ap (λ (z : Scene). is_goal z state) scene_is);
        says = says ∙ ap (λ (v : List ℕ). walk_lines files.book.rules v goal) (e ∙ vector_amounts (scene files) (features files) (bound files) bound_to list state vector r sound);
      }
