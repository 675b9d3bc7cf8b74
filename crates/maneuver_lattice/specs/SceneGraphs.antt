-- A scene as a graph of states, and what trajectories amount to by the rules of a book. This
-- project's own, for the rulebooks of Censi and others, 2019.
use Rattle.std.specs.Prelude.{◌≡◌, ◌↔◌, ℕ, List}
use Rattle.rule_language.specs.declared.book.Book.{Book}
use Rattle.rulebook_order.specs.Graph.{Graph, Reaches, Attains}
use Rattle.violation_measures.specs.Sources.{Features}
use Rattle.violation_measures.specs.Vectors.{width, step_vector, end_vector, run, trajectory_vector}
use Rattle.violation_measures.specs.declared.bound.Bound.{Bound}
use Rattle.violation_measures.specs.declared.amount.TheConstants.{MAX_AMOUNT}
use Rattle.maneuver_lattice.specs.Driving.{start_step, end_step, steps_of, trajectory}
use Rattle.maneuver_lattice.specs.Goals.{is_goal, IsAtGoal}
use Rattle.maneuver_lattice.specs.Scenes.{Scene, start, choices, next, Leads}
use Rattle.maneuver_lattice.specs.declared.state.LatticeState.{LatticeState}

-- the states of the lattice; a choice adds what the steps of its maneuver amount to
abbrev pub scene_graph : Scene → Features → Bound → Graph LatticeState
scene_graph scene f bound = record {
  width = width bound;
  last = scene.lattice.horizon;
  step_limit = MAX_AMOUNT;
  start = start scene;
  first = step_vector f bound (start_step scene);
  choices = choices scene;
  next = next scene;
  cost = λ state choice. run f bound (steps_of scene state choice);
  finish = λ state. end_vector f bound (end_step scene state);
  goal = is_goal scene;
  tick = λ (state : LatticeState). state.tick;
}

-- ---- in the words of the subject

-- the choices apply one after the other from the start, and the state in which they end meets a
-- goal of the problem
pub record IsLatticeTrajectory (scene : Scene) (list : List ℕ) : Type 0 where
  pub state : LatticeState
  pub leads : Leads scene (start scene) list state
  pub at_goal : IsAtGoal scene state

-- some lattice trajectory has the violation vector
pub record IsDriven (scene : Scene) (f : Features) (bound : Bound) (vector : List ℕ) : Type 0 where
  pub list : List ℕ
  pub drives : IsLatticeTrajectory scene list
  pub vector_is : vector ≡ trajectory_vector f bound (trajectory scene list)

-- a list of choices reaches in the graph just what it leads to, with what its steps amount to
abbrev pub ReachesItsSteps : Scene → Features → Bound → Type 0
ReachesItsSteps scene f bound =
    (list : List ℕ) (state : LatticeState) (vector : List ℕ)
    → Reaches (scene_graph scene f bound) list state vector
    ↔ (Leads scene (start scene) list state × (vector ≡ run f bound (trajectory scene list)))

-- a list of choices ends at a goal of the graph just where it is a lattice trajectory, with that
-- trajectory's violation vector
abbrev pub AttainsItsVector : Scene → Features → Bound → Type 0
AttainsItsVector scene f bound =
    (list vector : List ℕ) → Attains (scene_graph scene f bound) list vector
    ↔ (IsLatticeTrajectory scene list × (vector ≡ trajectory_vector f bound
    (trajectory scene list)))
