-- A scene's graph has the laws of a step graph, and what a list of choices reaches in it is what the list's steps amount to.
use Rattle.std.proofs.Common.{◌≡◌, ℕ, zero, suc, ◌+◌, ◌-◌, ◌*◌, ◌^◌, ◌<◌, ◌≤◌, ◌↔◌, Bool, true, List, [], ◌∷◌, ◌++◌, length, Some, Option, refl, sym, ap, ◌∙◌, subst, arith}
use Rattle.std.proofs.lemmas.List.FromFn.{length-map-range_with_len}
use Rattle.rulebook_order.specs.Graph.{Graph, LeadsTo, Reaches, IsReached as IsReachedIn, IsStateOf, Attains, finished}
use Rattle.rulebook_order.specs.StepGraph.{IsStepGraph, AddsUpTo, ticks_passed}
use Rattle.rulebook_order.specs.Sums.{sums}
use Rattle.violation_measures.specs.Binding.{IsBoundTo}
use Rattle.violation_measures.specs.Sources.{Features}
use Rattle.violation_measures.specs.Steps.{finish}
use Rattle.violation_measures.specs.Vectors.{width, step_vector, end_vector, run, trajectory_vector, IsUpTo}
use Rattle.violation_measures.specs.declared.bound.Bound.{Bound}
use Rattle.violation_measures.specs.declared.amount.TheConstants.{MAX_AMOUNT}
use Rattle.violation_measures.specs.declared.step.Step.{Step}
use Rattle.maneuver_lattice.specs.Driving.{standing, step_at, start_step, end_step, steps_of, steps_from, trajectory}
use Rattle.maneuver_lattice.specs.Goals.{is_goal, IsAtGoal}
use Rattle.maneuver_lattice.specs.Lattice.{IsLattice}
use Rattle.maneuver_lattice.specs.SceneGraphs.{scene_graph, IsLatticeTrajectory, ReachesItsSteps, AttainsItsVector}
use Rattle.maneuver_lattice.specs.Scenes.{Scene, start, choices, chosen, next, after, Leads, IsReached, IsOnLattice}
use Rattle.maneuver_lattice.specs.Starts.{start_class}
use Rattle.maneuver_lattice.specs.declared.state.LatticeState.{LatticeState}
use Rattle.maneuver_lattice.proofs.GoalLaws.{goal_is}
use Rattle.maneuver_lattice.proofs.LastStep.{last_is_end}
use Rattle.maneuver_lattice.proofs.MoveLaws.{choices_few, next_later}
use Rattle.maneuver_lattice.proofs.Reached.{reached_on}
use Rattle.violation_measures.proofs.VectorLaws.{run_more, run_up_to, step_up_to, end_up_to, width_fits}
use Rattle.maneuver_lattice.proofs.RunsOf.{sums-assoc, adds_no_steps, keeps_width, run_first, vector_is}

finished_end : (scene : Scene) (state : LatticeState) → finish (end_step scene state) ≡ end_step scene state
unfolding standing
finished_end scene state = refl

module _ (scene : Scene) (f : Features) (bound : Bound) (bound_to : IsBoundTo f bound) where
  abbrev graph : Graph LatticeState
  graph = scene_graph scene f bound

  abbrev from_start : List ℕ
  from_start = step_vector f bound (start_step scene)

  -- what a list of choices reaches in the graph it leads to, and its steps amount to what is added on the way
  leads_of : (list : List ℕ) (s : LatticeState) (v : List ℕ) (t : LatticeState) (w : List ℕ) → length v ≡ width bound → LeadsTo graph s v list t w
      → Leads scene s list t × (w ≡ sums v (run f bound (steps_from scene s list)))
  leads_of [] s v t w long h = (sym h.0, h.1 ∙ sym (adds_no_steps f bound v long))
  leads_of (c ∷ cs) s v t w long h =
      let p = leads_of cs (next scene s c) (sums v (run f bound (steps_of scene s c))) t w (keeps_width f bound bound_to v (steps_of scene s c) long) h.1 in
      ((h.0, p.0), p.1 ∙ sums-assoc v (run f bound (steps_of scene s c)) (run f bound (steps_from scene (next scene s c) cs)) ∙ ap (sums v) (sym (run_more f bound (steps_of scene s c) (steps_from scene (next scene s c) cs))))

  -- and the other way round
  leads_to : (list : List ℕ) (s : LatticeState) (v : List ℕ) (t : LatticeState) (w : List ℕ) → length v ≡ width bound → Leads scene s list t → w ≡ sums v (run f bound (steps_from scene s list)) → LeadsTo graph s v list t w
  leads_to [] s v t w long h e = (sym h, e ∙ adds_no_steps f bound v long)
  leads_to (c ∷ cs) s v t w long h e = (
    h.0,
    leads_to cs (next scene s c) (sums v (run f bound (steps_of scene s c))) t w (keeps_width f bound bound_to v (steps_of scene s c) long) h.1
        (e ∙ ap (sums v) (run_more f bound (steps_of scene s c) (steps_from scene (next scene s c) cs)) ∙ sym (sums-assoc v (run f bound (steps_of scene s c)) (run f bound (steps_from scene (next scene s c) cs)))),
  )

  -- the start's vector, and the steps after it, are the trajectory's
  whole_run : (list : List ℕ) → run f bound (trajectory scene list) ≡ sums from_start (run f bound (steps_from scene (start scene) list))
  whole_run list = run_first f bound (start_step scene) (steps_from scene (start scene) list)

  pub state_reached : (s : LatticeState) → IsStateOf graph s → IsReached scene s
  state_reached s r = record { list = r.1.list; leads = (leads_of r.1.list (start scene) from_start s r.0 (step_up_to f bound (start_step scene) bound_to).width r.1.reaches).0 }

  pub reaches_its_steps : ReachesItsSteps scene f bound
  reaches_its_steps list state vector = (there, back)
    where
      there : Reaches graph list state vector → Leads scene (start scene) list state × (vector ≡ run f bound (trajectory scene list))
      there h = let p = leads_of list (start scene) from_start state vector (step_up_to f bound (start_step scene) bound_to).width h in (p.0, p.1 ∙ sym (whole_run list))

      back : Leads scene (start scene) list state × (vector ≡ run f bound (trajectory scene list)) → Reaches graph list state vector
      back h = leads_to list (start scene) from_start state vector (step_up_to f bound (start_step scene) bound_to).width h.0 (h.1 ∙ whole_run list)

  -- what the end adds completes the trajectory's vector
  pub finished_is : (list : List ℕ) (state : LatticeState) (vector : List ℕ) → IsLattice scene.lattice → Leads scene (start scene) list state → vector ≡ run f bound (trajectory scene list) → finished graph state vector ≡ trajectory_vector f bound (trajectory scene list)
  finished_is list state vector sound leads e =
      ap (λ (v : List ℕ). sums v (end_vector f bound (end_step scene state))) e
      ∙ sym (vector_is f bound (trajectory scene list) (end_step scene state) (last_is_end scene list state sound leads) (finished_end scene state))

  pub attains_its_vector : IsLattice scene.lattice → AttainsItsVector scene f bound
  attains_its_vector sound list vector = (there, back)
    where
      there : Attains graph list vector → IsLatticeTrajectory scene list × (vector ≡ trajectory_vector f bound (trajectory scene list))
      there h =
          let p = (reaches_its_steps list h.state h.vector).0 h.reaches in
          (record { state = h.state; leads = p.0; at_goal = (goal_is scene h.state).0 h.at_goal }, h.vector_is ∙ finished_is list h.state h.vector sound p.0 p.1)

      back : IsLatticeTrajectory scene list × (vector ≡ trajectory_vector f bound (trajectory scene list)) → Attains graph list vector
      back h = record {
        state = h.0.state;
        vector = run f bound (trajectory scene list);
        reaches = (reaches_its_steps list h.0.state (run f bound (trajectory scene list))).1 (h.0.leads, refl);
        at_goal = (goal_is scene h.0.state).1 h.0.at_goal;
        vector_is = h.1 ∙ sym (finished_is list h.0.state (run f bound (trajectory scene list)) sound h.0.leads refl);
      }

  -- a maneuver passes a tick for each of its steps
  pub passed : (s : LatticeState) (c : ℕ) → ticks_passed graph s c ≡ length (steps_of scene s c)
  unfolding after
  passed s c = let n : ℕ = length (chosen scene s c).steps in omega (arith, length-map-range_with_len (step_at scene s c) 1 n)

  module _ (place : ℕ) (sound : IsLattice scene.lattice) (starts : start_class scene.lattice scene.problem.start.speed ≡ Some place) where
    on_lattice : (s : LatticeState) → IsStateOf graph s → IsOnLattice scene.lattice s
    on_lattice s r = reached_on scene place s sound starts (state_reached s r)

    cost_up : (s : LatticeState) (c : ℕ) → AddsUpTo graph (MAX_AMOUNT * ticks_passed graph s c) (run f bound (steps_of scene s c))
    cost_up s c =
        let up = run_up_to f bound (steps_of scene s c) bound_to in
        let same : length (steps_of scene s c) * MAX_AMOUNT ≡ MAX_AMOUNT * ticks_passed graph s c = omega (arith, passed s c) in
        record { width = up.width; up_to = rw (← same) up.up_to }

    pub laws : IsStepGraph graph
    laws = record {
      width = width_fits f bound bound_to;
      choices = λ s r. (let few = choices_few scene s sound in omega arith);
      start_tick = refl;
      tick_rises = λ s c r lt. next_later scene s c sound lt;
      tick_high = λ s r. (on_lattice s r).tick;
      first = (let up = step_up_to f bound (start_step scene) bound_to in record { width = up.width; up_to = up.up_to });
      cost = λ s c r lt. cost_up s c;
      finish = λ s r. (let up = end_up_to f bound (end_step scene s) bound_to in record { width = up.width; up_to = up.up_to });
      sums_fit = (let most = sound.horizon in omega arith);
    }
