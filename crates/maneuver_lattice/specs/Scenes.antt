-- A vehicle on its way over a lattice (this project's own), among the lanelets and for a planning
-- problem of a CommonRoad scenario: its states, and how it comes from one to the next.
use Rattle.std.specs.Prelude.{◌≡◌, ◌≢◌, ℕ, ◌+◌, ◌*◌, ◌^◌, ◌<◌, ◌≤◌, unsigned_abs, Bool, true, ◌&&◌}
use Rattle.std.specs.Prelude.{◌==◌, nat_le, if◌then◌else◌, pos, ◌+ℤ◌, List, [], ◌∷◌, length, filter}
use Rattle.std.specs.Prelude.{slice_index, slice_index_or, Option}
use Rattle.std.specs.List.{position}
use Rattle.std.specs.Option.{unwrap_or}
use Rattle.std.specs.Str.{bytes_eq}
use Rattle.lanelet_network.specs.Lanes.{Lane}
use Rattle.scenario_model.specs.declared.problem.Problem.{Problem}
use Rattle.maneuver_lattice.specs.Lattice.{last_step}
use Rattle.maneuver_lattice.specs.Starts.{start_class}
use Rattle.maneuver_lattice.specs.declared.lattice.Lattice.{Lattice}
use Rattle.maneuver_lattice.specs.declared.lattice.Maneuver.{Maneuver}
use Rattle.maneuver_lattice.specs.declared.state.LatticeState.{LatticeState}
use Rattle.maneuver_lattice.specs.declared.limits.TheConstants.{MAX_LENGTH}

pub record Scene : Type 0 where
  pub lattice : Lattice
  pub lanes : List Lane
  pub problem : Problem

-- the class in which the vehicle starts; 0 where there is none
abbrev pub first_class : Scene → ℕ
first_class scene = unwrap_or (start_class scene.lattice scene.problem.start.speed) 0

abbrev pub start : Scene → LatticeState
start scene = record { tick = 0; forward = pos 0; left = pos 0; class = first_class scene }

-- the maneuver begins in the state's class, and ends by the horizon
unfoldable pub is_open : ℕ → LatticeState → Maneuver → Bool
is_open horizon state maneuver =
    maneuver.from == state.class && nat_le (state.tick + length maneuver.steps) horizon

-- the places, counted on from n, of the items that pass the test
abbrev pub places_from : {X : Type 0} → (X → Bool) → ℕ → List X → List ℕ
places_from test n [] = []
places_from test n (x ∷ xs) =
    if test x then n ∷ places_from test (n + 1) xs else places_from test (n + 1) xs

-- the maneuvers that can be chosen in the state, by their places in the lattice, in its order
unfoldable pub open_maneuvers : Scene → LatticeState → List ℕ
open_maneuvers scene state =
    places_from (is_open scene.lattice.horizon state) 0 scene.lattice.maneuvers

abbrev pub choices : Scene → LatticeState → ℕ
choices scene state = length (open_maneuvers scene state)

-- the place of the maneuver that a choice chooses
abbrev pub maneuver_of : Scene → LatticeState → ℕ → ℕ
maneuver_of scene state choice = slice_index (open_maneuvers scene state) choice

-- the maneuver has the name
abbrev pub is_named : List ℕ → Maneuver → Bool
is_named name maneuver = bytes_eq maneuver.name name

-- the choice of the maneuver of this name; none where no maneuver that can be chosen in the state
-- has it
unfoldable pub choice_named : Scene → LatticeState → List ℕ → Option ℕ
choice_named scene state name =
    position (is_named name) (filter (is_open scene.lattice.horizon state) scene.lattice.maneuvers)

abbrev pub maneuver_at : List Maneuver → ℕ → Maneuver
maneuver_at maneuvers place =
    slice_index_or maneuvers place (record { name = []; from = 0; to = 0; steps = [] })

abbrev pub chosen : Scene → LatticeState → ℕ → Maneuver
chosen scene state choice = maneuver_at scene.lattice.maneuvers (maneuver_of scene state choice)

-- a choice chooses the maneuver of this name
pub record IsNamedChoice (scene : Scene) (state : LatticeState) (name : List ℕ)
    (choice : ℕ) : Type 0 where
  pub within : choice < choices scene state
  pub named : (chosen scene state choice).name ≡ name

-- no choice does
abbrev pub HasNoChoice : Scene → LatticeState → List ℕ → Type 0
HasNoChoice scene state name =
    (choice : ℕ) → choice < choices scene state → (chosen scene state choice).name ≢ name

-- the state after a maneuver, which takes one tick a step
unfoldable pub after : LatticeState → Maneuver → LatticeState
after state maneuver =
    let end = last_step maneuver.steps in
    record {
      tick = state.tick + length maneuver.steps;
      forward = state.forward +ℤ end.forward;
      left = state.left +ℤ end.left;
      class = maneuver.to;
    }

-- the state to which a choice leads
abbrev pub next : Scene → LatticeState → ℕ → LatticeState
next scene state choice = after state (chosen scene state choice)

-- a list of choices leads from one state to another: each is a choice of the state to which those
-- before it lead
abbrev pub Leads : Scene → LatticeState → List ℕ → LatticeState → Type 0
Leads scene state [] end = state ≡ end
Leads scene state (choice ∷ list) end =
    (choice < choices scene state) × Leads scene (next scene state choice) list end

-- some list of choices leads to the state from the start
pub record IsReached (scene : Scene) (state : LatticeState) : Type 0 where
  pub list : List ℕ
  pub leads : Leads scene (start scene) list state

-- a choice chooses a maneuver of the lattice that is open
pub record IsChosen (scene : Scene) (state : LatticeState) (place : ℕ) : Type 0 where
  pub within : place < length scene.lattice.maneuvers
  pub open_ : is_open scene.lattice.horizon state (maneuver_at scene.lattice.maneuvers place) ≡ true

-- the ranges that every reached state keeps
pub record IsOnLattice (lattice : Lattice) (state : LatticeState) : Type 0 where
  pub tick : state.tick ≤ lattice.horizon
  pub forward : unsigned_abs state.forward ≤ state.tick * MAX_LENGTH
  pub left : unsigned_abs state.left ≤ state.tick * MAX_LENGTH
  pub class : state.class < length lattice.classes
