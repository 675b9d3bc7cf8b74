-- The sample lattice: three speeds, between which a vehicle changes, and lanes, between which it
-- changes too. This project's own.
-- Lengths are in 0.1 mm, speeds in mm/s, accelerations in mm/s²; a tick is a fifth of a second, in
-- which 1 mm/s passes 0.2 mm.
use Rattle.std.specs.Prelude.{ℕ, ◌*◌, ℤ, pos, neg_ℤ, ◌+ℤ◌, ◌*ℤ◌, List, [], ◌∷◌, ◌++◌, map, codes}
use Rattle.std.specs.List.{range_with_len}
use Rattle.maneuver_lattice.specs.declared.lattice.Class.{Class}
use Rattle.maneuver_lattice.specs.declared.lattice.Lattice.{Lattice}
use Rattle.maneuver_lattice.specs.declared.lattice.LatticeStep.{LatticeStep}
use Rattle.maneuver_lattice.specs.declared.lattice.Maneuver.{Maneuver}
use Rattle.sample_scene.specs.declared.maneuvers.Change.{Change}
use Rattle.sample_scene.specs.declared.maneuvers.Change.TheVariants.{Up, Down}
use Rattle.sample_scene.specs.declared.maneuvers.Side.{Side}
use Rattle.sample_scene.specs.declared.maneuvers.Side.TheVariants.{Ahead, Left, Right}

-- straight ahead at a speed
abbrev pub class : List ℕ → ℕ → Class
class name speed = record { name = name; heading = pos 0; speed = pos speed }

abbrev pub classes : List Class
classes = class (codes "slow") 5000 ∷ class (codes "mid") 10000 ∷ class (codes "fast") 15000 ∷ []

-- how far to the left a vehicle comes a step: 4 m in five steps
abbrev pub leftward : Side → ℤ
leftward Ahead = pos 0
leftward Left = pos 8000
leftward Right = neg_ℤ (pos 8000)

-- how much faster it becomes a step: 1 m/s
abbrev pub faster : Change → ℤ
faster Up = pos 1000
faster Down = neg_ℤ (pos 1000)

-- step j at one speed
abbrev pub steady_step : ℕ → Side → ℕ → LatticeStep
steady_step speed side j = record {
  forward = pos (2 * speed * j);
  left = leftward side *ℤ pos j;
  heading = pos 0;
  speed = pos speed;
  accel = pos 0;
  turn = pos 0;
}

-- step j from a speed on, by a fifth of the acceleration a step
abbrev pub changing_step : ℕ → Change → ℕ → LatticeStep
changing_step speed change j = record {
  forward = pos (2 * speed * j) +ℤ faster change *ℤ pos j *ℤ pos j;
  left = pos 0;
  heading = pos 0;
  speed = pos speed +ℤ faster change *ℤ pos j;
  accel = faster change *ℤ pos 5;
  turn = pos 0;
}

-- five steps at the speed of a class
abbrev pub steady : List ℕ → ℕ → ℕ → Side → Maneuver
steady name place speed side =
    record {
      name = name;
      from = place;
      to = place;
      steps = map (steady_step speed side) (range_with_len 1 5);
    }

abbrev pub keep : List ℕ → ℕ → ℕ → Maneuver
keep name place speed = steady name place speed Ahead

abbrev pub left : List ℕ → ℕ → ℕ → Maneuver
left name place speed = steady name place speed Left

abbrev pub right : List ℕ → ℕ → ℕ → Maneuver
right name place speed = steady name place speed Right

-- five steps from the speed of a class to that of another
abbrev pub changing : List ℕ → ℕ → ℕ → ℕ → Change → Maneuver
changing name from to speed change =
    record {
      name = name;
      from = from;
      to = to;
      steps = map (changing_step speed change)
          (range_with_len 1 5);
    }

abbrev pub up : List ℕ → ℕ → ℕ → ℕ → Maneuver
up name from to speed = changing name from to speed Up

abbrev pub down : List ℕ → ℕ → ℕ → ℕ → Maneuver
down name from to speed = changing name from to speed Down

abbrev pub steady_maneuvers : List Maneuver
steady_maneuvers =
    keep (codes "keep_slow") 0 5000 ∷ left (codes "left_slow") 0 5000
    ∷ right (codes "right_slow") 0 5000
    ∷ keep (codes "keep_mid") 1 10000 ∷ left (codes "left_mid") 1 10000
    ∷ right (codes "right_mid") 1 10000
    ∷ keep (codes "keep_fast") 2 15000 ∷ left (codes "left_fast") 2 15000
    ∷ right (codes "right_fast") 2 15000 ∷ []

abbrev pub faster_maneuvers : List Maneuver
faster_maneuvers = up (codes "up_slow") 0 1 5000 ∷ up (codes "up_mid") 1 2 10000 ∷ []

abbrev pub slower_maneuvers : List Maneuver
slower_maneuvers = down (codes "down_mid") 1 0 10000 ∷ down (codes "down_fast") 2 1 15000 ∷ []

-- the maneuvers in their order
unfoldable pub maneuvers : List Maneuver
maneuvers = steady_maneuvers ++ (faster_maneuvers ++ slower_maneuvers)

-- a car of 4.5 m by 1.8 m, for thirty ticks
unfoldable pub lattice : Lattice
lattice =
    record {
      horizon = 30;
      length = pos 45000;
      width = pos 18000;
      tolerance = pos 0;
      classes = classes;
      maneuvers = maneuvers;
    }
