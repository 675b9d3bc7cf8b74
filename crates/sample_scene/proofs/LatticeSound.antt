-- The sample lattice is well formed, and a vehicle may start in it. What is asked of each step and each maneuver is put as a test, which is worked out.
use Rattle.std.proofs.Common.{◌≡◌, ◌≤◌, ◌^◌, Bool, true, List, length, refl, arith}
use Rattle.std.specs.Prelude.{pos, ◌&&◌, nat_le, nat_lt, unsigned_abs, count_by, IsSome}
use Rattle.std.specs.List.{list_all}
use Rattle.std.proofs.lemmas.Bool.{and_parts, leb-true, ltb-true}
use Rattle.std.proofs.lemmas.Int.{ints}
use Rattle.std.proofs.lemmas.List.Sums.{count_by-le-length}
use Rattle.preorder.specs.Name.{is_name}
use Rattle.maneuver_lattice.specs.Lattice.{class_at, ends_in, leads_from, IsClass, IsLatticeStep, IsManeuver, AreSteps, AreClasses, AreManeuvers, IsLattice}
use Rattle.maneuver_lattice.specs.Starts.{may_start, is_no_nearer, is_nearest, start_class}
use Rattle.maneuver_lattice.specs.declared.limits.TheConstants.{MAX_ANGLE, MAX_LENGTH, MAX_SPEED, MAX_STEPS}
use Rattle.maneuver_lattice.specs.declared.lattice.Class.{Class}
use Rattle.maneuver_lattice.specs.declared.lattice.LatticeStep.{LatticeStep}
use Rattle.maneuver_lattice.specs.declared.lattice.Maneuver.{Maneuver}
use Rattle.sample_scene.specs.Maneuvers.{classes, maneuvers, lattice}
use Rattle.sample_scene.proofs.Made.{each_passes}
use Rattle.sample_scene.proofs.Apart.{different_by_test}

abbrev is_class : Class → Bool
is_class c = is_name c.name && (nat_le (unsigned_abs c.heading) MAX_ANGLE && nat_le (unsigned_abs c.speed) MAX_SPEED)

class_by_test : (c : Class) → is_class c ≡ true → IsClass c
class_by_test c h =
    let a = and_parts (is_name c.name) (nat_le (unsigned_abs c.heading) MAX_ANGLE && nat_le (unsigned_abs c.speed) MAX_SPEED) h in
    let b = and_parts (nat_le (unsigned_abs c.heading) MAX_ANGLE) (nat_le (unsigned_abs c.speed) MAX_SPEED) a.1 in
    record { name = a.0; heading = leb-true _ _ b.0; speed = leb-true _ _ b.1 }

abbrev is_placed : LatticeStep → Bool
is_placed s = nat_le (unsigned_abs s.forward) MAX_LENGTH && (nat_le (unsigned_abs s.left) MAX_LENGTH && nat_le (unsigned_abs s.heading) MAX_ANGLE)

abbrev is_moved : LatticeStep → Bool
is_moved s = nat_le (unsigned_abs s.speed) MAX_SPEED && (nat_le (unsigned_abs s.accel) MAX_SPEED && nat_le (unsigned_abs s.turn) MAX_ANGLE)

abbrev is_step : LatticeStep → Bool
is_step s = is_placed s && is_moved s

step_by_test : (s : LatticeStep) → is_step s ≡ true → IsLatticeStep s
step_by_test s h =
    let a = and_parts (is_placed s) (is_moved s) h in
    let b = and_parts (nat_le (unsigned_abs s.forward) MAX_LENGTH) (nat_le (unsigned_abs s.left) MAX_LENGTH && nat_le (unsigned_abs s.heading) MAX_ANGLE) a.0 in
    let c = and_parts (nat_le (unsigned_abs s.left) MAX_LENGTH) (nat_le (unsigned_abs s.heading) MAX_ANGLE) b.1 in
    let d = and_parts (nat_le (unsigned_abs s.speed) MAX_SPEED) (nat_le (unsigned_abs s.accel) MAX_SPEED && nat_le (unsigned_abs s.turn) MAX_ANGLE) a.1 in
    let e = and_parts (nat_le (unsigned_abs s.accel) MAX_SPEED) (nat_le (unsigned_abs s.turn) MAX_ANGLE) d.1 in
    record { forward = leb-true _ _ b.0; left = leb-true _ _ c.0; heading = leb-true _ _ c.1; speed = leb-true _ _ d.0; accel = leb-true _ _ e.0; turn = leb-true _ _ e.1 }

abbrev are_steps : List LatticeStep → Bool
are_steps steps = nat_le 1 (length steps) && (nat_le (length steps) MAX_STEPS && list_all is_step steps)

steps_by_test : (steps : List LatticeStep) → are_steps steps ≡ true → AreSteps steps
steps_by_test steps h =
    let a = and_parts (nat_le 1 (length steps)) (nat_le (length steps) MAX_STEPS && list_all is_step steps) h in
    let b = and_parts (nat_le (length steps) MAX_STEPS) (list_all is_step steps) a.1 in
    record { some = leb-true _ _ a.0; few = leb-true _ _ b.0; each = each_passes is_step IsLatticeStep step_by_test steps b.1 }

abbrev is_between : List Class → Maneuver → Bool
is_between cs m = nat_lt m.from (length cs) && (nat_lt m.to (length cs) && ends_in m.steps (class_at cs m.to))

abbrev is_maneuver : List Class → Maneuver → Bool
is_maneuver cs m = is_name m.name && (are_steps m.steps && is_between cs m)

maneuver_by_test : (cs : List Class) (m : Maneuver) → is_maneuver cs m ≡ true → IsManeuver cs m
maneuver_by_test cs m h =
    let a = and_parts (is_name m.name) (are_steps m.steps && is_between cs m) h in
    let b = and_parts (are_steps m.steps) (is_between cs m) a.1 in
    let c = and_parts (nat_lt m.from (length cs)) (nat_lt m.to (length cs) && ends_in m.steps (class_at cs m.to)) b.1 in
    let d = and_parts (nat_lt m.to (length cs)) (ends_in m.steps (class_at cs m.to)) c.1 in
    record { name = a.0; from = ltb-true _ _ c.0; to = ltb-true _ _ d.0; steps = steps_by_test m.steps b.0; ends = d.1 }

classes_are_sound : AreClasses classes
unfolding is_name
classes_are_sound = record {
  few = omega arith;
  each = each_passes is_class IsClass class_by_test classes refl;
  different = different_by_test (λ (c : Class). c.name) classes refl;
}

maneuvers_are_sound : AreManeuvers classes maneuvers
unfolding is_name maneuvers
maneuvers_are_sound = record {
  few = omega arith;
  each = each_passes (is_maneuver classes) (IsManeuver classes) (maneuver_by_test classes) maneuvers refl;
  different = different_by_test (λ (m : Maneuver). m.name) maneuvers refl;
  few_from = λ class. let few : count_by (leads_from class) maneuvers ≤ length maneuvers = count_by-le-length (leads_from class) maneuvers in omega (arith, few);
}

pub lattice_is_sound : IsLattice lattice
unfolding lattice
lattice_is_sound = record {
  horizon = omega arith;
  length = record { least = omega (arith, ints); most = omega (arith, ints) };
  width = record { least = omega (arith, ints); most = omega (arith, ints) };
  tolerance = (omega (arith, ints), omega (arith, ints));
  classes = classes_are_sound;
  maneuvers = maneuvers_are_sound;
}

-- at 10 m/s
pub lattice_has_start : IsSome (start_class lattice (pos 10000))
unfolding lattice may_start is_no_nearer is_nearest start_class
lattice_has_start = refl
