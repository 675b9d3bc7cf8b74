use Rattle.std.proofs.Common.{◌≡◌, ◌++◌, ◌+◌, [], ◌∷◌, refl, ap, ◌∙◌}
use Rattle.sample_scene.specs.Draws.{state_after}
use Rattle.sample_scene.specs.Motorway.{car, drawn_car, drawn_course}
use Rattle.sample_scene.proofs.Loops.{more_from_none}
use Rattle.sample_scene.proofs.cars.cars.Goals as goal

pub loop-place-init : goal.loop-place-init
unfolding state_after
loop-place-init c = record { cars = c.new-cars.ensures; draws = refl }

pub loop-place-preserved : goal.loop-place-preserved
loop-place-preserved c =
    let i = c.loop-place.place in
    let driven : c.drawn_course-course.result ≡ drawn_course c.args.number i = c.drawn_course-course.ensures.course c.args.number i c.loop-place.invariant.draws in
    let same : car (100 + c.from.result) c.drawn_course-course.result ≡ drawn_car c.args.number i = λ k. car (100 + c.from.ensures k) (driven k) in
    record {
      cars = c.in_ok-push.ensures.ok ∙ (ap (λ p. c.loop-place.cars ++ p ∷ []) (c.in_ok-car.ensures ∙ same) ∙ more_from_none (drawn_car c.args.number) c.loop-place.cars i c.loop-place.invariant.cars);
      draws = c.drawn_course-course.ensures.draws c.args.number i c.loop-place.invariant.draws;
    }
