use Rattle.std.proofs.Common.{◌++◌, [], ◌∷◌, ap, ◌∙◌}
use Rattle.sample_scene.specs.Motorway.{pose}
use Rattle.sample_scene.proofs.Loops.{more_from_none}
use Rattle.sample_scene.proofs.cars.states.Goals as goal

pub loop-tick-preserved : goal.loop-tick-preserved
loop-tick-preserved c =
    c.in_ok-push.ensures.ok ∙ (ap (λ p. c.loop-tick.states ++ p ∷ []) c.pose.ensures ∙ more_from_none (pose c.args.course) c.loop-tick.states c.loop-tick.tick c.loop-tick.invariant)
