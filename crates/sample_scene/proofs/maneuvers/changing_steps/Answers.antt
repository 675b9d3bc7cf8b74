use Rattle.std.proofs.Common.{◌≡◌, ◌++◌, ◌-◌, [], ◌∷◌, map, ap, ◌∙◌, arith}
use Rattle.std.specs.List.{range_with_len}
use Rattle.sample_scene.specs.Maneuvers.{changing_step}
use Rattle.sample_scene.proofs.Loops.{more_from_one}
use Rattle.sample_scene.proofs.maneuvers.changing_steps.Goals as goal

pub loop-number-preserved : goal.loop-number-preserved
loop-number-preserved c = record {
  steps = c.in_ok-push.ensures.ok ∙ (ap (λ p. c.loop-number.steps ++ p ∷ []) c.changing_step.ensures ∙ more_from_one (changing_step c.args.speed c.args.change) c.loop-number.steps c.loop-number.number c.loop-number.invariant.from_one c.loop-number.invariant.steps);
  from_one = omega arith;
}

pub returns : goal.returns
returns c =
    let all : c.loop-number.number ≡ 6 = omega arith in
    c.loop-number.invariant.steps ∙ ap (λ n. map (changing_step c.args.speed c.args.change) (range_with_len 1 (n - 1))) all
