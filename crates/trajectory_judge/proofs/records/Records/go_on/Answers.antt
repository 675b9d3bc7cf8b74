use Rattle.std.proofs.Common.{◌≡◌, ◌-◌, ◌<◌, Some, true, List, length, get_or, subst, rules, arith, refl}
use Rattle.std.specs.Prelude.{slice_get}
use Rattle.std.proofs.lemmas.Option.{slice_get_read}
use Rattle.trajectory_judge.specs.Records.{is_next, last_of}
use Rattle.trajectory_judge.specs.declared.limits.TheConstants.{MAX_RECORDED_STEPS}
use Rattle.trajectory_judge.specs.declared.records.Recording.{Recording}
use Rattle.trajectory_judge.proofs.Runs.{runs_longer}
use Rattle.trajectory_judge.proofs.records.Records.go_on.Goals as goal

pub returns-clause-sound : goal.returns-clause-sound
returns-clause-sound c m are recorded =
    let runs = c.args.self.now.runs in
    let run = c.at_mut-run.result.now in
    let next : is_next (last_of run.steps) c.args.step ≡ true = search rules in
    let few : length run.steps < MAX_RECORDED_STEPS = search rules in
    let here : slice_get runs (length runs - 1) ≡ Some run = slice_get_read runs (length runs) (length runs - 1) run refl (omega (arith, c.requires)) (subst (λ (xs : List Recording). run ≡ get_or runs (length xs - 1) run) c.as_slice.ensures c.at_mut-run.ensures.value) in
    rw (c.in_ok-push.ensures.ok, c.as_slice.ensures) (runs_longer m (length runs - 1) run c.args.step runs (omega (arith, c.requires)) here are recorded next few)
