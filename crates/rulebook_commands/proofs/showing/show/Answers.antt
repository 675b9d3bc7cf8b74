use Rattle.std.proofs.Common.{◌≡◌, ap}
use Rattle.std.proofs.lemmas.Result.{err_from_is_err_and}
use Rattle.command_outcome.specs.declared.outcome.Status.TheVariants as status
use Rattle.command_outcome.proofs.Serving.{made, outcome, stops}
use Rattle.rulebook_commands.specs.Show.{show_task, show_text}
use Rattle.rulebook_commands.proofs.showing.show.Goals as goal

pub returns-in_err-scenario : goal.returns-in_err-scenario
returns-in_err-scenario g c =
    let p = err_from_is_err_and c.from_residual.result c.from_residual.ensures.1 in
    rw (p.1, p.2) (stops (show_task c.args.scenario.now) _ _ c.in_err-scenario.field-0.0 c.in_err-scenario.ensures.loads)

pub returns : goal.returns
returns g c =
    let says : c.into_bytes.result.items ≡ show_text c.in_ok-scenario.scenario = rw c.into_bytes.ensures.value c.in_ok-text.ensures in
    made (show_task c.args.scenario.now) _ _ c.in_ok-scenario.scenario c.in_ok-scenario.ensures.loads status.Done c.into_bytes.result.items (λ files. ap (λ text. outcome status.Done text files) says)
