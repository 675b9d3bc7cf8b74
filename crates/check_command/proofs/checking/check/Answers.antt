use Rattle.std.proofs.lemmas.Result.{err_from_is_err_and}
use Rattle.command_outcome.proofs.HavingInputs.{nothing_yet, one_more, none_more}
use Rattle.command_outcome.proofs.Serving.{stops}
use Rattle.check_command.specs.Check.{check_inputs, check_task}
use Rattle.check_command.proofs.Checks.{checks_serve}
use Rattle.command_outcome.proofs.HavingInputs.{has_given}
use Rattle.check_command.proofs.checking.check.Goals as goal

pub returns-in_err-files : goal.returns-in_err-files
returns-in_err-files g c =
    let p = err_from_is_err_and c.from_residual.result c.from_residual.ensures.1 in
    let inputs = check_inputs c.args.scenario.now c.args.book.now c.args.lattice.now c.args.certificate.now in
    rw (p.1, p.2) (stops (check_task c.args.scenario.now c.args.book.now c.args.lattice.now c.args.certificate.now) _ _ c.in_err-files.field-0.0
    (none_more (nothing_yet inputs _) _ c.in_err-files.field-0.0 c.in_err-files.ensures.loads))

pub returns-in_err-certificate : goal.returns-in_err-certificate
returns-in_err-certificate g c =
    let p = err_from_is_err_and c.from_residual-in_err-certificate.result c.from_residual-in_err-certificate.ensures.1 in
    let inputs = check_inputs c.args.scenario.now c.args.book.now c.args.lattice.now c.args.certificate.now in
    rw (p.1, p.2) (stops (check_task c.args.scenario.now c.args.book.now c.args.lattice.now c.args.certificate.now) _ _ c.in_err-certificate.field-0.0
    (none_more (one_more (nothing_yet inputs _) c.in_ok-files.ensures.loads) _ c.in_err-certificate.field-0.0 c.in_err-certificate.ensures.loads))

pub returns-in_err-scene : goal.returns-in_err-scene
returns-in_err-scene g c =
    let p = err_from_is_err_and c.from_residual-in_err-scene.result c.from_residual-in_err-scene.ensures.1 in
    let inputs = check_inputs c.args.scenario.now c.args.book.now c.args.lattice.now c.args.certificate.now in
    rw (p.1, p.2) (stops (check_task c.args.scenario.now c.args.book.now c.args.lattice.now c.args.certificate.now) _ _ c.in_err-scene.field-0.0
    (none_more (one_more (one_more (nothing_yet inputs _) c.in_ok-files.ensures.loads) c.in_ok-certificate.ensures.loads) _ c.in_err-scene.field-0.0 (c.in_err-scene.ensures.loads _)))

pub returns : goal.returns
returns g c =
    let inputs = check_inputs c.args.scenario.now c.args.book.now c.args.lattice.now c.args.certificate.now in
    let files = c.in_ok-scene.scene.files in
    let certificate = c.in_ok-certificate.certificate in
    let had = (one_more (one_more (one_more (nothing_yet inputs _) c.in_ok-files.ensures.loads) c.in_ok-certificate.ensures.loads) (c.in_ok-scene.ensures.loads _)).has _ (files, certificate) (has_given (files, certificate) _) in
    checks_serve c.args.scenario.now c.args.book.now c.args.lattice.now c.args.certificate.now _ _ files certificate had c.check_scene.result c.check_scene.ensures
