use Rattle.std.proofs.lemmas.Result.{err_from_is_err_and}
use Rattle.command_outcome.proofs.HavingInputs.{nothing_yet, one_more, none_more}
use Rattle.command_outcome.proofs.Serving.{stops}
use Rattle.rulebook_commands.specs.Plan.{plan_inputs, plan_task}
use Rattle.rulebook_commands.proofs.Planned.{plan_saved, plan_stops, plan_unsaved}
use Rattle.rulebook_commands.proofs.planning.plan.Goals as goal

pub returns-in_err-files : goal.returns-in_err-files
returns-in_err-files g c =
    let p = err_from_is_err_and c.from_residual.result c.from_residual.ensures.1 in
    let inputs = plan_inputs c.args.scenario.now c.args.book.now c.args.lattice.now in
    rw (p.1, p.2) (stops (plan_task c.args.scenario.now c.args.book.now c.args.lattice.now c.args.certificate.now) _ _ c.in_err-files.field-0.0
    (none_more (nothing_yet inputs _) _ c.in_err-files.field-0.0 c.in_err-files.ensures.loads))

pub returns-in_err-scene : goal.returns-in_err-scene
returns-in_err-scene g c =
    let p = err_from_is_err_and c.from_residual-in_err-scene.result c.from_residual-in_err-scene.ensures.1 in
    let inputs = plan_inputs c.args.scenario.now c.args.book.now c.args.lattice.now in
    rw (p.1, p.2) (stops (plan_task c.args.scenario.now c.args.book.now c.args.lattice.now c.args.certificate.now) _ _ c.in_err-scene.field-0.0
    ((one_more (nothing_yet inputs _) c.in_ok-files.ensures.loads).stops _ c.in_err-scene.field-0.0 (c.in_err-scene.ensures.loads _)))

pub returns-in_err-planned : goal.returns-in_err-planned
returns-in_err-planned g c =
    let p = err_from_is_err_and c.from_residual-in_err-planned.result c.from_residual-in_err-planned.ensures.1 in
    let inputs = plan_inputs c.args.scenario.now c.args.book.now c.args.lattice.now in
    let had = (one_more (nothing_yet inputs _) c.in_ok-files.ensures.loads).has _ c.in_ok-scene.scene.files (c.in_ok-scene.ensures.loads _) in
    rw (p.1, p.2) (plan_stops c.args.scenario.now c.args.book.now c.args.lattice.now c.args.certificate.now _ _ c.in_ok-scene.scene.files had c.in_err-planned.field-0.0 c.in_err-planned.ensures)

pub returns-in_err-save_bytes : goal.returns-in_err-save_bytes
returns-in_err-save_bytes g c =
    let p = err_from_is_err_and c.from_residual-in_err-save_bytes.result c.from_residual-in_err-save_bytes.ensures.1 in
    let inputs = plan_inputs c.args.scenario.now c.args.book.now c.args.lattice.now in
    let had = (one_more (nothing_yet inputs _) c.in_ok-files.ensures.loads).has _ c.in_ok-scene.scene.files (c.in_ok-scene.ensures.loads _) in
    let planned = c.in_ok-planned.planned in
    let stops_by = rw c.as_slice.ensures.value at c.in_err-save_bytes.ensures in
    rw (p.1, p.2) (plan_unsaved c.args.scenario.now c.args.book.now c.args.lattice.now c.args.certificate.now _ _ c.in_ok-scene.scene.files had planned.text.items planned.certificate.items c.in_ok-planned.ensures _ c.in_err-save_bytes.field-0.0 stops_by)

pub returns : goal.returns
returns g c =
    let inputs = plan_inputs c.args.scenario.now c.args.book.now c.args.lattice.now in
    let had = (one_more (nothing_yet inputs _) c.in_ok-files.ensures.loads).has _ c.in_ok-scene.scene.files (c.in_ok-scene.ensures.loads _) in
    let planned = c.in_ok-planned.planned in
    let saved_by = rw c.as_slice.ensures.value at c.in_ok-save_bytes.ensures in
    plan_saved c.args.scenario.now c.args.book.now c.args.lattice.now c.args.certificate.now _ _ c.in_ok-scene.scene.files had planned.text.items planned.certificate.items c.in_ok-planned.ensures _ saved_by
