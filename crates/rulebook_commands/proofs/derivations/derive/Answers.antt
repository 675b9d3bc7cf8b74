use Rattle.std.proofs.lemmas.Result.{err_from_is_err_and}
use Rattle.command_outcome.proofs.HavingInputs.{nothing_yet, one_more, none_more}
use Rattle.command_outcome.proofs.Serving.{stops}
use Rattle.rulebook_commands.specs.Derive.{derive_inputs, derive_task}
use Rattle.rulebook_commands.proofs.Derivings.{derive_serves}
use Rattle.command_outcome.proofs.HavingInputs.{has_given}
use Rattle.rulebook_commands.proofs.derivations.derive.Goals as goal

pub returns-in_err-parent : goal.returns-in_err-parent
returns-in_err-parent g c =
    let p = err_from_is_err_and c.from_residual.result c.from_residual.ensures.1 in
    let inputs = derive_inputs c.args.parent.now c.args.script.now in
    rw (p.1, p.2) (stops (derive_task c.args.parent.now c.args.script.now) _ _ c.in_err-parent.field-0.0 (none_more (nothing_yet inputs _) _ c.in_err-parent.field-0.0 c.in_err-parent.ensures.loads))

pub returns-in_err-script : goal.returns-in_err-script
returns-in_err-script g c =
    let p = err_from_is_err_and c.from_residual-in_err-script.result c.from_residual-in_err-script.ensures.1 in
    let inputs = derive_inputs c.args.parent.now c.args.script.now in
    rw (p.1, p.2) (stops (derive_task c.args.parent.now c.args.script.now) _ _ c.in_err-script.field-0.0 (none_more (one_more (nothing_yet inputs _) c.in_ok-parent.ensures.loads) _ c.in_err-script.field-0.0 c.in_err-script.ensures))

pub returns : goal.returns
returns g c =
    let inputs = derive_inputs c.args.parent.now c.args.script.now in
    let parent = c.in_ok-parent.parent in
    let script = c.in_ok-script.script.items in
    let had = (one_more (one_more (nothing_yet inputs _) c.in_ok-parent.ensures.loads) c.in_ok-script.ensures).has _ (parent, script) (has_given (parent, script) _) in
    derive_serves c.args.parent.now c.args.script.now _ _ parent script had c.derived_text.result (rw c.deref.ensures.value at c.derived_text.ensures)
