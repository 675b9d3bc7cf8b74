use Rattle.std.proofs.lemmas.Result.{err_from_is_err_and}
use Rattle.command_outcome.proofs.HavingInputs.{nothing_yet, one_more, none_more}
use Rattle.command_outcome.proofs.Serving.{stops}
use Rattle.rulebook_commands.specs.Accept.{accept_inputs, accept_task}
use Rattle.rulebook_commands.proofs.Derivings.{accept_serves}
use Rattle.command_outcome.proofs.HavingInputs.{has_given}
use Rattle.rulebook_commands.proofs.derivations.accept_child.Goals as goal

pub returns-in_err-parent : goal.returns-in_err-parent
returns-in_err-parent g c =
    let p = err_from_is_err_and c.from_residual.result c.from_residual.ensures.1 in
    let inputs = accept_inputs c.args.parent.now c.args.child.now in
    rw (p.1, p.2) (stops (accept_task c.args.parent.now c.args.child.now) _ _ c.in_err-parent.field-0.0 (none_more (nothing_yet inputs _) _ c.in_err-parent.field-0.0 c.in_err-parent.ensures.loads))

pub returns-in_err-child : goal.returns-in_err-child
returns-in_err-child g c =
    let p = err_from_is_err_and c.from_residual-in_err-child.result c.from_residual-in_err-child.ensures.1 in
    let inputs = accept_inputs c.args.parent.now c.args.child.now in
    rw (p.1, p.2) (stops (accept_task c.args.parent.now c.args.child.now) _ _ c.in_err-child.field-0.0 (none_more (one_more (nothing_yet inputs _) c.in_ok-parent.ensures.loads) _ c.in_err-child.field-0.0 c.in_err-child.ensures.loads))

pub returns : goal.returns
returns g c =
    let inputs = accept_inputs c.args.parent.now c.args.child.now in
    let parent = c.in_ok-parent.parent in
    let child = c.in_ok-child.child in
    let had = (one_more (one_more (nothing_yet inputs _) c.in_ok-parent.ensures.loads) c.in_ok-child.ensures.loads).has _ (parent, child) (has_given (parent, child) _) in
    accept_serves c.args.parent.now c.args.child.now _ _ parent child had c.test_child.result c.test_child.ensures
