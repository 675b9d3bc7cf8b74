use Rattle.std.proofs.Common.{◌∙◌}
use Rattle.std.proofs.lemmas.Result.{err_from_is_err_and}
use Rattle.command_outcome.proofs.HavingInputs.{nothing_yet, one_more, none_more, unchanged}
use Rattle.command_outcome.proofs.Serving.{stops}
use Rattle.command_outcome.specs.declared.outcome.Stop.TheVariants as stop
use Rattle.rulebook_commands.specs.Judge.{judge_inputs, judge_task}
use Rattle.rulebook_commands.proofs.Recorded.{judge_serves}
use Rattle.rulebook_commands.proofs.recordings.judge_records.Goals as goal

pub returns-in_err-files : goal.returns-in_err-files
returns-in_err-files g c =
    let p = err_from_is_err_and c.from_residual.result c.from_residual.ensures.1 in
    let inputs = judge_inputs c.args.scenario.now c.args.book.now c.args.lattice.now c.args.records.now in
    rw (p.1, p.2) (stops (judge_task c.args.scenario.now c.args.book.now c.args.lattice.now c.args.records.now) _ _ c.in_err-files.field-0.0
    (none_more (nothing_yet inputs _) _ c.in_err-files.field-0.0 c.in_err-files.ensures.loads))

pub returns-in_err-records : goal.returns-in_err-records
returns-in_err-records g c =
    let p = err_from_is_err_and c.from_residual-in_err-records.result c.from_residual-in_err-records.ensures.1 in
    let inputs = judge_inputs c.args.scenario.now c.args.book.now c.args.lattice.now c.args.records.now in
    let same = c.as_slice.ensures ∙ c.in_ok-names.ensures in
    let loads = rw same at c.in_err-records.ensures.loads in
    rw (p.1, p.2) (stops (judge_task c.args.scenario.now c.args.book.now c.args.lattice.now c.args.records.now) _ _ c.in_err-records.field-0.0
    (none_more (one_more (nothing_yet inputs _) c.in_ok-files.ensures.loads) _ c.in_err-records.field-0.0 loads))

pub returns : goal.returns
returns g c =
    let inputs = judge_inputs c.args.scenario.now c.args.book.now c.args.lattice.now c.args.records.now in
    let same = c.as_slice.ensures ∙ c.in_ok-names.ensures in
    let had = rw same at c.in_ok-records.ensures.loads in
    let so_far = one_more (one_more (nothing_yet inputs _) c.in_ok-files.ensures.loads) had in
    let stands = (so_far.stops _ stop.NoMemory (unchanged _)) in
    judge_serves c.args.scenario.now c.args.book.now c.args.lattice.now c.args.records.now _ _ c.in_ok-files.files c.in_ok-records.records so_far stands c.judge_files.result c.judge_files.ensures
