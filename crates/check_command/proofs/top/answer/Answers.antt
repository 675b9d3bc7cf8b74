use Rattle.std.proofs.Common.{sym}
use Rattle.command_outcome.specs.Ends.{shelf}
use Rattle.command_outcome.specs.FileWords.{texts}
use Rattle.command_outcome.proofs.Answering.{command_answers, no_reading_answers}
use Rattle.check_command.specs.CheckWords.{check_reading, check_request_of, check_task_of}
use Rattle.check_command.proofs.top.answer.Goals as goal

pub returns-in_default : goal.returns-in_default
returns-in_default g c =
    no_reading_answers check_task_of (check_reading (texts c.args.words.now)) (shelf g.S.Store.held g.S.Store.faults g.S.Store.failed c.args.store.now) (sym c.in_default.ensures)

pub returns : goal.returns
returns g c =
    command_answers check_task_of (check_reading (texts c.args.words.now)) (check_request_of c.in-Some.command) (shelf g.S.Store.held g.S.Store.faults g.S.Store.failed c.args.store.now)
    (shelf g.S.Store.held g.S.Store.faults g.S.Store.failed c.serve.new.store) c.serve.result c.to.result (sym c.in-Some.ensures) c.serve.ensures c.to.ensures
