use Rattle.std.proofs.Common.{sym}
use Rattle.command_outcome.specs.Ends.{shelf}
use Rattle.command_outcome.specs.FileWords.{texts}
use Rattle.command_outcome.proofs.Answering.{command_answers, no_reading_answers}
use Rattle.rulebook_cli.specs.Asked.{task_of}
use Rattle.rulebook_cli.specs.Words.{reading, request_of}
use Rattle.rulebook_cli.proofs.top.answer.Goals as goal

pub returns-in_default : goal.returns-in_default
returns-in_default g c =
    no_reading_answers task_of (reading (texts c.args.words.now)) (shelf g.S.Store.held g.S.Store.faults g.S.Store.failed c.args.store.now) (sym c.in_default.ensures.request)

pub returns : goal.returns
returns g c =
    command_answers task_of (reading (texts c.args.words.now)) (request_of c.in-Some.command) (shelf g.S.Store.held g.S.Store.faults g.S.Store.failed c.args.store.now)
    (shelf g.S.Store.held g.S.Store.faults g.S.Store.failed c.serve.new.store) c.serve.result c.to.result (sym c.in-Some.ensures.request) c.serve.ensures c.to.ensures
