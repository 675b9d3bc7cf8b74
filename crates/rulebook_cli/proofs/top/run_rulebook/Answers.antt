use Rattle.std.specs.Io.KnownBytes.{Appends}
use Rattle.command_outcome.specs.Ends.{shelf}
use Rattle.command_outcome.proofs.CallEnds.{ends}
use Rattle.command_outcome.specs.FileWords.{texts}
use Rattle.rulebook_cli.specs.Words.{HasNoReading}
use Rattle.rulebook_cli.specs.Asked.{asked}
use Rattle.check_command.proofs.CheckHeadline.{done_is_due}
use Rattle.rulebook_cli.proofs.Headlines.{check_prints, plan_prints}
use Rattle.rulebook_cli.proofs.top.run_rulebook.Goals as goal

pub returns : goal.returns
returns g c =
    let words = texts c.args.words.now in
    let old = shelf g.S.Store.held g.S.Store.faults g.S.Store.failed c.args.store.now in
    let new = shelf g.S.Store.held g.S.Store.faults g.S.Store.failed c.answer-reply.new.store in
    let written = Appends (g.K.Sink.written c.args.out.now) (g.K.Sink.written c.deliver.new.out) in
    let e = ends (asked words) (HasNoReading words) _ _ _ _ _ _ _ c.answer-reply.ensures c.deliver.ensures in
    record {
      due = e.due;
      plan = λ done. plan_prints words old new _ written done (e.due (done_is_due _ done));
      check = λ done. check_prints words old new _ written done (e.due (done_is_due _ done));
      read_fault = e.read_fault;
      write_fault = e.write_fault;
      no_memory = e.no_memory;
      no_fault = e.no_fault;
      complete = e.complete;
      usage = e.usage;
      bad_words = e.bad_words;
    }
