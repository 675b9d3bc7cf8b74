use Rattle.std.proofs.Common.{Option, subst}
use Rattle.std.specs.Io.KnownBytes.{Appends}
use Rattle.command_outcome.specs.Ends.{EndsDue, shelf}
use Rattle.command_outcome.specs.FileWords.{texts}
use Rattle.command_outcome.specs.Tasks.{task_by}
use Rattle.command_outcome.proofs.CallEnds.{ends}
use Rattle.check_command.specs.CheckWords.{CheckRequest, HasNoCheckReading, asked_to_check, check_task_of}
use Rattle.check_command.proofs.CheckHeadline.{accepts, done_is_due}
use Rattle.check_command.proofs.top.run_check.Goals as goal

pub returns : goal.returns
returns g c =
    let words = texts c.args.words.now in
    let old = shelf g.S.Store.held g.S.Store.faults g.S.Store.failed c.args.store.now in
    let new = shelf g.S.Store.held g.S.Store.faults g.S.Store.failed c.answer-reply.new.store in
    let written = Appends (g.K.Sink.written c.args.out.now) (g.K.Sink.written c.deliver.new.out) in
    let e = ends (asked_to_check words) (HasNoCheckReading words) _ _ _ _ _ _ _ c.answer-reply.ensures c.deliver.ensures in
    record {
      due = e.due;
      check = λ done scenario book lattice name is.
          accepts scenario book lattice name old new c.deliver.result written done
          (subst (λ (q : Option CheckRequest). EndsDue (task_by check_task_of q) old new c.deliver.result written) is (e.due (done_is_due c.deliver.result done)));
      read_fault = e.read_fault;
      write_fault = e.write_fault;
      no_memory = e.no_memory;
      no_fault = e.no_fault;
      complete = e.complete;
      usage = e.usage;
      bad_words = e.bad_words;
    }
