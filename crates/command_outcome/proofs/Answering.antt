-- What a command leaves is what the words come to.
use Rattle.std.proofs.Common.{◌≡◌, ℕ, List, Option, None, Some, Result, Vec, refl, sym, subst}
use Rattle.std.specs.declared.alloc.Global.{Global}
use Rattle.command_outcome.specs.declared.delivery.Reply.{Reply}
use Rattle.command_outcome.specs.declared.outcome.Stop.{Stop}
use Rattle.command_outcome.specs.declared.outcome.Status.TheVariants as status
use Rattle.command_outcome.specs.Outcome.{usage_text}
use Rattle.command_outcome.specs.Tasks.{Task, task_by}
use Rattle.command_outcome.specs.Ends.{Shelf, Serves, Answers, reply_of, reply_status, reply_text}
use Rattle.command_outcome.proofs.CallEnds.{answers, usage_answers}

module _ {R : Type 0} (task_of : R → Task) (read : Option R) where
  -- words that are a command
  pub command_answers : (request : R) (old new : Shelf) (end : Result (Vec ℕ Global) Stop) (told : Reply) → read ≡ Some request → Serves (task_of request) old new end → told ≡ reply_of end
      → Answers (task_by task_of read) (read ≡ None) old new (reply_status told) (reply_text told)
  command_answers request old new end told is serves same =
      subst (λ (r : Reply). Answers (task_by task_of read) (read ≡ None) old new (reply_status r) (reply_text r)) (sym same)
      (subst (λ (q : Option R). Answers (task_by task_of q) (q ≡ None) old new (reply_status (reply_of end)) (reply_text (reply_of end))) (sym is) (answers (Some request ≡ None) (task_of request) old new (λ e. cc) end serves))

  -- words that have no reading
  pub no_reading_answers : (old : Shelf) → read ≡ None → Answers (task_by task_of read) (read ≡ None) old old status.Usage usage_text
  no_reading_answers old none = subst (λ (q : Option R). Answers (task_by task_of q) (q ≡ None) old old status.Usage usage_text) (sym none) (usage_answers (None ≡ None) old refl)
