-- What a command leaves, its reply and what became of its text make the end of a call.
use Rattle.std.proofs.Common.{◌≡◌, ◌⊎◌, inl, inr, ℕ, List, Some, Result, Ok, Err, Vec, refl, sym, ap, subst}
use Rattle.std.specs.declared.alloc.Global.{Global}
use Rattle.std.specs.Io.KnownBytes.{Appends}
use Rattle.outside_io.specs.Outside.{Files, Rose, AppendsPrefix}
use Rattle.command_outcome.specs.declared.outcome.Ending.{Ending}
use Rattle.command_outcome.specs.declared.outcome.Ending.TheVariants as ending
use Rattle.command_outcome.specs.declared.outcome.Role.{Role}
use Rattle.command_outcome.specs.declared.outcome.Status.{Status}
use Rattle.command_outcome.specs.declared.outcome.Status.TheVariants as status
use Rattle.command_outcome.specs.declared.outcome.Stop.{Stop}
use Rattle.command_outcome.specs.declared.outcome.Stop.TheVariants as stop
use Rattle.command_outcome.specs.Outcome.{IsDueStatus, TellsNoFault, status_of, unread_text, usage_text}
use Rattle.command_outcome.specs.Tasks.{Task, IsDueTo, usage}
use Rattle.command_outcome.specs.Ends.{Shelf, Paper, Stands, Settled, SavesInVain, ReadsInVain, Serves, reply_of, reply_status, reply_text, Answers, Writes, Delivers, EndsDue, EndsUnread, EndsUnsaved, EndsCut, EndsUsage, IsComplete, LeavesAll, NoneFailed}
use Rattle.command_outcome.proofs.Options.{map_some, each_some}

module _ (NoReading : Type 0) where
  -- words that have no reading
  pub usage_answers : (old : Shelf) → NoReading → Answers usage NoReading old old status.Usage usage_text
  usage_answers old none = (none, refl, refl, settled)
    where
      settled : Settled usage old old status.Usage usage_text
      settled = record {
        faults = refl;
        failed = refl;
        due = each_some old.held (λ files. (after : Files) × (old.held ≡ Some after) × IsDueTo usage files (record { status = status.Usage; text = usage_text; files = after })) (λ files told. (files, told, refl));
      }

  module _ (task : Task) (old new : Shelf) (has : NoReading → ⊥) where
    ended : (e : Ending) (text : List ℕ) → Settled task old new (status_of e) text → Answers task NoReading old new (status_of e) text
    ended ending.Refused text h = (has, h)
    ended ending.Rejected text h = (has, h)
    ended ending.TooManyLabels text h = (has, h)

    -- words that are a command
    pub answers : (end : Result (Vec ℕ Global) Stop) → Serves task old new end → Answers task NoReading old new (reply_status (reply_of end)) (reply_text (reply_of end))
    answers (Ok done) h = (has, h)
    answers (Err stop.NoMemory) h = (has, h)
    answers (Err (stop.Unread role)) h = (has, role, h, refl)
    answers (Err (stop.Ended e end)) h = ended e end.items h
    answers (Err stop.Unsaved) h = (has, h)

-- how a call ends
pub record Ends (task : Task) (NoReading : Type 0) (old new : Shelf) (before after : Paper) (result : Status) : Type 0 where
  pub due : IsDueStatus result → EndsDue task old new result (Appends before.written after.written)
  pub read_fault : result ≡ status.ReadFault → EndsUnread task old new (Appends before.written after.written)
  pub write_fault : result ≡ status.WriteFault → EndsUnsaved task old new before after ⊎ EndsCut task old new before after
  pub no_memory : result ≡ status.NoMemory → LeavesAll old new before after
  pub no_fault : TellsNoFault result → NoneFailed old new before after
  pub complete : IsComplete task old new before after result
  pub usage : result ≡ status.Usage → NoReading
  pub bad_words : NoReading → EndsUsage old new before after result

module _ (task : Task) (NoReading : Type 0) (old new : Shelf) (before after : Paper) (text : List ℕ) (result : Status) where
  abbrev EndsSo : Status → Type 0
  EndsSo s = Ends task NoReading old new before after s

  -- what the status says of the words, where it is the due one
  abbrev OfWords : Status → Type 0
  OfWords s = (s ≡ status.Usage → NoReading) × (NoReading → (new ≡ old) × (s ≡ status.Usage) × (text ≡ usage_text))

  asked : (s : Status) → (s ≡ status.Usage → ⊥) → (NoReading → ⊥) → OfWords s
  asked s other has = (λ is. absurd (other is), λ none. absurd (has none))

  due_text : (s : Status) (Written : List ℕ → Type 0) → Settled task old new s text → Written text → EndsDue task old new s Written
  due_text s Written settled w = (settled.failed, map_some old.held (λ files told h. (text, h.0, h.2, h.1, w)) settled.due)

  written : (s : Status) → IsDueStatus s → Settled task old new s text → OfWords s → after.faults ≡ before.faults → Appends before.written after.written text → EndsSo s
  written s is settled of_words quiet appended = record {
    due = λ _. due_text s (Appends before.written after.written) settled appended;
    read_fault = λ e. absurd (subst IsDueStatus e is);
    write_fault = λ e. absurd (subst IsDueStatus e is);
    no_memory = λ e. absurd (subst IsDueStatus e is);
    no_fault = λ _. record { store = settled.faults; failed = settled.failed; sink = quiet };
    complete = λ _ _. inr (is, map_some old.held (λ files told h. (text, h.0, h.2)) settled.due);
    usage = of_words.0;
    bad_words = λ none. let words = of_words.1 none in (words.0, inl (words.1, quiet, subst (Appends before.written after.written) words.2 appended));
  }

  cut : (s : Status) → IsDueStatus s → Settled task old new s text → OfWords s → Rose before.faults after.faults → AppendsPrefix before.written after.written text → EndsSo status.WriteFault
  cut s is settled of_words rose front = record {
    due = λ never. absurd never;
    read_fault = λ e. cc;
    write_fault = λ _. inr (record { rose = rose; text = inl (s, is, due_text s (AppendsPrefix before.written after.written) settled front) });
    no_memory = λ e. cc;
    no_fault = λ told. absurd told;
    complete = λ _ still. absurd (still rose);
    usage = λ e. cc;
    bad_words = λ none. let words = of_words.1 none in (words.0, inr (refl, rose, subst (AppendsPrefix before.written after.written) words.2 front));
  }

  due_ends : (s : Status) → IsDueStatus s → Settled task old new s text → OfWords s → Writes s text before after result → EndsSo result
  due_ends s is settled of_words (inl w) = subst EndsSo (sym w.0) (written s is settled of_words w.1 w.2)
  due_ends s is settled of_words (inr w) = subst EndsSo (sym w.0) (cut s is settled of_words w.1 w.2)

  unread_ends : (NoReading → ⊥) → (role : Role) → ReadsInVain task.inputs old new role → text ≡ unread_text role → Writes status.ReadFault text before after result → EndsSo result
  unread_ends has role vain is (inl w) = subst EndsSo (sym w.0) (record {
    due = λ never. absurd never;
    read_fault = λ _. (role, vain, subst (Appends before.written after.written) is w.2);
    write_fault = λ e. cc;
    no_memory = λ e. cc;
    no_fault = λ told. absurd told;
    complete = λ still _. absurd (still vain.load.rose);
    usage = λ e. cc;
    bad_words = λ none. absurd (has none);
  })
  unread_ends has role vain is (inr w) = subst EndsSo (sym w.0) (record {
    due = λ never. absurd never;
    read_fault = λ e. cc;
    write_fault = λ _. inr (record { rose = w.1; text = inr (role, vain, subst (AppendsPrefix before.written after.written) is w.2) });
    no_memory = λ e. cc;
    no_fault = λ told. absurd told;
    complete = λ still _. absurd (still vain.load.rose);
    usage = λ e. cc;
    bad_words = λ none. absurd (has none);
  })

  unsaved_ends : (NoReading → ⊥) → SavesInVain task old new → after ≡ before → EndsSo status.WriteFault
  unsaved_ends has vain same = record {
    due = λ never. absurd never;
    read_fault = λ e. cc;
    write_fault = λ _. inl (vain, same);
    no_memory = λ e. cc;
    no_fault = λ told. absurd told;
    complete = λ still _. absurd (still vain.rose);
    usage = λ e. cc;
    bad_words = λ none. absurd (has none);
  }

  short_ends : (NoReading → ⊥) → Stands old new → after ≡ before → EndsSo status.NoMemory
  short_ends has stands same = record {
    due = λ never. absurd never;
    read_fault = λ e. cc;
    write_fault = λ e. cc;
    no_memory = λ _. record { held = stands.held; failed = stands.failed; written = ap (λ (p : Paper). p.written) same };
    no_fault = λ _. record { store = stands.faults; failed = stands.failed; sink = ap (λ (p : Paper). p.faults) same };
    complete = λ _ _. inl refl;
    usage = λ e. cc;
    bad_words = λ none. absurd (has none);
  }

  pub ends : (s : Status) → Answers task NoReading old new s text → Delivers s text before after result → EndsSo result
  ends status.Done a w = due_ends status.Done tt a.1 (asked status.Done (λ e. cc) a.0) w
  ends status.Refused a w = due_ends status.Refused tt a.1 (asked status.Refused (λ e. cc) a.0) w
  ends status.Rejected a w = due_ends status.Rejected tt a.1 (asked status.Rejected (λ e. cc) a.0) w
  ends status.TooManyLabels a w = due_ends status.TooManyLabels tt a.1 (asked status.TooManyLabels (λ e. cc) a.0) w
  ends status.Usage a w = due_ends status.Usage tt a.3 (λ _. a.0, λ none. (a.1, refl, a.2)) w
  ends status.ReadFault a w = unread_ends a.0 a.1 a.2 a.3 w
  ends status.WriteFault a w = subst EndsSo (sym w.0) (unsaved_ends a.0 a.1 w.1)
  ends status.NoMemory a w = subst EndsSo (sym w.0) (short_ends a.0 a.1 w.1)
