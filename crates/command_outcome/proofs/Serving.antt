-- What is due to a command that has its inputs, or can't have them.
use Rattle.std.proofs.Common.{◌≡◌, ℕ, List, Option, Some, Result, Ok, Err, IfSome, refl, sym, ◌∙◌, subst, arith}
use Rattle.std.specs.FinMap.{insert}
use Rattle.outside_io.specs.Outside.{Files, Rose, SavesPart}
use Rattle.command_outcome.specs.declared.outcome.Ending.{Ending}
use Rattle.command_outcome.specs.declared.outcome.Status.{Status}
use Rattle.command_outcome.specs.declared.outcome.Status.TheVariants as status
use Rattle.command_outcome.specs.declared.outcome.Stop.{Stop}
use Rattle.command_outcome.specs.declared.outcome.Stop.TheVariants as stop
use Rattle.command_outcome.specs.Outcome.{Outcome, EndsAs, status_of}
use Rattle.command_outcome.specs.Inputs.{Halt, refusal, gives}
use Rattle.command_outcome.specs.Tasks.{Task, Settles, IsDueTo}
use Rattle.command_outcome.specs.Ends.{Shelf, LoadingStops, Has, Saved, SavingStops, Settled, Stops}
use Rattle.command_outcome.proofs.Options.{map_some, join_some}
use Rattle.command_outcome.proofs.HavingInputs.{along}

abbrev pub outcome : Status → List ℕ → Files → Outcome
outcome status text files = record { status = status; text = text; files = files }

module _ (task : Task) where
  due_at : (files : Files) (r : Result task.Input Halt) (o : Outcome) → gives task.inputs files ≡ r → Settles r (task.Makes files) files o → IsDueTo task files o
  due_at files r o is h = subst (λ (q : Result task.Input Halt). Settles q (task.Makes files) files o) (sym is) h

  -- the inputs can't be had
  pub stops : (old new : Shelf) (end : Stop) → LoadingStops task.inputs old new end → Stops task old new end
  stops old new stop.NoMemory h = h
  stops old new (stop.Unread role) h = h
  stops old new (stop.Ended e text) h = subst (λ q. Settled task old new (status_of q) text.items) (sym h.0) (record {
    faults = h.1.faults;
    failed = h.1.failed;
    due = map_some old.held (λ files told is. (files, h.1.held ∙ told, due_at files (Err (refusal text.items)) (outcome status.Refused text.items files) is refl)) h.2;
  })
  stops old new stop.Unsaved h = absurd h

  module _ (old mid : Shelf) (x : task.Input) (had : Has task.inputs old mid x) where
    -- the work is done, or ends otherwise, and the files stay
    pub made : (s : Status) (text : List ℕ) → ((files : Files) → task.Makes files x (outcome s text files)) → Settled task old mid s text
    made s text makes = record {
      faults = had.stands.faults;
      failed = had.stands.failed;
      due = map_some old.held (λ files told is. (files, had.stands.held ∙ told, due_at files (Ok x) (outcome s text files) is (makes files))) had.gives;
    }

    pub ends : (e : Ending) (text : List ℕ) (end : Stop) → EndsAs e text end → ((files : Files) → task.Makes files x (outcome (status_of e) text files)) → Stops task old mid end
    ends e text stop.NoMemory h makes = had.stands
    ends e text (stop.Unread role) h makes = absurd h
    ends e text (stop.Ended f written) h makes = subst (λ q. Settled task old mid (status_of q) written.items) (sym h.0) (subst (λ t. Settled task old mid (status_of e) t) (sym h.1) (made (status_of e) text makes))
    ends e text stop.Unsaved h makes = absurd h

    module _ (name bytes text : List ℕ) (makes : (files : Files) → task.Makes files x (outcome status.Done text (insert files name bytes))) (new : Shelf) where
      -- what is made is saved
      pub saved : Saved name bytes mid new → Settled task old new status.Done text
      saved h = record {
        faults = h.faults ∙ had.stands.faults;
        failed = h.failed ∙ had.stands.failed;
        due = join_some old.held (λ files told is after. (insert files name bytes, after, due_at files (Ok x) (outcome status.Done text (insert files name bytes)) is (makes files))) had.gives
            (subst (λ (held : Option Files). IfSome held (λ files. new.held ≡ Some (insert files name bytes))) had.stands.held h.held);
      }

      pub saving_stops : (end : Stop) → task.saves ≡ Some name → SavingStops name bytes mid new end → Stops task old new end
      saving_stops stop.NoMemory named h = along old mid new had.stands h
      saving_stops (stop.Unread role) named h = absurd h
      saving_stops (stop.Ended e written) named h = absurd h
      saving_stops stop.Unsaved named h = record {
        name = name;
        saves = named;
        rose = subst (λ before. Rose before new.faults) had.stands.faults h.rose;
        failed = h.failed ∙ had.stands.failed;
        due = join_some old.held (λ files told is part. (text, bytes, due_at files (Ok x) (outcome status.Done text (insert files name bytes)) is (makes files), part)) had.gives
            (subst (λ (held : Option Files). IfSome held (λ files. SavesPart files new.held name bytes)) had.stands.held h.held);
      }
