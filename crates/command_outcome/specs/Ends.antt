-- What a call leaves, by its status. This project's own.
use Rattle.std.specs.Prelude.{◌≡◌, ◌⊎◌, ℕ, ◌≤◌, ◌<◌, List, [], ◌∷◌, ◌++◌, length, Option, Some}
use Rattle.std.specs.Prelude.{Result, Ok, Err, IfSome, IsSomeAnd, Vec, codes, ⊤}
use Rattle.std.specs.FinMap.{get, insert}
use Rattle.std.specs.declared.alloc.Global.{Global}
use Rattle.std.specs.Io.KnownBytes.{Appends}
use Rattle.outside_io.specs.declared.TheConstants.{MAX_FILE}
use Rattle.outside_io.specs.Outside.{Files, Rose, AppendsPrefix, SavesPart}
use Rattle.command_outcome.specs.declared.delivery.Reply.{Reply}
use Rattle.command_outcome.specs.declared.delivery.Reply.TheVariants as reply
use Rattle.command_outcome.specs.declared.outcome.Ending.TheVariants as ending
use Rattle.command_outcome.specs.declared.outcome.Role.{Role}
use Rattle.command_outcome.specs.declared.outcome.Status.{Status}
use Rattle.command_outcome.specs.declared.outcome.Status.TheVariants as status
use Rattle.command_outcome.specs.declared.outcome.Stop.{Stop}
use Rattle.command_outcome.specs.declared.outcome.Stop.TheVariants as stop
use Rattle.command_outcome.specs.Outcome.{IsDueStatus, status_of, refused_text, unread_text}
use Rattle.command_outcome.specs.Outcome.{usage_text}
use Rattle.command_outcome.specs.Inputs.{refusal, Inputs, gives, in_role, Reaches}
use Rattle.command_outcome.specs.Tasks.{Task, IsDueTo}

-- what a store tells at a moment
pub record Shelf : Type 0 where
  pub held : Option Files
  pub faults : ℕ
  pub failed : List (List ℕ)

abbrev pub shelf : {S : Type 0} → (S → Option Files) → (S → ℕ) → (S → List (List ℕ)) → S → Shelf
shelf held faults failed store =
    record { held = held store; faults = faults store; failed = failed store }

-- what a sink tells at a moment
pub record Paper : Type 0 where
  pub written : Option (List ℕ)
  pub faults : ℕ

abbrev pub paper : {K : Type 0} → (K → Option (List ℕ)) → (K → ℕ) → K → Paper
paper written faults sink = record { written = written sink; faults = faults sink }

-- nothing failed, and the files stand as they were
pub record Stands (old new : Shelf) : Type 0 where
  pub held : new.held ≡ old.held
  pub faults : new.faults ≡ old.faults
  pub failed : new.failed ≡ old.failed

-- the load of this name failed, and the files stand as they were
pub record LoadFailed (old new : Shelf) (name : List ℕ) : Type 0 where
  pub held : new.held ≡ old.held
  pub rose : Rose old.faults new.faults
  pub failed : new.failed ≡ old.failed ++ name ∷ []

-- the name holds the bytes, and nothing else is changed
pub record Saved (name bytes : List ℕ) (old new : Shelf) : Type 0 where
  pub faults : new.faults ≡ old.faults
  pub failed : new.failed ≡ old.failed
  pub held : IfSome old.held (λ files. new.held ≡ Some (insert files name bytes))

-- the save of these bytes failed: the name holds a front of them or what it held, and nothing else
-- is changed
pub record SaveFailed (name bytes : List ℕ) (old new : Shelf) : Type 0 where
  pub rose : Rose old.faults new.faults
  pub failed : new.failed ≡ old.failed
  pub held : IfSome old.held (λ files. SavesPart files new.held name bytes)

-- a file that is reached for these inputs, in this role, couldn't be read
pub record ReadsInVain {A : Type 0} (inputs : Inputs A) (old new : Shelf)
    (role : Role) : Type 0 where
  pub name : List ℕ
  pub reached : Reaches inputs old.held role name
  pub load : LoadFailed old new name

-- what loading the bytes of one file leaves
abbrev pub LoadsBytes : Role → List ℕ → Shelf → Shelf → Result (Vec ℕ Global) Stop → Type 0
LoadsBytes role name old new (Ok bytes) =
    Stands old new × (length bytes.items ≤ MAX_FILE)
    × IfSome old.held (λ files. get files name ≡ Some bytes.items)
LoadsBytes role name old new (Err stop.NoMemory) = Stands old new
LoadsBytes role name old new (Err (stop.Unread r)) = LoadFailed old new name × (r ≡ role)
LoadsBytes role name old new (Err (stop.Ended e text)) =
    (e ≡ ending.Refused) × Stands old new × (text.items ≡ refused_text role (codes "too-long"))
    × IfSome old.held (λ files. IsSomeAnd (get files name) (λ bytes. MAX_FILE < length bytes))
LoadsBytes role name old new (Err stop.Unsaved) = ⊥

-- what a call leaves that can't have these inputs
abbrev pub LoadingStops : {A : Type 0} → Inputs A → Shelf → Shelf → Stop → Type 0
LoadingStops inputs old new stop.NoMemory = Stands old new
LoadingStops inputs old new (stop.Unread role) = ReadsInVain inputs old new role
LoadingStops inputs old new (stop.Ended e text) =
    (e ≡ ending.Refused) × Stands old new × IfSome old.held
    (λ files. gives inputs files ≡ Err (refusal text.items))
LoadingStops inputs old new stop.Unsaved = ⊥

-- what a call leaves that has them
pub record Has {A : Type 0} (inputs : Inputs A) (old new : Shelf) (x : A) : Type 0 where
  pub stands : Stands old new
  pub gives : IfSome old.held (λ files. gives inputs files ≡ Ok x)

-- what loading and reading these inputs leaves, where `view` is how contracts see them
abbrev pub Loads : {X A : Type 0} → (X → A) → Inputs A → Shelf → Shelf → Result X Stop → Type 0
Loads view inputs old new (Ok x) = Has inputs old new (view x)
Loads view inputs old new (Err end) = LoadingStops inputs old new end

-- what a test answers that isn't passed
abbrev pub TestStops : {A : Type 0} → Role → Result A (Option (List ℕ)) → Stop → Type 0
TestStops role told stop.NoMemory = ⊤
TestStops role told (stop.Ended e text) =
    (e ≡ ending.Refused) × (in_role role told ≡ Err (refusal text.items))
TestStops role told (stop.Unread r) = ⊥
TestStops role told stop.Unsaved = ⊥

-- what a test of what was read answers: what it tells, or the refusal in the role, or want of
-- memory
abbrev pub Tests : {X A : Type 0} → (X → A) → Role → Result A (Option (List ℕ)) → Result X Stop
    → Type 0
Tests view role told (Ok x) = told ≡ Ok (view x)
Tests view role told (Err end) = TestStops role told end

-- what a save leaves that isn't done
abbrev pub SavingStops : List ℕ → List ℕ → Shelf → Shelf → Stop → Type 0
SavingStops name bytes old new stop.NoMemory = Stands old new
SavingStops name bytes old new stop.Unsaved = SaveFailed name bytes old new
SavingStops name bytes old new (stop.Unread role) = ⊥
SavingStops name bytes old new (stop.Ended e text) = ⊥

-- what saving these bytes leaves
abbrev pub Saves : {X : Type 0} → List ℕ → List ℕ → Shelf → Shelf → Result X Stop → Type 0
Saves name bytes old new (Ok _) = Saved name bytes old new
Saves name bytes old new (Err end) = SavingStops name bytes old new end

-- the outcome with this status and text is due, and the files are as it says
pub record Settled (task : Task) (old new : Shelf) (status : Status) (text : List ℕ) : Type 0 where
  pub faults : new.faults ≡ old.faults
  pub failed : new.failed ≡ old.failed
  pub due : IfSome old.held (λ files. (after : Files) × (new.held ≡ Some after)
      × IsDueTo task files (record { status = status; text = text; files = after }))

-- the save of what the task's work saves failed
pub record SavesInVain (task : Task) (old new : Shelf) : Type 0 where
  pub name : List ℕ
  pub saves : task.saves ≡ Some name
  pub rose : Rose old.faults new.faults
  pub failed : new.failed ≡ old.failed
  pub due : IfSome old.held (λ files. (text : List ℕ) × (bytes : List ℕ)
      × IsDueTo task files (record {
        status = status.Done;
        text = text;
        files = insert files name bytes;
      }) × SavesPart files new.held name bytes)

-- what a command leaves whose work isn't done
abbrev pub Stops : Task → Shelf → Shelf → Stop → Type 0
Stops task old new stop.NoMemory = Stands old new
Stops task old new (stop.Unread role) = ReadsInVain task.inputs old new role
Stops task old new (stop.Ended e text) = Settled task old new (status_of e) text.items
Stops task old new stop.Unsaved = SavesInVain task old new

-- what a command leaves before anything is written
abbrev pub Serves : Task → Shelf → Shelf → Result (Vec ℕ Global) Stop → Type 0
Serves task old new (Ok text) = Settled task old new status.Done text.items
Serves task old new (Err end) = Stops task old new end

-- the reply that a command's end comes to
abbrev pub reply_of : Result (Vec ℕ Global) Stop → Reply
reply_of (Ok text) = reply.Done text
reply_of (Err end) = reply.Stopped end

-- a reply's status
abbrev pub reply_status : Reply → Status
reply_status (reply.Done text) = status.Done
reply_status (reply.Stopped (stop.Ended e text)) = status_of e
reply_status (reply.Stopped (stop.Unread role)) = status.ReadFault
reply_status (reply.Stopped stop.Unsaved) = status.WriteFault
reply_status (reply.Stopped stop.NoMemory) = status.NoMemory
reply_status reply.Usage = status.Usage

-- a reply's text: none where memory ran out or a save failed
abbrev pub reply_text : Reply → List ℕ
reply_text (reply.Done text) = text.items
reply_text (reply.Stopped (stop.Ended e text)) = text.items
reply_text (reply.Stopped (stop.Unread role)) = unread_text role
reply_text (reply.Stopped stop.Unsaved) = []
reply_text (reply.Stopped stop.NoMemory) = []
reply_text reply.Usage = usage_text

-- what the words come to before anything is written; NoReading says that they have no reading
abbrev pub Answers : Task → Type 0 → Shelf → Shelf → Status → List ℕ → Type 0
Answers task NoReading old new status.ReadFault text =
    (NoReading → ⊥) × (role : Role) × ReadsInVain task.inputs old new role
    × (text ≡ unread_text role)
Answers task NoReading old new status.WriteFault text = (NoReading → ⊥) × SavesInVain task old new
Answers task NoReading old new status.NoMemory text = (NoReading → ⊥) × Stands old new
Answers task NoReading old new status.Usage text =
    NoReading × (new ≡ old) × (text ≡ usage_text) × Settled task old new status.Usage text
Answers task NoReading old new s text = (NoReading → ⊥) × Settled task old new s text

-- the text was written, or the sink failed on it
abbrev pub Writes : Status → List ℕ → Paper → Paper → Status → Type 0
Writes s text old new result =
    ((result ≡ s) × (new.faults ≡ old.faults) × Appends old.written new.written text)
    ⊎ ((result ≡ status.WriteFault) × Rose old.faults new.faults
    × AppendsPrefix old.written new.written text)

-- what is written for a reply: nothing where memory ran out or a save failed
abbrev pub Delivers : Status → List ℕ → Paper → Paper → Status → Type 0
Delivers status.NoMemory text old new result = (result ≡ status.NoMemory) × (new ≡ old)
Delivers status.WriteFault text old new result = (result ≡ status.WriteFault) × (new ≡ old)
Delivers s text old new result = Writes s text old new result

-- An outcome of this status is due whose text has Written. No load failed, and the files are as the
-- outcome says.
abbrev pub EndsDue : Task → Shelf → Shelf → Status → (List ℕ → Type 0) → Type 0
EndsDue task old new s Written =
    (new.failed ≡ old.failed) × IfSome old.held (λ files. (text : List ℕ) × (after : Files)
    × IsDueTo task files (record { status = s; text = text; files = after })
    × (new.held ≡ Some after) × Written text)

-- A file that is reached couldn't be read, and the text that says which has Written.
abbrev pub EndsUnread : Task → Shelf → Shelf → (List ℕ → Type 0) → Type 0
EndsUnread task old new Written =
    (role : Role) × ReadsInVain task.inputs old new role × Written (unread_text role)

-- the save failed, and nothing was written
abbrev pub EndsUnsaved : Task → Shelf → Shelf → Paper → Paper → Type 0
EndsUnsaved task old new before after = SavesInVain task old new × (after ≡ before)

-- the sink failed on a due text, or on the text that says which file couldn't be read; a front of
-- it was written
pub record EndsCut (task : Task) (old new : Shelf) (before after : Paper) : Type 0 where
  pub rose : Rose before.faults after.faults
  pub text : ((s : Status) × IsDueStatus s × EndsDue task old new s
      (AppendsPrefix before.written after.written))
      ⊎ EndsUnread task old new (AppendsPrefix before.written after.written)

-- where no count rose, the status is due or memory ran out
abbrev pub IsComplete : Task → Shelf → Shelf → Paper → Paper → Status → Type 0
IsComplete task old new before after result =
    (Rose old.faults new.faults → ⊥) → (Rose before.faults after.faults → ⊥)
    → (result ≡ status.NoMemory) ⊎ (IsDueStatus result
    × IfSome old.held (λ files. (text : List ℕ) × (left : Files)
    × IsDueTo task files (record { status = result; text = text; files = left })))

-- no count of faults rose, and no name joined those whose load failed
pub record NoneFailed (old new : Shelf) (before after : Paper) : Type 0 where
  pub store : new.faults ≡ old.faults
  pub failed : new.failed ≡ old.failed
  pub sink : after.faults ≡ before.faults

-- nothing was saved, no load failed, and nothing was written
pub record LeavesAll (old new : Shelf) (before after : Paper) : Type 0 where
  pub held : new.held ≡ old.held
  pub failed : new.failed ≡ old.failed
  pub written : after.written ≡ before.written

-- the usage was written, or the sink failed on it and a front was written; no file was touched
abbrev pub EndsUsage : Shelf → Shelf → Paper → Paper → Status → Type 0
EndsUsage old new before after result =
    (new ≡ old) × Writes status.Usage usage_text before after result
