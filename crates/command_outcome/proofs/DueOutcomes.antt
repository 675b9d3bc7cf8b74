-- What the due outcomes of a task have in common, where what is made of its inputs has it.
use Rattle.std.proofs.Common.{◌≡◌, inl, inr, ℕ, List, Option, None, Some, Result, Ok, Err, refl, sym, ◌∙◌, ap, subst}
use Rattle.std.specs.FinMap.{get}
use Rattle.outside_io.specs.Outside.{Files}
use Rattle.command_outcome.specs.declared.outcome.Role.{Role}
use Rattle.command_outcome.specs.declared.outcome.Status.{Status}
use Rattle.command_outcome.specs.Outcome.{Outcome}
use Rattle.command_outcome.specs.Inputs.{Halt, absent, refusal, and_then, held_as, Inputs, file, given, tested, ◌>>=◌, gives, Reaches}
use Rattle.command_outcome.specs.Tasks.{Task, Settles, IsDueTo, EndAlike, KeepsFiles, print_task, task_by, usage}

abbrev outcome_of : Status → List ℕ → Files → Outcome
outcome_of status text files = record { status = status; text = text; files = files }

pub same_outcome : (o p : Outcome) → o.status ≡ p.status → o.text ≡ p.text → o.files ≡ p.files → o ≡ p
same_outcome o p s t f =
    ap (λ (x : Status). outcome_of x o.text o.files) s ∙ ap (λ (x : List ℕ). outcome_of p.status x o.files) t ∙ ap (λ (x : Files). outcome_of p.status p.text x) f

-- two due outcomes are alike where all that are made of the same inputs are
pub alike : (Alike : Outcome → Outcome → Type 0) → ((o : Outcome) → Alike o o) → (task : Task) (files : Files) → ((x : task.Input) (o p : Outcome) → task.Makes files x o → task.Makes files x p → Alike o p)
    → (o p : Outcome) → IsDueTo task files o → IsDueTo task files p → Alike o p
alike Alike same task files made o p = by (gives task.inputs files)
  where
    by : (r : Result task.Input Halt) → Settles r (task.Makes files) files o → Settles r (task.Makes files) files p → Alike o p
    by (Ok x) h k = made x o p h k
    by (Err (refusal text)) h k = subst (λ (q : Outcome). Alike o q) (h ∙ sym k) (same o)
    by (Err absent) h k = absurd h

pub end_alike : (o p : Outcome) → o ≡ p → EndAlike o p
end_alike o p same = (ap (λ (q : Outcome). q.status) same, λ refused. ap (λ (q : Outcome). q.text) same)

-- a due outcome keeps the files where all that are made of inputs do
pub keeps : (task : Task) (files : Files) → ((x : task.Input) (o : Outcome) → task.Makes files x o → KeepsFiles task files o) → (o : Outcome) → IsDueTo task files o → KeepsFiles task files o
keeps task files made o = by (gives task.inputs files)
  where
    by : (r : Result task.Input Halt) → Settles r (task.Makes files) files o → KeepsFiles task files o
    by (Ok x) h = made x o h
    by (Err (refusal text)) h = inl (ap (λ (q : Outcome). q.files) h)
    by (Err absent) h = absurd h

-- where a file that is reached isn't held, the inputs can't be had
reached_absent : {A : Type 0} (inputs : Inputs A) (files : Files) (role : Role) (name : List ℕ) → Reaches inputs (Some files) role name → get files name ≡ None → gives inputs files ≡ Err absent
reached_absent (given x) files role name h none = absurd h
reached_absent (tested r told) files role name h none = absurd h
reached_absent (file r read n) files role name h none = ap (λ q. held_as r read (get files q)) (sym h.1) ∙ ap (held_as r read) none
reached_absent (earlier >>= f) files role name (inl h) none = ap (λ q. and_then q (λ x. gives (f x) files)) (reached_absent earlier files role name h none)
reached_absent (earlier >>= f) files role name (inr h) none = ap (λ q. and_then q (λ x. gives (f x) files)) h.1 ∙ reached_absent (f h.0) files role name h.2 none

-- nor is anything due
pub none_due : (task : Task) (files : Files) (role : Role) (name : List ℕ) (o : Outcome) → Reaches task.inputs (Some files) role name → get files name ≡ None → IsDueTo task files o → ⊥
none_due task files role name o reached none due = subst (λ r. Settles r (task.Makes files) files o) (reached_absent task.inputs files role name reached none) due

-- ---- what a task owes

-- Due outcomes of the task end alike, where nothing is saved there is one, and the files are kept.
pub record IsLawful (task : Task) : Type 0 where
  pub once : task.saves ≡ None → (files : Files) (o p : Outcome) → IsDueTo task files o → IsDueTo task files p → o ≡ p
  pub ends_alike : (files : Files) (o p : Outcome) → IsDueTo task files o → IsDueTo task files p → EndAlike o p
  pub keeps_files : (files : Files) (o : Outcome) → IsDueTo task files o → KeepsFiles task files o

-- a task that makes one outcome of its inputs and keeps the files
pub lawful : (task : Task) → ((files : Files) (x : task.Input) (o p : Outcome) → task.Makes files x o → task.Makes files x p → o ≡ p)
    → ((files : Files) (x : task.Input) (o : Outcome) → task.Makes files x o → KeepsFiles task files o) → IsLawful task
lawful task one kept = record {
  once = λ _ files. alike (λ o p. o ≡ p) (λ o. refl) task files (one files);
  ends_alike = λ files o p h k. end_alike o p (alike (λ o p. o ≡ p) (λ o. refl) task files (one files) o p h k);
  keeps_files = λ files. keeps task files (kept files);
}

-- one that makes an outcome which is said, over the files as they are
pub lawful_text : (task : Task) → ((files : Files) (x : task.Input) (o p : Outcome) → task.Makes files x o → task.Makes files x p → o ≡ p)
    → ((files : Files) (x : task.Input) (o : Outcome) → task.Makes files x o → o.files ≡ files) → IsLawful task
lawful_text task one stays = lawful task one (λ files x o h. inl (stays files x o h))

pub print_lawful : (text : List ℕ) → IsLawful (print_task text)
print_lawful text = lawful_text (print_task text) (λ files x o p h k. h ∙ sym k) (λ files x o h. ap (λ (q : Outcome). q.files) h)

-- what words come to, where each request is lawful
pub lawful_by : {R : Type 0} (task_of : R → Task) → ((request : R) → IsLawful (task_of request)) → (read : Option R) → IsLawful (task_by task_of read)
lawful_by task_of each None = lawful_text usage (λ files x o p h k. h ∙ sym k) (λ files x o h. ap (λ (q : Outcome). q.files) h)
lawful_by task_of each (Some request) = each request
