-- Laws above the definitions.
use Rattle.std.specs.Prelude.{◌≡◌, ℕ, List, ◌∷◌, ◌++◌, None, Some, codes}
use Rattle.std.specs.FinMap.{get}
use Rattle.outside_io.specs.Outside.{Files}
use Rattle.command_outcome.specs.declared.outcome.Role.{Role}
use Rattle.command_outcome.specs.declared.outcome.Status.TheVariants as status
use Rattle.command_outcome.specs.Outcome.{Outcome}
use Rattle.command_outcome.specs.Inputs.{Reaches}
use Rattle.command_outcome.specs.Tasks.{EndAlike, IsDueTo, KeepsFiles}
use Rattle.rulebook_cli.specs.Asked.{asked}

-- whatever the words and the files: due outcomes end alike
abbrev pub OneStatusIsDue : Type 0
OneStatusIsDue =
    (words : List (List ℕ)) (files : Files) (o p : Outcome) → IsDueTo (asked words) files o
    → IsDueTo (asked words) files p → EndAlike o p

-- where the words save nothing, at most one outcome is due
abbrev pub OneOutcomeIsDue : Type 0
OneOutcomeIsDue =
    (words : List (List ℕ)) (files : Files) (o p : Outcome) → (asked words).saves ≡ None
    → IsDueTo (asked words) files o → IsDueTo (asked words) files p → o ≡ p

-- no due outcome changes another file
abbrev pub FilesAreKept : Type 0
FilesAreKept =
    (words : List (List ℕ)) (files : Files) (o : Outcome) → IsDueTo (asked words) files o
    → KeepsFiles (asked words) files o

-- where a file that a call comes to load isn't held, nothing is due
abbrev pub NothingIsDueWithoutAFile : Type 0
NothingIsDueWithoutAFile =
    (words : List (List ℕ)) (files : Files) (role : Role) (name : List ℕ) (o : Outcome)
    → Reaches (asked words).inputs (Some files) role name → get files name ≡ None
    → IsDueTo (asked words) files o → ⊥

-- where `plan` is done, the same words behind `check` are due over the files that it left, and
-- accepted: what is printed is `accepted` and what `plan` printed
abbrev pub PlansAreAccepted : Type 0
PlansAreAccepted =
    (words : List (List ℕ)) (files : Files) (planned : Outcome)
    → IsDueTo (asked (codes "plan" ∷ words)) files planned → planned.status ≡ status.Done
    → IsDueTo (asked (codes "check" ∷ words)) planned.files
    (record {
      status = status.Done;
      text = codes "accepted\n" ++ planned.text;
      files = planned.files;
    })
