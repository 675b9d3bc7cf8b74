-- What a store and a sink tell, and what their calls answer. All of it is this project's own.
use Rattle.std.specs.Prelude.{◌≡◌, ◌⊎◌, ℕ, ◌+◌, ◌-◌, ◌^◌, ◌<◌, ◌≤◌, min, List, [], ◌∷◌, ◌++◌}
use Rattle.std.specs.Prelude.{length, take, Option, None, Some, Result, Ok, Err, Vec, ⊤, IsErrOf}
use Rattle.std.specs.Prelude.{IsSomeAnd}
use Rattle.std.specs.declared.alloc.Global.{Global}
use Rattle.std.specs.Ordering.{nat_cmp}
use Rattle.std.specs.Cmp.Lexicographic.{slice_cmp}
use Rattle.std.specs.FinMap.{FinMap, get, insert}
use Rattle.std.specs.Io.KnownBytes.{Appends}
use Rattle.outside_io.specs.declared.TheConstants.{MAX_FILE}
use Rattle.outside_io.specs.declared.LoadFault.{LoadFault}
use Rattle.outside_io.specs.declared.LoadFault.TheVariants as load
use Rattle.outside_io.specs.declared.SaveFault.{SaveFault}
use Rattle.outside_io.specs.declared.SaveFault.TheVariants as save
use Rattle.outside_io.specs.declared.SinkFault.{SinkFault}

-- the files of a store: the bytes under each name
abbrev pub Files : Type 0
Files = FinMap (slice_cmp nat_cmp) (List ℕ)

-- a count of faults rose, or stands at its type's end
abbrev pub Rose : ℕ → ℕ → Type 0
Rose before now = min (before + 1) (2 ^ 64 - 1) ≤ now

-- the count never falls, the fault comes only where it rose, and for any other answer it stands
pub record HasCause {T E : Type 0} (before now : ℕ) (fault : E) (result : Result T E) : Type 0 where
  pub later : before ≤ now
  pub rose : IsErrOf result fault → Rose before now
  pub same : ¬ IsErrOf result fault → now ≡ before

-- what a load answers over files that the store tells
abbrev pub LoadAnswers : Option Files → List ℕ → Result (Vec ℕ Global) LoadFault → Type 0
LoadAnswers None name answer = ⊤
LoadAnswers (Some files) name (Ok bytes) = get files name ≡ Some bytes.items
LoadAnswers (Some files) name (Err load.TooLong) =
    IsSomeAnd (get files name) (λ bytes. MAX_FILE < length bytes)
LoadAnswers (Some files) name (Err load.Failed) = ⊤
LoadAnswers (Some files) name (Err load.NoMemory) = ⊤

-- the name of a failed load, and no other, joins the list
abbrev pub RecordsFailure : List (List ℕ) → List (List ℕ) → List ℕ → Result (Vec ℕ Global) LoadFault
    → Type 0
RecordsFailure old new name (Err load.Failed) = new ≡ old ++ name ∷ []
RecordsFailure old new name (Err load.TooLong) = new ≡ old
RecordsFailure old new name (Err load.NoMemory) = new ≡ old
RecordsFailure old new name (Ok bytes) = new ≡ old

-- the name holds a front of the bytes, or all is as it was
abbrev pub SavesPart : Files → Option Files → List ℕ → List ℕ → Type 0
SavesPart files after name bytes =
    (after ≡ Some files) ⊎ ((kept : ℕ) × (after ≡ Some (insert files name (take kept bytes))))

-- what a save leaves of the files, where the store tells them
abbrev pub SaveAnswers : {T : Type 0} → Option Files → Option Files → List ℕ → List ℕ
    → Result T SaveFault → Type 0
SaveAnswers None after name bytes answer = after ≡ None
SaveAnswers (Some files) after name bytes (Ok _) = after ≡ Some (insert files name bytes)
SaveAnswers (Some files) after name bytes (Err save.Failed) = SavesPart files after name bytes
SaveAnswers (Some files) after name bytes (Err save.NoMemory) = after ≡ Some files

-- some front of the bytes was appended, where the object tells it
abbrev pub AppendsPrefix : Option (List ℕ) → Option (List ℕ) → List ℕ → Type 0
AppendsPrefix old new bytes = (kept : ℕ) × Appends old new (take kept bytes)

-- what a write leaves
abbrev pub WriteAnswers : {T : Type 0} → Option (List ℕ) → Option (List ℕ) → List ℕ
    → Result T SinkFault → Type 0
WriteAnswers old new bytes (Ok _) = Appends old new bytes
WriteAnswers old new bytes (Err _) = AppendsPrefix old new bytes
