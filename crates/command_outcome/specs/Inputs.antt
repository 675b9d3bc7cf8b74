-- The inputs of a command: files one after the other, each read with what those before it gave, and
-- tests of what was read. This project's own.
use Rattle.std.specs.Prelude.{◌≡◌, ◌⊎◌, ℕ, List, length, Option, None, Some, Result, Ok, Err}
use Rattle.std.specs.Prelude.{IfSome, nat_lt, if◌then◌else◌, codes}
use Rattle.std.specs.FinMap.{get}
use Rattle.outside_io.specs.Outside.{Files}
use Rattle.outside_io.specs.declared.TheConstants.{MAX_FILE}
use Rattle.command_outcome.specs.declared.outcome.Role.{Role}
use Rattle.command_outcome.specs.Outcome.{refused_text}

-- what is read, or what is said of the fault: want of memory has no text, and no reading has it
abbrev pub told : {A F : Type 0} → (F → Option (List ℕ)) → Result A F → Result A (Option (List ℕ))
told text (Ok x) = Ok x
told text (Err fault) = Err (text fault)

-- why inputs can't be had: one isn't there, or they are refused with this text
pub data Halt : Type 0 where
  absent : Halt
  refusal : (text : List ℕ) → Halt

-- what is read, or the refusal of the file in its role
abbrev pub in_role : {A : Type 0} → Role → Result A (Option (List ℕ)) → Result A Halt
in_role r (Ok x) = Ok x
in_role r (Err None) = Err absent
in_role r (Err (Some fault)) = Err (refusal (refused_text r fault))

-- the bytes of a file as what they mean in its role, or the refusal: too long, or the fault of the
-- reading
abbrev pub bytes_as : {A : Type 0} → Role → (List ℕ → Result A (Option (List ℕ))) → List ℕ
    → Result A Halt
bytes_as r read bytes =
    if nat_lt MAX_FILE (length bytes) then Err (refusal (refused_text r (codes "too-long")))
    else in_role r (read bytes)

-- the same of what is held under a name
abbrev pub held_as : {A : Type 0} → Role → (List ℕ → Result A (Option (List ℕ))) → Option (List ℕ)
    → Result A Halt
held_as r read None = Err absent
held_as r read (Some bytes) = bytes_as r read bytes

-- then: what f makes of the input, or why there is none
abbrev pub and_then : {A B : Type 0} → Result A Halt → (A → Result B Halt) → Result B Halt
and_then (Ok x) f = f x
and_then (Err halt) f = Err halt

-- What a command reads, as a chain.
infixl 10 ◌>>=◌
pub data Inputs : Type 0 → Type 1 where
  -- nothing is left to read
  given : {A : Type 0} → A → Inputs A
  -- what was read passes a test, or is refused in this role
  tested : {A : Type 0} → Role → Result A (Option (List ℕ)) → Inputs A
  -- the file in this role under this name, as `read` reads its bytes
  file : {A : Type 0} → Role → (read : List ℕ → Result A (Option (List ℕ))) → (name : List ℕ)
      → Inputs A
  -- one after the other: f names the later inputs by what the earlier ones are
  ◌>>=◌ : {A B : Type 0} → (earlier : Inputs A) → (f : A → Inputs B) → Inputs B

-- what the inputs are over these files, or why they can't be had
abbrev pub gives : {A : Type 0} → Inputs A → Files → Result A Halt
gives (given x) files = Ok x
gives (tested r result) files = in_role r result
gives (file r read n) files = held_as r read (get files n)
gives (earlier >>= f) files = and_then (gives earlier files) (λ x. gives (f x) files)

-- the files that a call may come to load for the inputs, by role and name: of later inputs where
-- the earlier ones are had
abbrev pub Reaches : {A : Type 0} → Inputs A → Option Files → Role → List ℕ → Type 0
Reaches (given x) held role name = ⊥
Reaches (tested r result) held role name = ⊥
Reaches (file r read n) held role name = (role ≡ r) × (name ≡ n)
Reaches (◌>>=◌ {A = A} earlier f) held role name =
    Reaches earlier held role name ⊎ ((x : A) × IfSome held (λ files. gives earlier files ≡ Ok x)
    × Reaches (f x) held role name)
