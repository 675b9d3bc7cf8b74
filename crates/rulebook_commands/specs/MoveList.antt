-- A list of maneuvers by their names, as a word of the command line. This project's own.
use Rattle.std.specs.Prelude.{ℕ, ◌+◌, ◌==◌, Bool, List, [], ◌∷◌, Option, None, Some, Result, Ok}
use Rattle.std.specs.Prelude.{Err, if◌then◌else◌, codes}
use Rattle.std.specs.List.{slice_split}
use Rattle.std.specs.Str.{bytes_eq}
use Rattle.reading.specs.Bytes.{comma}
use Rattle.maneuver_lattice.specs.Scenes.{Scene, start, choice_named, next}
use Rattle.maneuver_lattice.specs.declared.state.LatticeState.{LatticeState}
use Rattle.command_outcome.specs.Outcome.{fault_at}
use Rattle.command_outcome.specs.Inputs.{told}

abbrev pub is_comma : ℕ → Bool
is_comma byte = byte == comma

abbrev pub between_commas : List ℕ → List (List ℕ)
between_commas list = slice_split is_comma list

-- the names between commas; none where the list is a full stop
abbrev pub names_in : List ℕ → List (List ℕ)
names_in list = if bytes_eq list (codes ".") then [] else between_commas list

abbrev pub before : ℕ → Result (List ℕ) ℕ → Result (List ℕ) ℕ
before choice (Ok list) = Ok (choice ∷ list)
before choice (Err k) = Err k

-- the choice at position k, and what is made of the names after it
abbrev pub taken : ℕ → Option ℕ → (ℕ → Result (List ℕ) ℕ) → Result (List ℕ) ℕ
taken k None rest = Err k
taken k (Some choice) rest = before choice (rest choice)

-- the choices that the names say from a state on, or the position of the first name, counted from
-- k, that no choice of the state has to which those before it lead
abbrev pub choices_of : Scene → LatticeState → ℕ → List (List ℕ) → Result (List ℕ) ℕ
choices_of scene state k [] = Ok []
choices_of scene state k (name ∷ names) =
    taken k (choice_named scene state name) (λ choice. choices_of scene (next scene state choice)
    (k + 1) names)

-- `no-such-move` and the position, counted from 1
abbrev pub moves_told : Scene → List (List ℕ) → Result (List ℕ) (Option (List ℕ))
moves_told scene names =
    told (λ k. Some (fault_at (codes "no-such-move") k)) (choices_of scene (start scene) 1 names)

abbrev pub list_told : Scene → List ℕ → Result (List ℕ) (Option (List ℕ))
list_told scene list = moves_told scene (names_in list)
