-- Why a book is no step from another, or a script is refused, as it is printed. This project's own.
use Rattle.std.specs.Prelude.{ℕ, List, [], ◌∷◌, ◌++◌, Option, None, Some, codes}
use Rattle.std.specs.Fmt.{decimal}
use Rattle.std.specs.List.{flat_map}
use Rattle.text_lines.specs.Lines.{word}
use Rattle.book_operations.specs.declared.fault.DeriveFault.{DeriveFault}
use Rattle.book_operations.specs.declared.fault.DeriveFault.TheVariants as fault
use Rattle.command_outcome.specs.Outcome.{fault_at, fault_of}

-- a number behind a comma
abbrev pub comma_number : ℕ → List ℕ
comma_number n = codes "," ++ decimal n

-- numbers with commas between
abbrev pub with_commas : List ℕ → List ℕ
with_commas [] = []
with_commas (n ∷ ns) = decimal n ++ flat_map comma_number ns

-- two names, and two vectors
abbrev pub pair_words : List ℕ → List ℕ → List ℕ
pair_words a b = a ++ word b

abbrev pub lost_words : List ℕ → List ℕ → List ℕ → List ℕ → List ℕ
lost_words a b x y = a ++ (word b ++ (word (with_commas x) ++ word (with_commas y)))

-- a fault's name in lower case with dashes between its words, and its fields; want of memory has
-- none
abbrev pub derive_fault_text : DeriveFault → Option (List ℕ)
derive_fault_text (fault.Syntax n) = Some (fault_at (codes "syntax") n)
derive_fault_text (fault.UnknownRule n) = Some (fault_at (codes "unknown-rule") n)
derive_fault_text (fault.DuplicateName n) = Some (fault_at (codes "duplicate-name") n)
derive_fault_text (fault.BadWeight n) = Some (fault_at (codes "bad-weight") n)
derive_fault_text (fault.TooManyRules n) = Some (fault_at (codes "too-many-rules") n)
derive_fault_text (fault.TooManyParts n) = Some (fault_at (codes "too-many-parts") n)
derive_fault_text (fault.RulesDiffer a) = Some (fault_of (codes "rules-differ") a)
derive_fault_text (fault.NotOneClass a b) = Some (fault_of (codes "not-one-class") (pair_words a b))
derive_fault_text (fault.NotASum a) = Some (fault_of (codes "not-a-sum") a)
derive_fault_text (fault.StrictLost a b x y) =
    Some (fault_of (codes "strict-lost") (lost_words a b x y))
derive_fault_text (fault.NotLowest a b x y) =
    Some (fault_of (codes "not-lowest") (lost_words a b x y))
derive_fault_text fault.NoMemory = None
