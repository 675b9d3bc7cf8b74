-- What is measured of a book's rules, by a number for each part: as the values of parts along a
-- trajectory are. This project's own.
use Rattle.std.specs.Prelude.{◌≡◌, ℕ, ◌*◌, List, map}
use Rattle.std.specs.List.{sum_by}
use Rattle.rule_language.specs.declared.book.Book.{Book}
use Rattle.rule_language.specs.declared.book.Rule.{Rule}
use Rattle.rule_language.specs.declared.part.Part.{Part}
use Rattle.book_operations.specs.Derivation.{Carries}
use Rattle.book_operations.specs.Same.{scaled}
use Rattle.book_operations.specs.Tests.{size_of, becomes}

-- the number of a part is in proportion to its weight
pub record IsMeasure (amount : Part → ℕ) : Type 0 where
  pub scales : (times : ℕ) (part : Part) → amount (scaled times part) ≡ times * amount part

-- a rule's number is the sum over its parts
abbrev pub rule_amount : (Part → ℕ) → Rule → ℕ
rule_amount amount rule = sum_by amount rule.parts

-- a number for each rule, in the book's order
abbrev pub measured : (Part → ℕ) → Book → List ℕ
measured amount book = map (rule_amount amount) book.rules

-- what is measured of the child carries what is measured of the parent, by whatever numbers of parts
abbrev pub CarriesMeasured : Book → Book → (List ℕ → ℕ) → Type 0
CarriesMeasured parent child times =
    (amount : Part → ℕ) → IsMeasure amount → Carries (size_of parent) (size_of child)
    (becomes parent child times) (measured amount parent) (measured amount child)
