-- What a child is to its parent: which test its names call for. This project's own.
use Rattle.std.specs.Prelude.{ℕ, List}
use Rattle.rule_language.specs.declared.book.Book.{Book}
use Rattle.book_operations.specs.Aggregation.{IsSumBy, IsAggregation, IsAggregationFault}
use Rattle.book_operations.specs.Measures.{CarriesMeasured}
use Rattle.book_operations.specs.Tests.{HasNamesOf, KeepsPreferencesOf, ShowsLoss, IsRefinement}
use Rattle.book_operations.specs.Tests.{IsRefinementFault, IsAugmentation, IsAugmentationFault}
use Rattle.book_operations.specs.Tests.{once}
use Rattle.book_operations.specs.declared.kind.Accepted.{Accepted}
use Rattle.book_operations.specs.declared.kind.Accepted.TheVariants.{Refinement, Aggregation}
use Rattle.book_operations.specs.declared.kind.Accepted.TheVariants.{Augmentation}
use Rattle.book_operations.specs.declared.fault.DeriveFault.{DeriveFault}

-- a refinement where both have the same names, an augmentation where the child has all of the
-- parent's and more, and else an aggregation
abbrev pub IsOfKind : Book → Book → Accepted → Type 0
IsOfKind parent child Refinement = HasNamesOf child parent × HasNamesOf parent child
IsOfKind parent child Augmentation = HasNamesOf child parent × ¬ HasNamesOf parent child
IsOfKind parent child Aggregation = ¬ HasNamesOf child parent

abbrev pub IsStep : Book → Book → Accepted → Type 0
IsStep parent child Refinement = IsRefinement parent child
IsStep parent child Aggregation = IsAggregation parent child
IsStep parent child Augmentation = IsAugmentation parent child

abbrev pub IsStepFault : Book → Book → Accepted → DeriveFault → Type 0
IsStepFault parent child Refinement = IsRefinementFault parent child
IsStepFault parent child Aggregation = IsAggregationFault parent child
IsStepFault parent child Augmentation = IsAugmentationFault parent child

-- the child keeps the parent's preferences, in an aggregation by whatever multipliers make the new
-- rule the sum
abbrev pub KeepsAs : Book → Book → Accepted → Type 0
KeepsAs parent child Refinement = KeepsPreferencesOf parent child once
KeepsAs parent child Aggregation =
    (times : List ℕ → ℕ) → IsSumBy parent child times → KeepsPreferencesOf parent child times
KeepsAs parent child Augmentation = KeepsPreferencesOf parent child once

-- what is measured of the child carries what is measured of the parent, in an aggregation by
-- whatever multipliers make the new rule the sum
abbrev pub CarriesAs : Book → Book → Accepted → Type 0
CarriesAs parent child Refinement = CarriesMeasured parent child once
CarriesAs parent child Aggregation =
    (times : List ℕ → ℕ) → IsSumBy parent child times → CarriesMeasured parent child times
CarriesAs parent child Augmentation = CarriesMeasured parent child once

-- the two vectors of a fault show a preference that is lost
abbrev pub ShowsAs : Book → Book → Accepted → DeriveFault → Type 0
ShowsAs parent child Refinement fault = ShowsLoss parent child once fault
ShowsAs parent child Aggregation fault =
    (times : List ℕ → ℕ) → IsSumBy parent child times → ShowsLoss parent child times fault
ShowsAs parent child Augmentation fault = ShowsLoss parent child once fault
