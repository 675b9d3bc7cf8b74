-- What a derived book says of what is driven. This project's own.
use Rattle.std.specs.Prelude.{◌≡◌, ℕ, List}
use Rattle.rule_language.specs.declared.book.Book.{Book}
use Rattle.book_operations.specs.Aggregation.{IsSumBy}
use Rattle.book_operations.specs.Derivation.{Carries}
use Rattle.book_operations.specs.Scripts.{BeatsIn}
use Rattle.book_operations.specs.Tests.{size_of, becomes, once}
use Rattle.book_operations.specs.declared.kind.Accepted.{Accepted}
use Rattle.book_operations.specs.declared.kind.Accepted.TheVariants.{Refinement, Aggregation}
use Rattle.book_operations.specs.declared.kind.Accepted.TheVariants.{Augmentation}
use Rattle.violation_measures.specs.Sources.{Features}
use Rattle.violation_measures.specs.Vectors.{trajectory_vector}
use Rattle.violation_measures.specs.declared.bound.Bound.{Bound}
use Rattle.violation_measures.specs.declared.step.Step.{Step}

-- the vector of any trajectory by the child carries its vector by the parent, for any source of
-- features to which both are bound
abbrev pub CarriesTrajectories : Book → Book → (List ℕ → ℕ) → Type 0
CarriesTrajectories parent child times =
    (f : Features) (bound child_bound : Bound) (steps : List Step) → bound.book ≡ parent
    → child_bound.book ≡ child → Carries (size_of parent) (size_of child)
    (becomes parent child times) (trajectory_vector f bound steps)
    (trajectory_vector f child_bound steps)

-- of any two trajectories of which the one beats the other by the parent, it does so by the child
abbrev pub KeepsTrajectories : Book → Book → Type 0
KeepsTrajectories parent child =
    (f : Features) (bound child_bound : Bound) (steps others : List Step) → bound.book ≡ parent
    → child_bound.book ≡ child
    → BeatsIn parent (trajectory_vector f bound steps) (trajectory_vector f bound others)
    → BeatsIn child (trajectory_vector f child_bound steps)
    (trajectory_vector f child_bound others)

-- what an accepted child carries of what is driven; in an aggregation by whatever multipliers make
-- the new rule the sum
abbrev pub CarriesDriven : Book → Book → Accepted → Type 0
CarriesDriven parent child Refinement = CarriesTrajectories parent child once
CarriesDriven parent child Aggregation =
    (times : List ℕ → ℕ) → IsSumBy parent child times → CarriesTrajectories parent child times
CarriesDriven parent child Augmentation = CarriesTrajectories parent child once
