-- Vectors that stand apart from one another, each with the number of what has it.
use Rattle.std.specs.Prelude.{◌≡◌, ℕ, Bool, not, List, Some, slice_get, length, Contains, All}
use Rattle.std.specs.Prelude.{AllPairs, IsTrue}
use Rattle.rulebook_order.specs.NoWorse.{AreApart}
use Rattle.rulebook_order.specs.VectorOrder.{Holds}
use Rattle.label_search.specs.declared.candidate.Candidate.{Candidate}

-- some candidate is no worse than the vector
pub record IsCovered (no_worse : List ℕ → List ℕ → Bool) (candidates : List Candidate)
    (vector : List ℕ) : Type 0 where
  pub by : Candidate
  pub listed : Contains candidates by
  pub no_worse_is : IsTrue (no_worse by.vector vector)

-- the candidate at the place is no worse than the vector
pub record IsCoverAt (no_worse : List ℕ → List ℕ → Bool) (candidates : List Candidate)
    (vector : List ℕ) (place : ℕ) : Type 0 where
  pub by : Candidate
  pub by_is : slice_get candidates place ≡ Some by
  pub no_worse_is : IsTrue (no_worse by.vector vector)

-- whether a candidate stays beside a new vector, which is not no worse than it
abbrev pub stays : (List ℕ → List ℕ → Bool) → List ℕ → Candidate → Bool
stays no_worse vector candidate = not (no_worse vector candidate.vector)

-- no candidate is no worse than another
abbrev pub StandApart : (List ℕ → List ℕ → Bool) → List Candidate → Type 0
StandApart no_worse candidates =
    AllPairs (λ x y. AreApart (Holds no_worse) x.vector y.vector) candidates

-- the vectors have this many numbers
abbrev pub HaveWidth : ℕ → List Candidate → Type 0
HaveWidth width candidates = All (λ x. length x.vector ≡ width) candidates
