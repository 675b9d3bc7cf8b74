-- Candidates that go down like stairs, by two rules of which neither is above the other.
-- (Kung, Luccio and Preparata, "On finding the maxima of a set of vectors", 1975: the maxima in the
-- plane, found by one sweep.)
use Rattle.std.specs.Prelude.{ℕ, ◌<◌, Bool, List, All, AllPairs, slice_index}
use Rattle.rulebook_order.specs.Trade.{IsTradeOff}
use Rattle.label_search.specs.declared.candidate.Candidate.{Candidate}

-- y has more of the first and less of the second
pub record IsStep (x y : List ℕ) : Type 0 where
  pub more : slice_index x 0 < slice_index y 0
  pub less : slice_index y 1 < slice_index x 1

-- each later candidate is a step further
abbrev pub AreStairs : List Candidate → Type 0
AreStairs candidates = AllPairs (λ x y. IsStep x.vector y.vector) candidates

-- the vector is a step further than each candidate
abbrev pub ComesNext : List Candidate → List ℕ → Type 0
ComesNext candidates vector = All (λ x. IsStep x.vector vector) candidates

-- candidates are stairs by an order of two such rules
pub record AreStairsBy (width : ℕ) (no_worse : List ℕ → List ℕ → Bool)
    (candidates : List Candidate) : Type 0 where
  pub trade : IsTradeOff width no_worse
  pub stairs : AreStairs candidates

-- so are those of each state
pub record AreAllStairs {S : Type 0} (width : ℕ) (no_worse : List ℕ → List ℕ → Bool)
    (candidates : S → List Candidate) : Type 0 where
  pub trade : IsTradeOff width no_worse
  pub stairs : (s : S) → AreStairs (candidates s)
