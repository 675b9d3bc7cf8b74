-- The answer over a graph, and its undominated pairs, for any notion of "no worse".
use Rattle.std.specs.Prelude.{◌≢◌, ◌↔◌, ℕ, ◌<◌, List, length, Contains, All, AllPairs}
use Rattle.rulebook_order.specs.Graph.{Graph, IsReached, IsAttained}
use Rattle.rulebook_order.specs.Front.{IsInFront}

-- a vector of the answer: some list of choices ends at a goal with the finished vector v, and none
-- ends at a goal with one that beats it
abbrev pub IsAnswer : {S : Type 0} → Graph S → (List ℕ → List ℕ → Type 0) → List ℕ → Type 0
IsAnswer g IsNoWorse = IsInFront IsNoWorse (IsAttained g)

-- the vectors are exactly those of the answer, each once
pub record IsAnswerList {S : Type 0} (g : Graph S) (IsNoWorse : List ℕ → List ℕ → Type 0)
    (vectors : List (List ℕ)) : Type 0 where
  pub exact : (v : List ℕ) → Contains vectors v ↔ IsAnswer g IsNoWorse v
  pub once : AllPairs (λ v w. v ≢ w) vectors

-- an undominated pair: some list of choices reaches s with the running vector v, and none reaches s
-- with one that beats it
abbrev pub IsUndominated : {S : Type 0} → Graph S → (List ℕ → List ℕ → Type 0) → S → List ℕ → Type 0
IsUndominated g IsNoWorse s = IsInFront IsNoWorse (IsReached g s)

-- these are undominated pairs, each once
pub record SomeUndominated {S : Type 0} (g : Graph S) (IsNoWorse : List ℕ → List ℕ → Type 0)
    (pairs : List (S × List ℕ)) : Type 0 where
  pub sound : All (λ pair. IsUndominated g IsNoWorse pair.0 pair.1) pairs
  pub once : AllPairs (λ p q. p ≢ q) pairs

-- these are exactly the undominated pairs, each once
pub record AreUndominated {S : Type 0} (g : Graph S) (IsNoWorse : List ℕ → List ℕ → Type 0)
    (pairs : List (S × List ℕ)) : Type 0 where
  pub exact : (s : S) (v : List ℕ) → Contains pairs (s, v) ↔ IsUndominated g IsNoWorse s v
  pub once : AllPairs (λ p q. p ≢ q) pairs

-- there are more than this many undominated pairs
pub record HasMoreUndominated {S : Type 0} (g : Graph S) (IsNoWorse : List ℕ → List ℕ → Type 0)
    (limit : ℕ) : Type 0 where
  pub pairs : List (S × List ℕ)
  pub undominated : SomeUndominated g IsNoWorse pairs
  pub more : limit < length pairs
