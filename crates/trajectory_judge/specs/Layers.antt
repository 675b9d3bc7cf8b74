-- Layers of vectors, of which some beat others. A layer is counted from 0, in the direction of what
-- is beaten.
-- This project's own; the first one is the front (Ehrgott, "Multicriteria Optimization", 2005).
use Rattle.std.specs.Prelude.{ℕ, ◌+◌, ◌<◌, ◌≤◌, Bool, not, ◌&&◌, nat_lt, List, length}
use Rattle.rulebook_order.specs.Front.{vector_at}
use Rattle.rulebook_order.specs.NoWorse.{Beats}

-- a chain of m + 1 places below size, each beating the next, ends in place i
pub data EndsChain (size : ℕ) (IsBeating : ℕ → ℕ → Type 0) : ℕ → ℕ → Type 0 where
  alone : (i : ℕ) → i < size → EndsChain size IsBeating 0 i
  after : (m i j : ℕ) → EndsChain size IsBeating m i → j < size → IsBeating i j
      → EndsChain size IsBeating (m + 1) j

-- the layer of place i: the greatest m such that a chain of m + 1 places ends in it
pub record IsLayer (size : ℕ) (IsBeating : ℕ → ℕ → Type 0) (i m : ℕ) : Type 0 where
  pub chain : EndsChain size IsBeating m i
  pub longest : (k : ℕ) → EndsChain size IsBeating k i → k ≤ m

-- vector i beats vector j
abbrev pub BeatsAt : (List ℕ → List ℕ → Type 0) → List (List ℕ) → ℕ → ℕ → Type 0
BeatsAt IsNoWorse vectors i j = Beats IsNoWorse (vector_at vectors i) (vector_at vectors j)

-- the layer of vector i among the vectors
abbrev pub IsLayerOf : (List ℕ → List ℕ → Type 0) → List (List ℕ) → ℕ → ℕ → Type 0
IsLayerOf IsNoWorse vectors i m = IsLayer (length vectors) (BeatsAt IsNoWorse vectors) i m

-- one beats the other, as a test
abbrev pub beats : (List ℕ → List ℕ → Bool) → List ℕ → List ℕ → Bool
beats no_worse x y = no_worse x y && not (no_worse y x)

-- vector i beats vector j, and both are there
abbrev pub beats_at : (List ℕ → List ℕ → Bool) → List (List ℕ) → ℕ → ℕ → Bool
beats_at no_worse vectors i j =
    nat_lt i (length vectors) && (nat_lt j (length vectors)
    && beats no_worse (vector_at vectors i) (vector_at vectors j))
