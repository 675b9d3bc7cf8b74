-- Orders of two rules with neither above the other.
use Rattle.std.specs.Prelude.{◌≡◌, ◌↔◌, ℕ, ◌≤◌, Bool, List, length, IsTrue, slice_index}

-- the vectors have two numbers, and one is no worse than another exactly where it has no more of
-- each (the bi-criteria case of Kung, Luccio and Preparata, "On finding the maxima of a set of
-- vectors", 1975)
pub record IsTradeOff (width : ℕ) (no_worse : List ℕ → List ℕ → Bool) : Type 0 where
  pub two : width ≡ 2
  pub exact : (x y : List ℕ) → length x ≡ width → length y ≡ width
      → IsTrue (no_worse x y)
      ↔ ((slice_index x 0 ≤ slice_index y 0) × (slice_index x 1 ≤ slice_index y 1))
