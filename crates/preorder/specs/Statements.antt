-- What statements on rules say. A pair (a, b) states that a is at least b.
-- The pre-order of a rulebook: Censi and others, "Liability, ethics, and culture-aware behavior
-- specification using rulebooks", 2019.
use Rattle.std.specs.Prelude.{ℕ, ◌<◌, List, take, length, Contains, Bool, IsTrue, ◌↔◌, All}
use Rattle.std.specs.Prelude.{slice_index_or}

-- a chain of statements leads from a to b; the empty chain leads from a to a
pub data Leads (statements : List (ℕ × ℕ)) : ℕ → ℕ → Type 0 where
  here : (a : ℕ) → Leads statements a a
  then : (a b c : ℕ) → Contains statements (a, b) → Leads statements b c → Leads statements a c

-- at_least holds where a chain of statements leads from a to b
abbrev pub IsClosure : List (ℕ × ℕ) → ℕ → (ℕ → ℕ → Bool) → Type 0
IsClosure statements size at_least =
    (a b : ℕ) → a < size → b < size → IsTrue (at_least a b) ↔ Leads statements a b

abbrev pub InRange : ℕ → ℕ × ℕ → Type 0
InRange size pair = (pair.0 < size) × (pair.1 < size)

-- pair i is the first with a number that is not below size
pub record IsFirstOutOfRange (size : ℕ) (pairs : List (ℕ × ℕ)) (i : ℕ) : Type 0 where
  pub here : i < length pairs
  pub out : ¬ InRange size (slice_index_or pairs i (0, 0))
  pub before : All (InRange size) (take i pairs)
