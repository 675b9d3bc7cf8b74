-- Vectors of two numbers.
use Rattle.std.specs.Prelude.{◌≡◌, ℕ, ◌+◌, ◌<◌, ◌≤◌, List, [], ◌∷◌, length, All, slice_index}
use Rattle.std.specs.Prelude.{slice_set, refl}
use Rattle.std.proofs.Common.{arith}
use Rattle.std.proofs.lemmas.List.Elements.{All-cons, All-nil}
use Rattle.rulebook_order.specs.StepGraph.{AllUpTo}
use Rattle.rulebook_order.specs.Sums.{sums}

pub two : (limit a b : ℕ) → a ≤ limit → b ≤ limit → AllUpTo limit (a ∷ b ∷ [])
two limit a b h k =
    All-cons (λ x. x ≤ limit) a (b ∷ []) h (All-cons (λ x. x ≤ limit) b [] k
    (All-nil (λ x. x ≤ limit)))
