-- The interval of a product, by its four products of ends.
use Rattle.std.proofs.Common.{◌≡◌, ℤ, ◌*ℤ◌, Option, ◌∙◌}
use Rattle.std.specs.Int.{int_min, int_max}
use Rattle.scenario_model.specs.declared.problem.Span.{Span}
use Rattle.violation_measures.specs.Intervals.{from_to, product}
use Rattle.violation_measures.specs.Ranges.{kept}

pub product_is : (a b : Span) (ll lh hl hh low high : ℤ) (r : Option Span)
    → ll ≡ a.low *ℤ b.low → lh ≡ a.low *ℤ b.high → hl ≡ a.high *ℤ b.low → hh ≡ a.high *ℤ b.high
    → low ≡ int_min (int_min ll lh) (int_min hl hh) → high ≡ int_max (int_max ll lh) (int_max hl hh) → r ≡ kept (from_to low high) → r ≡ kept (product a b)
product_is a b ll lh hl hh low high r p q s t u v w =
    let least : low ≡ int_min (int_min (a.low *ℤ b.low) (a.low *ℤ b.high)) (int_min (a.high *ℤ b.low) (a.high *ℤ b.high)) = u ∙ (λ i. int_min (int_min (p i) (q i)) (int_min (s i) (t i))) in
    let greatest : high ≡ int_max (int_max (a.low *ℤ b.low) (a.low *ℤ b.high)) (int_max (a.high *ℤ b.low) (a.high *ℤ b.high)) = v ∙ (λ i. int_max (int_max (p i) (q i)) (int_max (s i) (t i))) in
    w ∙ (λ i. kept (from_to (least i) (greatest i)))
