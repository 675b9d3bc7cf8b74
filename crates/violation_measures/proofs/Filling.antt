-- One value more stands at its place.
use Rattle.std.proofs.Common.{◌≡◌, ◌∙◌, ℕ, ◌+◌, ◌<◌, List, length, ap, sym, arith, inl, inr, ℤ, pos}
use Rattle.std.specs.Prelude.{slice_index_or, slice_set}
use Rattle.std.proofs.lemmas.Bool.{cases_lt}
use Rattle.std.proofs.lemmas.List.{get_or-set_other}
use Rattle.std.proofs.lemmas.Grind.{get_or-set_at}
use Rattle.violation_measures.specs.Measured.{measured_at}

pub one_more : (f : ℕ → ℤ) (used : List ℕ) (values : List ℤ) (place : ℕ) (v : ℤ) → place < length values → ((k : ℕ) → k < place → measured_at values k ≡ f (slice_index_or used k 0)) → v ≡ f (slice_index_or used place 0) → (k : ℕ) → k < place + 1 → measured_at (slice_set values place v) k ≡ f (slice_index_or used k 0)
one_more f used values place v h before here k below =
    elim (cases_lt k place) [
      | inl earlier ↦ get_or-set_other values place k v (pos 0) (λ same. omega (arith, same, earlier)) ∙ before k earlier
      | inr later ↦ let same : k ≡ place = omega (arith, below, later) in get_or-set_at values place k v (pos 0) same h ∙ here ∙ ap (λ (n : ℕ). f (slice_index_or used n 0)) (sym same)
    ]
