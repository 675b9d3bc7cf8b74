-- How layers are found: what none of those that are left beats has the next layer, and the others
-- are left.
-- This project's own. That what is found are the layers is `peel`'s clause.
use Rattle.std.specs.Prelude.{◌≡◌, ℕ, ◌+◌, Bool, ◌&&◌, nat_le, ◌==◌, if◌then◌else◌, List, length}
use Rattle.std.specs.Prelude.{map, slice_index}
use Rattle.rulebook_order.specs.laws.Below.{any_below}
use Rattle.trajectory_judge.specs.Layers.{beats_at}
use Rattle.trajectory_judge.specs.declared.judged.Judged.{Judged}

abbrev pub vectors_of : List Judged → List (List ℕ)
vectors_of runs = map (λ (run : Judged). run.vector) runs

abbrev pub layers_of : List Judged → List ℕ
layers_of runs = map (λ (run : Judged). run.layer) runs

abbrev pub names_of : List Judged → List (List ℕ)
names_of runs = map (λ (run : Judged). run.name) runs

-- in a round, those with its number as their layer are left; one of them beats vector i
abbrev pub is_beaten : (List ℕ → List ℕ → Bool) → List (List ℕ) → List ℕ → ℕ → ℕ → Bool
is_beaten no_worse vectors layers round i =
    any_below (λ j. nat_le round (slice_index layers j) && beats_at no_worse vectors j i)
    (length vectors)

-- the layer of place i after a round
abbrev pub raised : (List ℕ → List ℕ → Bool) → List (List ℕ) → List ℕ → ℕ → ℕ → ℕ
raised no_worse vectors layers round i =
    if (slice_index layers i == round) && is_beaten no_worse vectors layers round i then round + 1
    else slice_index layers i

-- nothing but layers changed
pub record AreAlike (old new : List Judged) : Type 0 where
  pub names : names_of new ≡ names_of old
  pub vectors : vectors_of new ≡ vectors_of old
