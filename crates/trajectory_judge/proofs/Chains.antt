-- Chains and layers by two relations that agree.
use Rattle.std.specs.Prelude.{ℕ, ◌<◌, ◌↔◌, Bool, List, length, IsTrue}
use Rattle.std.proofs.lemmas.Bool.{and_parts, and_from, not-true, not_from_false, false_from_ne_true, both_ways}
use Rattle.rulebook_order.specs.Front.{vector_at}
use Rattle.rulebook_order.specs.VectorOrder.{Holds}
use Rattle.rulebook_order.proofs.Agree.{Beats-agree}
use Rattle.trajectory_judge.specs.Layers.{EndsChain, alone, after, IsLayer, BeatsAt, IsLayerOf, beats_at}
use Rattle.trajectory_judge.proofs.JudgedRuns.{both_there}

pub chain_inside : (size : ℕ) (P : ℕ → ℕ → Type 0) (m i : ℕ) → EndsChain size P m i → i < size
chain_inside size P _ i (alone _ h) = h
chain_inside size P _ i (after m j _ chain h b) = h

chain_as : (size : ℕ) (P Q : ℕ → ℕ → Type 0) → ((i j : ℕ) → i < size → j < size → P i j → Q i j) → (m i : ℕ) → EndsChain size P m i → EndsChain size Q m i
chain_as size P Q go _ i (alone _ h) = alone i h
chain_as size P Q go _ i (after m j _ chain h b) = after m j i (chain_as size P Q go m j chain) h (go j i (chain_inside size P m j chain) h b)

pub layer_as : (size : ℕ) (P Q : ℕ → ℕ → Type 0) → ((i j : ℕ) → i < size → j < size → P i j ↔ Q i j) → (i m : ℕ) → IsLayer size P i m → IsLayer size Q i m
layer_as size P Q agree i m layer = record {
  chain = chain_as size P Q (λ j k h g. (agree j k h g).0) m i layer.chain;
  longest = λ k chain. layer.longest k (chain_as size Q P (λ j l h g. (agree j l h g).1) k i chain);
}

-- a layer by the test is one by the relation
pub layer_tested : (no_worse : List ℕ → List ℕ → Bool) (vectors : List (List ℕ)) (i m : ℕ) → IsLayer (length vectors) (λ j k. IsTrue (beats_at no_worse vectors j k)) i m → IsLayerOf (Holds no_worse) vectors i m
layer_tested no_worse vectors i m = layer_as (length vectors) (λ j k. IsTrue (beats_at no_worse vectors j k)) (BeatsAt (Holds no_worse) vectors)
    (λ j k h g. rw (both_there no_worse vectors j k h g) (
      λ b. let parts = and_parts (no_worse (vector_at vectors j) (vector_at vectors k)) _ b in record { no_worse = parts.0; one_way = λ back. both_ways _ (not-true _ parts.1) back },
      λ b. and_from _ _ b.no_worse (not_from_false _ (false_from_ne_true _ b.one_way)),
    ))
    i m

-- and so it is by another relation that says what the test says
pub layer_by : (no_worse : List ℕ → List ℕ → Bool) (IsNoWorse : List ℕ → List ℕ → Type 0) → ((x y : List ℕ) → IsTrue (no_worse x y) ↔ IsNoWorse x y) → (vectors : List (List ℕ)) (i m : ℕ) → IsLayerOf (Holds no_worse) vectors i m → IsLayerOf IsNoWorse vectors i m
layer_by no_worse IsNoWorse words vectors i m = layer_as (length vectors) (BeatsAt (Holds no_worse) vectors) (BeatsAt IsNoWorse vectors)
    (λ j k h g. Beats-agree (Holds no_worse) IsNoWorse (vector_at vectors j) (vector_at vectors k) (words (vector_at vectors j) (vector_at vectors k)) (words (vector_at vectors k) (vector_at vectors j))) i m
