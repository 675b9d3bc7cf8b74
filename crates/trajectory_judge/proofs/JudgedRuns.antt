-- Names, layers and vectors of judged recordings.
use Rattle.std.specs.Prelude.{◌≡◌, ◌≢◌, ℕ, ◌<◌, Bool, ◌&&◌, nat_le, List, [], length, get_or, set, slice_index, All}
use Rattle.std.proofs.Common.{refl, sym, ap, ◌∙◌, arith}
use Rattle.std.proofs.lemmas.Bool.{lt-ltb}
use Rattle.std.proofs.lemmas.List.{length-map, get_or-map, map-set, get_or-set_same, get_or-set_other}
use Rattle.std.proofs.Math.Seq.{map-set_same}
use Rattle.rulebook_order.specs.Front.{vector_at}
use Rattle.trajectory_judge.specs.Layers.{beats, beats_at}
use Rattle.trajectory_judge.specs.Peeling.{AreAlike, layers_of, vectors_of}
use Rattle.trajectory_judge.specs.declared.judged.Judged.{Judged}

pub same_size : (runs : List Judged) → length (vectors_of runs) ≡ length runs
same_size runs = length-map runs (λ (run : Judged). run.vector)

pub alike_size : (old new : List Judged) → AreAlike old new → length new ≡ length old
alike_size old new alike = sym (same_size new) ∙ (ap (length {A = List ℕ}) alike.vectors ∙ same_size old)

pub vector_of : (runs : List Judged) (i : ℕ) (d : Judged) → i < length runs → vector_at (vectors_of runs) i ≡ (get_or runs i d).vector
vector_of runs i d inside = get_or-map (λ (run : Judged). run.vector) runs i d [] inside

pub layer_of : (runs : List Judged) (i : ℕ) (d : Judged) → i < length runs → slice_index (layers_of runs) i ≡ (get_or runs i d).layer
layer_of runs i d inside = get_or-map (λ (run : Judged). run.layer) runs i d 0 inside

pub wide_at : (runs : List Judged) (width : ℕ) → All (λ (run : Judged). length run.vector ≡ width) runs → (i : ℕ) → i < length (vectors_of runs) → length (vector_at (vectors_of runs) i) ≡ width
wide_at runs width all i inside =
    let within : i < length runs = omega (arith, same_size runs) in
    let d : Judged = record { name = []; layer = 0; vector = [] } in
    ap (length {A = ℕ}) (vector_of runs i d within) ∙ all i d within

pub wide_of : (runs : List Judged) (width : ℕ) → ((i : ℕ) → i < length (vectors_of runs) → length (vector_at (vectors_of runs) i) ≡ width) → All (λ (run : Judged). length run.vector ≡ width) runs
wide_of runs width all i d within = sym (ap (length {A = ℕ}) (vector_of runs i d within)) ∙ all i (omega (arith, within, same_size runs))

pub wide_alike : (old new : List Judged) (width : ℕ) → AreAlike old new → All (λ (run : Judged). length run.vector ≡ width) old → All (λ (run : Judged). length run.vector ≡ width) new
wide_alike old new width alike all = wide_of new width (rw alike.vectors (wide_at old width all))

-- the two are there, so one beats the other where its vector does
pub both_there : (no_worse : List ℕ → List ℕ → Bool) (vectors : List (List ℕ)) (i j : ℕ) → i < length vectors → j < length vectors → beats_at no_worse vectors i j ≡ beats no_worse (vector_at vectors i) (vector_at vectors j)
both_there no_worse vectors i j h k = rw (lt-ltb _ _ h, lt-ltb _ _ k) refl

-- one recording gets another layer
module _ (runs : List Judged) (i : ℕ) (run : Judged) (layer : ℕ) (inside : i < length runs) (here : run ≡ get_or runs i run) where
  pub set_alike : AreAlike runs (set runs i (record run { layer = layer }))
  set_alike = record {
    names = map-set_same (λ (r : Judged). r.name) runs i (record run { layer = layer }) run (ap (λ (r : Judged). r.name) here);
    vectors = map-set_same (λ (r : Judged). r.vector) runs i (record run { layer = layer }) run (ap (λ (r : Judged). r.vector) here);
  }

  pub set_here : slice_index (layers_of (set runs i (record run { layer = layer }))) i ≡ layer
  set_here =
      rw (map-set (λ (r : Judged). r.layer) runs i (record run { layer = layer }))
      (get_or-set_same (layers_of runs) i layer 0 (omega (arith, inside, length-map runs (λ (r : Judged). r.layer))))

  pub set_others : (k : ℕ) → k ≢ i → slice_index (layers_of (set runs i (record run { layer = layer }))) k ≡ slice_index (layers_of runs) k
  set_others k other =
      rw (map-set (λ (r : Judged). r.layer) runs i (record run { layer = layer }))
      (get_or-set_other (layers_of runs) i k layer 0 other)

-- the test on a recording by its place, and by what stands there
pub test_at : (no_worse : List ℕ → List ℕ → Bool) (runs : List Judged) (round i k : ℕ) (run : Judged) (vector : List ℕ) → i < length runs → k < length runs → run ≡ get_or runs k run → vector_at (vectors_of runs) i ≡ vector
    → (nat_le round (slice_index (layers_of runs) k) && beats_at no_worse (vectors_of runs) k i) ≡ (nat_le round run.layer && beats no_worse run.vector vector)
test_at no_worse runs round i k run vector h g is at =
    let layer : slice_index (layers_of runs) k ≡ run.layer = layer_of runs k run g ∙ ap (λ (r : Judged). r.layer) (sym is) in
    let value : vector_at (vectors_of runs) k ≡ run.vector = vector_of runs k run g ∙ ap (λ (r : Judged). r.vector) (sym is) in
    rw (both_there no_worse (vectors_of runs) k i (omega (arith, g, same_size runs)) (omega (arith, h, same_size runs)), layer, value, at) refl
