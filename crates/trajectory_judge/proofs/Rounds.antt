-- What each round of peeling leaves, and that the rounds come to an end.
use Rattle.std.specs.Prelude.{◌≡◌, ℕ, ◌+◌, ◌<◌, ◌≤◌, Bool, true, ◌&&◌, nat_le, nat_lt, ◌==◌, List, length, slice_index, IsTrue}
use Rattle.std.proofs.Common.{refl, ◌∙◌, ◌⊎◌, inl, inr, ⊎_elim, arith}
use Rattle.std.proofs.lemmas.Bool.{and_parts, and_from, both_ways, cases_Bool, cases_eq, cases_lt, ltb-true, lt-ltb, eqb-true, eq-eqb, leb-true, le-leb, false_from_ne_true}
use Rattle.rulebook_order.specs.Front.{vector_at}
use Rattle.rulebook_order.specs.VectorOrder.{IsVectorOrder}
use Rattle.rulebook_order.specs.laws.Below.{any_below-found, any_below-from}
use Rattle.rulebook_order.specs.laws.Count.{count_below, count_below-lt}
use Rattle.trajectory_judge.specs.Layers.{EndsChain, alone, after, IsLayer, beats_at}
use Rattle.trajectory_judge.specs.Peeling.{is_beaten, raised}
use Rattle.trajectory_judge.proofs.Peeled.{any_below-same, count_le, strict, unbeaten}

-- the places that have the number of the round are left; each earlier one has its layer
pub record IsPeeled (no_worse : List ℕ → List ℕ → Bool) (vectors : List (List ℕ)) (round : ℕ) (layers : List ℕ) : Type 0 where
  pub most : (i : ℕ) → i < length vectors → slice_index layers i ≤ round
  pub settled : (i : ℕ) → i < length vectors → slice_index layers i < round → IsLayer (length vectors) (λ j k. IsTrue (beats_at no_worse vectors j k)) i (slice_index layers i)
  pub left : (i : ℕ) → i < length vectors → slice_index layers i ≡ round → EndsChain (length vectors) (λ j k. IsTrue (beats_at no_worse vectors j k)) round i

-- the place is left
abbrev pub is_left : ℕ → ℕ → List ℕ → ℕ → Bool
is_left size round layers i = nat_lt i size && (slice_index layers i == round)

abbrev pub left_count : ℕ → ℕ → List ℕ → ℕ
left_count size round layers = count_below (is_left size round layers) size

pub left_few : (size round : ℕ) (layers : List ℕ) → left_count size round layers ≤ size
left_few size round layers = count_le (is_left size round layers) size

-- what a round does to a place: it is raised, since one that is left beats it, or it stays
record Rises (no_worse : List ℕ → List ℕ → Bool) (vectors : List (List ℕ)) (round : ℕ) (layers : List ℕ) (i : ℕ) : Type 0 where
  here : slice_index layers i ≡ round
  by : ℕ
  inside : by < length vectors
  at_least : round ≤ slice_index layers by
  beaten : IsTrue (beats_at no_worse vectors by i)
  new : raised no_worse vectors layers round i ≡ round + 1

record Stays (no_worse : List ℕ → List ℕ → Bool) (vectors : List (List ℕ)) (round : ℕ) (layers : List ℕ) (i : ℕ) : Type 0 where
  new : raised no_worse vectors layers round i ≡ slice_index layers i
  free : slice_index layers i ≡ round → (j : ℕ) → j < length vectors → round ≤ slice_index layers j → IsTrue (beats_at no_worse vectors j i) → ⊥

module _ (no_worse : List ℕ → List ℕ → Bool) (vectors : List (List ℕ)) where
  tested : (round : ℕ) (layers : List ℕ) (i : ℕ) → Rises no_worse vectors round layers i ⊎ Stays no_worse vectors round layers i
  tested round layers i = ⊎_elim
      (λ up.
      let parts = and_parts (slice_index layers i == round) _ up in
      let found = any_below-found _ (length vectors) parts.1 in
      let both = and_parts (nat_le round (slice_index layers found.0)) _ found.2 in
      inl (record {
        here = eqb-true _ _ parts.0;
        by = found.0;
        inside = found.1;
        at_least = leb-true _ _ both.0;
        beaten = both.1;
        new = rw up refl;
      }))
      (λ kept. inr (record {
        new = rw kept refl;
        free = λ here j inside at_least beaten. both_ways _ kept (and_from _ _ (eq-eqb _ _ here)
            (any_below-from (λ k. nat_le round (slice_index layers k) && beats_at no_worse vectors k i) (length vectors) j inside (and_from _ _ (le-leb _ _ at_least) beaten)));
      }))
      (cases_Bool ((slice_index layers i == round) && is_beaten no_worse vectors layers round i))

  -- the first round
  pub peeled_none : (layers : List ℕ) → ((i : ℕ) → i < length vectors → slice_index layers i ≡ 0) → IsPeeled no_worse vectors 0 layers
  peeled_none layers zeros = record {
    most = λ i inside. omega (arith, zeros i inside);
    settled = λ i inside less. absurd (omega arith);
    left = λ i inside here. alone i inside;
  }

  module _ (round : ℕ) (layers : List ℕ) (peeled : IsPeeled no_worse vectors round layers) where
    -- a chain that ends in a place that no place left beats is no longer than the rounds
    longest_here : (i : ℕ) → i < length vectors → ((j : ℕ) → j < length vectors → round ≤ slice_index layers j → IsTrue (beats_at no_worse vectors j i) → ⊥)
        → (k : ℕ) → EndsChain (length vectors) (λ j k. IsTrue (beats_at no_worse vectors j k)) k i → k ≤ round
    longest_here i inside free _ (alone _ within) = omega arith
    longest_here i inside free _ (after m j _ chain within beaten) =
        let there : j < length vectors = ltb-true _ _ (and_parts (nat_lt j (length vectors)) _ beaten).0 in
        ⊎_elim
        (λ (less : slice_index layers j < round). omega (arith, (peeled.settled j there less).longest m chain))
        (λ (more : round ≤ slice_index layers j). absurd (free j there more beaten))
        (cases_lt (slice_index layers j) round)

    -- a round more
    pub peeled_more : (new : List ℕ) → ((i : ℕ) → i < length vectors → slice_index new i ≡ raised no_worse vectors layers round i) → IsPeeled no_worse vectors (round + 1) new
    peeled_more new is = record {
      most = λ i inside. ⊎_elim (λ up. omega (arith, is i inside, up.new)) (λ kept. omega (arith, is i inside, kept.new, peeled.most i inside)) (tested round layers i);
      settled = λ i inside less. ⊎_elim
          (λ up. absurd (omega (arith, is i inside, up.new)))
          (λ kept. rw (is i inside, kept.new) (settled_here i inside kept.free))
          (tested round layers i);
      left = λ i inside here. ⊎_elim
          (λ up. after round up.by i (peeled.left up.by up.inside (omega (arith, up.at_least, peeled.most up.by up.inside))) inside up.beaten)
          (λ kept. absurd (omega (arith, is i inside, kept.new, peeled.most i inside)))
          (tested round layers i);
    }
      where
        settled_here : (i : ℕ) → i < length vectors → (slice_index layers i ≡ round → (j : ℕ) → j < length vectors → round ≤ slice_index layers j → IsTrue (beats_at no_worse vectors j i) → ⊥)
            → IsLayer (length vectors) (λ j k. IsTrue (beats_at no_worse vectors j k)) i (slice_index layers i)
        settled_here i inside free = ⊎_elim
            (λ (here : slice_index layers i ≡ round). rw here (record { chain = peeled.left i inside here; longest = longest_here i inside (free here) }))
            (λ (ne : slice_index layers i ≡ round → ⊥). peeled.settled i inside (omega (arith, ne, peeled.most i inside)))
            (cases_eq (slice_index layers i) round)

    -- where nothing was raised, all have their layers
    pub peeled_all : ((i : ℕ) → i < length vectors → slice_index layers i ≡ raised no_worse vectors layers round i)
        → (i : ℕ) → i < length vectors → IsLayer (length vectors) (λ j k. IsTrue (beats_at no_worse vectors j k)) i (slice_index layers i)
    peeled_all same i inside = (peeled_more layers same).settled i inside (omega (arith, peeled.most i inside))

    -- where some place is left, fewer are left after the round
    pub left_falls : (width : ℕ) → IsVectorOrder width no_worse → ((i : ℕ) → i < length vectors → length (vector_at vectors i) ≡ width) → (new : List ℕ)
        → ((i : ℕ) → i < length vectors → slice_index new i ≡ raised no_worse vectors layers round i) → (i : ℕ) → i < length vectors → slice_index layers i ≡ round
        → left_count (length vectors) (round + 1) new < left_count (length vectors) round layers
    left_falls width order wide new is i inside here =
        let start : IsTrue (is_left (length vectors) round layers i) = and_from _ _ (lt-ltb _ _ inside) (eq-eqb _ _ here) in
        let u = unbeaten (length vectors) (beats_at no_worse vectors) (strict no_worse width order vectors wide) (is_left (length vectors) round layers) i inside start in
        let at_u : slice_index layers u.place ≡ round = eqb-true _ _ (and_parts (nat_lt u.place (length vectors)) _ u.is_left).1 in
        let stays : slice_index new u.place ≡ round = ⊎_elim
        (λ up. absurd (both_ways _ u.by_none (any_below-from (λ k. is_left (length vectors) round layers k && beats_at no_worse vectors k u.place) (length vectors) up.by up.inside
        (and_from _ _ (and_from _ _ (lt-ltb _ _ up.inside) (eq-eqb _ _ (omega (arith, up.at_least, peeled.most up.by up.inside)))) up.beaten))))
        (λ kept. is u.place u.inside ∙ (kept.new ∙ at_u))
        (tested round layers u.place) in
        count_below-lt (is_left (length vectors) (round + 1) new) (is_left (length vectors) round layers) still_left u.place u.is_left
        (false_from_ne_true _ (λ h. omega (arith, stays, eqb-true _ _ (and_parts (nat_lt u.place (length vectors)) _ h).1)))
        (length vectors) u.inside
      where
        still_left : (k : ℕ) → IsTrue (is_left (length vectors) (round + 1) new k) → IsTrue (is_left (length vectors) round layers k)
        still_left k h =
            let parts = and_parts (nat_lt k (length vectors)) _ h in
            let within : k < length vectors = ltb-true _ _ parts.0 in
            ⊎_elim
            (λ up. and_from _ _ parts.0 (eq-eqb _ _ up.here))
            (λ kept. absurd (omega (arith, is k within, kept.new, peeled.most k within, eqb-true (slice_index new k) (round + 1) parts.1)))
            (tested round layers k)

  -- the test for a place asks the same, while earlier places of the round are done
  pub raised_same : (round : ℕ) (old new : List ℕ) (i : ℕ) → ((k : ℕ) → k < i → slice_index new k ≡ raised no_worse vectors old round k) → ((k : ℕ) → i ≤ k → slice_index new k ≡ slice_index old k)
      → raised no_worse vectors new round i ≡ raised no_worse vectors old round i
  raised_same round old new i done open_ =
      rw (any_below-same (λ j. nat_le round (slice_index new j) && beats_at no_worse vectors j i) (λ j. nat_le round (slice_index old j) && beats_at no_worse vectors j i) (length vectors) same, open_ i (omega arith)) refl
    where
      same : (k : ℕ) → k < length vectors → (nat_le round (slice_index new k) && beats_at no_worse vectors k i) ≡ (nat_le round (slice_index old k) && beats_at no_worse vectors k i)
      same k inside = ⊎_elim
          (λ (below : k < i). ⊎_elim
          (λ up. rw (le-leb round (slice_index new k) (omega (arith, done k below, up.new)), le-leb round (slice_index old k) (omega (arith, up.here))) refl)
          (λ kept. rw (done k below, kept.new) refl)
          (tested round old k))
          (λ (more : i ≤ k). rw (open_ k more) refl)
          (cases_lt k i)

  pub raised_up : (round : ℕ) (layers : List ℕ) (i : ℕ) → slice_index layers i ≡ round → is_beaten no_worse vectors layers round i ≡ true → raised no_worse vectors layers round i ≡ round + 1
  raised_up round layers i here beaten = rw (eq-eqb _ _ here, beaten) refl
