-- At any moment of the search its labels are undominated pairs, each once; at the end they are all of them.
use Rattle.std.proofs.Common.{◌≡◌, ◌≢◌, ℕ, ◌+◌, ◌<◌, ◌≤◌, Bool, List, [], ◌∷◌, length, get_or, refl, ap, sym, subst, arith, inl, inr}
use Rattle.std.specs.Prelude.{AllPairs, Contains, IsTrue, map, sum_by}
use Rattle.std.proofs.lemmas.Bool.{cases_Bool, both_ways}
use Rattle.std.proofs.lemmas.List.{length-map}
use Rattle.std.proofs.lemmas.List.Sums.{sum_by-cons}
use Rattle.std.proofs.lemmas.List.Elements.{All-map, All-contains, All-weaker, All-contains_itself, Contains-get_or}
use Rattle.rulebook_order.specs.Answer.{IsUndominated, AreUndominated, SomeUndominated, HasMoreUndominated}
use Rattle.rulebook_order.specs.Graph.{Graph, IsReached}
use Rattle.rulebook_order.specs.StepGraph.{IsStepGraph}
use Rattle.rulebook_order.specs.VectorOrder.{Holds, IsVectorOrder}
use Rattle.rulebook_order.proofs.Lists.{pair_cases, AllPairs-map, Contains-map}
use Rattle.rulebook_order.proofs.Reached.{width_reached}
use Rattle.label_search.specs.declared.arrival.Arrival.{Arrival}
use Rattle.label_search.specs.Search.{AreApartThere, IsSearched, pair_of, choices_of}
use Rattle.label_search.specs.Limit.{StepsWithin}

sum_by-map : {X Y : Type 0} (f : Y → ℕ) (h : X → Y) (xs : List X) → sum_by f (map h xs) ≡ sum_by (λ x. f (h x)) xs
sum_by-map f h [] = refl
sum_by-map f h (x ∷ xs) = omega (arith, sum_by-cons f (h x) (map h xs), sum_by-cons (λ y. f (h y)) x xs, sum_by-map f h xs)

module _ {S : Type 0} (g : Graph S) (no_worse : List ℕ → List ℕ → Bool) (laws : IsStepGraph g) (order : IsVectorOrder g.width no_worse) (tick : ℕ) (labels extensions : List (Arrival S)) (searched : IsSearched g no_worse tick labels extensions) where
  reached_label : (x : Arrival S) → Contains labels x → IsReached g x.state x.vector
  reached_label x listed = All-contains (λ x. IsReached g x.state x.vector) labels x searched.reached listed

  width_label : (x : Arrival S) → Contains labels x → length x.vector ≡ g.width
  width_label x listed = width_reached g laws x.state x.vector (reached_label x listed)

  -- of two labels of one state, one no worse than the other, both are the same
  same_label : (x y : Arrival S) → Contains labels x → Contains labels y → x.state ≡ y.state → IsTrue (no_worse x.vector y.vector) → x ≡ y
  same_label x y in_x in_y same le = elim (pair_cases (AreApartThere no_worse) labels searched.apart x y in_x in_y) [
    | inl e ↦ e
    | inr (inl forth) ↦ absurd ((forth same).0 le)
    | inr (inr back) ↦ absurd ((back (sym same)).1 le)
  ]

  undominated_label : (x : Arrival S) → Contains labels x → IsUndominated g (Holds no_worse) x.state x.vector
  undominated_label x listed = record {
    has = reached_label x listed;
    unbeaten = λ w r beats.
        let c = searched.covers x.state w r (All-contains (λ x. g.tick x.state < tick) labels x searched.below listed) in
        let le = order.transitive c.by.vector w x.vector (width_label c.by c.listed) (width_reached g laws x.state w r) (width_label x listed) c.no_worse_is beats.no_worse in
        beats.one_way (subst (λ (y : Arrival S). IsTrue (no_worse y.vector w)) (same_label c.by x c.listed listed c.state_is le) c.no_worse_is);
  }

  once_labels : AllPairs (λ (x y : Arrival S). pair_of x ≢ pair_of y) labels
  once_labels i j d below inside equal =
      let x = get_or labels i d in
      let y = get_or labels j d in
      let r = order.reflexive y.vector (width_label y (Contains-get_or labels j d inside)) in
      (searched.apart i j d below inside (ap (λ p. p.0) equal)).0 (subst (λ v. IsTrue (no_worse v y.vector)) (sym (ap (λ p. p.1) equal)) r)

  pub SomeUndominated-labels : SomeUndominated g (Holds no_worse) (map pair_of labels)
  SomeUndominated-labels = record {
    sound = All-map (λ (p : S × List ℕ). IsUndominated g (Holds no_worse) p.0 p.1) pair_of labels (All-weaker (Contains labels) (λ x. IsUndominated g (Holds no_worse) x.state x.vector) undominated_label labels (All-contains_itself labels));
    once = AllPairs-map pair_of (λ p q. p ≢ q) labels once_labels;
  }

  pub HasMore-labels : (limit : ℕ) → limit < length labels → HasMoreUndominated g (Holds no_worse) limit
  HasMore-labels limit h = record { pairs = map pair_of labels; undominated = SomeUndominated-labels; more = omega (arith, length-map labels (λ (x : Arrival S). pair_of x)) }

  pub AreUndominated-labels : g.last < tick → AreUndominated g (Holds no_worse) (map pair_of labels)
  AreUndominated-labels done = record {
    exact = λ s v. (
      λ listed. All-contains (λ p. IsUndominated g (Holds no_worse) p.0 p.1) (map pair_of labels) (s, v) SomeUndominated-labels.sound listed,
      λ u.
          let c = searched.covers s v u.has (let h = laws.tick_high s (v, u.has) in omega arith) in
          let r = subst (λ t. IsReached g t c.by.vector) c.state_is (reached_label c.by c.listed) in
          let listed = Contains-map pair_of labels c.by c.listed in
          elim (cases_Bool (no_worse v c.by.vector)) [
            | inl back ↦ (let e = order.antisymmetric c.by.vector v (width_label c.by c.listed) (width_reached g laws s v u.has) c.no_worse_is back in
                subst (λ t. Contains (map pair_of labels) (t, v)) c.state_is (subst (λ w. Contains (map pair_of labels) (c.by.state, w)) e listed))
            | inr worse ↦ absurd (u.unbeaten c.by.vector r (record { no_worse = c.no_worse_is; one_way = λ back. both_ways (no_worse v c.by.vector) worse back }))
          ],
    );
    once = SomeUndominated-labels.once;
  }

  pub StepsWithin-labels : (limit old new : ℕ) → length labels ≤ limit → new ≤ old + choices_of g labels → StepsWithin g (Holds no_worse) limit old new
  StepsWithin-labels limit old new within steps = record {
    pairs = map pair_of labels;
    undominated = SomeUndominated-labels;
    within = omega (arith, length-map labels (λ (x : Arrival S). pair_of x));
    steps = omega (arith, sum_by-map (λ (pair : S × List ℕ). g.choices pair.0) (λ (x : Arrival S). pair_of x) labels);
  }
