-- What one turn of the search adds.
use Rattle.std.proofs.Common.{◌≡◌, ℕ, zero, suc, ◌+◌, ◌<◌, ◌≤◌, Bool, List, [], ◌∷◌, ◌++◌, length, refl, ap, sym, subst, ◌∙◌, arith, inl, inr, ◌⊎◌, append_assoc, append-nil}
use Rattle.std.specs.Prelude.{All, AllPairs, Contains, slice_get, Some, IsTrue}
use Rattle.std.proofs.lemmas.Bool.{cases_order, cases_lt}
use Rattle.std.proofs.lemmas.Option.{slice_get_within, same_Some}
use Rattle.std.proofs.lemmas.List.Elements.{All-nil, All-cons, All-contains, All-append, All-weaker, Contains-push, Contains-append_left, Contains-append_right, All-push}
use Rattle.std.proofs.lemmas.List.Kept.{AllPairs-cons}
use Rattle.rulebook_order.specs.Graph.{Graph, IsReached}
use Rattle.rulebook_order.specs.StepGraph.{IsStepGraph}
use Rattle.rulebook_order.specs.Sums.{sums}
use Rattle.rulebook_order.specs.VectorOrder.{IsVectorOrder}
use Rattle.rulebook_order.proofs.Lists.{slice_get-append, Contains-slice_get, Contains-from_slice_get}
use Rattle.rulebook_order.proofs.Reached.{Built, start, extend, built, IsReached-built, IsReached-extend, IsReached-first, width_reached, state_built, extended_keeps}
use Rattle.label_search.specs.declared.arrival.Arrival.{Arrival}
use Rattle.label_search.specs.Search.{AreApartThere, IsCoveredAt, extension, extensions_below, extensions_from, start_arrival, IsChild, IsSearched, ArePlacesOf}
use Rattle.label_search.specs.Settling.{IsAtPlace, CoversPlace}
use Rattle.label_search.proofs.Places.{at_tick, covers_tick}

-- all pairs of two lists joined
AllPairs-head : {X : Type 0} (R : X → X → Type 0) (x : X) (xs : List X) → AllPairs R (x ∷ xs) → All (R x) xs
AllPairs-head R x xs h = λ k d below. h 0 (suc k) d (omega arith) (omega arith)

AllPairs-tail : {X : Type 0} (R : X → X → Type 0) (x : X) (xs : List X) → AllPairs R (x ∷ xs) → AllPairs R xs
AllPairs-tail R x xs h = λ i j d below in_j. h (suc i) (suc j) d (omega arith) (omega arith)

AllPairs-append : {X : Type 0} (R : X → X → Type 0) (xs ys : List X) → AllPairs R xs → AllPairs R ys → All (λ x. All (R x) ys) xs → AllPairs R (xs ++ ys)
AllPairs-append R [] ys a b cross = b
AllPairs-append R (x ∷ xs) ys a b cross =
    AllPairs-cons R x (xs ++ ys) (All-append (R x) xs ys (AllPairs-head R x xs a) (cross 0 x (omega arith))) (AllPairs-append R xs ys (AllPairs-tail R x xs a) b (λ k d below. cross (suc k) d (omega arith)))

-- an element of two lists joined
slice_get-append_cases : {X : Type 0} (xs ys : List X) (k : ℕ) (x : X) → slice_get (xs ++ ys) k ≡ Some x → (slice_get xs k ≡ Some x) ⊎ ((length xs ≤ k) × Contains ys x)
slice_get-append_cases [] ys k x at = inr (omega arith, Contains-from_slice_get ys k x at)
slice_get-append_cases (y ∷ xs) ys zero x at = inl at
slice_get-append_cases (y ∷ xs) ys (suc k) x at = elim (slice_get-append_cases xs ys k x at) [ inl a ↦ inl a | inr b ↦ inr (let h = b.0 in omega arith, b.1) ]

-- what a choice leads to from one of the arrivals, of which the first has number n
pub record IsExtension {S : Type 0} (g : Graph S) (n : ℕ) (arrivals : List (Arrival S)) (x : Arrival S) : Type 0 where
  pub place : ℕ
  pub parent : Arrival S
  pub choice : ℕ
  pub parent_is : slice_get arrivals place ≡ Some parent
  pub choice_below : choice < g.choices parent.state
  pub arrival_is : x ≡ extension g (n + place) parent choice

module _ {S : Type 0} (g : Graph S) where
  below_sound : (n : ℕ) (from : Arrival S) (m : ℕ) → m ≤ g.choices from.state → All (λ x. (c : ℕ) × (c < g.choices from.state) × (x ≡ extension g n from c)) (extensions_below g n from m)
  below_sound n from zero h = All-nil (λ x. (c : ℕ) × (c < g.choices from.state) × (x ≡ extension g n from c))
  below_sound n from (suc m) h = All-push (λ x. (c : ℕ) × (c < g.choices from.state) × (x ≡ extension g n from c)) (extensions_below g n from m) (extension g n from m) (below_sound n from m (omega arith)) (m, omega arith, refl)

  below_complete : (n : ℕ) (from : Arrival S) (m c : ℕ) → c < m → Contains (extensions_below g n from m) (extension g n from c)
  below_complete n from zero c h = absurd (omega arith)
  below_complete n from (suc m) c h = elim (cases_order c m) [
    | inl same ↦ rw same (Contains-push (extensions_below g n from m) (extension g n from m))
    | inr (inl less) ↦ Contains-append_left (extensions_below g n from m) (extension g n from m ∷ []) (extension g n from c) (below_complete n from m c less)
    | inr (inr more) ↦ absurd (omega arith)
  ]

  pub extensions_sound : (n : ℕ) (arrivals : List (Arrival S)) → All (IsExtension g n arrivals) (extensions_from g n arrivals)
  extensions_sound n [] = All-nil (IsExtension g n [])
  extensions_sound n (from ∷ arrivals) =
      All-append (IsExtension g n (from ∷ arrivals)) (extensions_below g n from (g.choices from.state)) (extensions_from g (n + 1) arrivals)
      (All-weaker (λ x. (c : ℕ) × (c < g.choices from.state) × (x ≡ extension g n from c)) (IsExtension g n (from ∷ arrivals)) (λ x h. record { place = 0; parent = from; choice = h.0; parent_is = refl; choice_below = h.1; arrival_is = let e : n + 0 ≡ n = omega arith in rw e h.2 }) (extensions_below g n from (g.choices from.state)) (below_sound n from (g.choices from.state) (omega arith)))
      (All-weaker (IsExtension g (n + 1) arrivals) (IsExtension g n (from ∷ arrivals)) (λ x h. record { place = suc h.place; parent = h.parent; choice = h.choice; parent_is = h.parent_is; choice_below = h.choice_below; arrival_is = let e : n + suc h.place ≡ (n + 1) + h.place = omega arith in rw e h.arrival_is }) (extensions_from g (n + 1) arrivals) (extensions_sound (n + 1) arrivals))

  pub extensions_complete : (n : ℕ) (arrivals : List (Arrival S)) (k : ℕ) (x : Arrival S) (c : ℕ) → slice_get arrivals k ≡ Some x → c < g.choices x.state → Contains (extensions_from g n arrivals) (extension g (n + k) x c)
  extensions_complete n [] k x c at below = absurd cc
  extensions_complete n (from ∷ arrivals) zero x c at below =
      let same : from ≡ x = same_Some from x at in
      let e : n + 0 ≡ n = omega arith in
      rw (e, same) (Contains-append_left (extensions_below g n x (g.choices x.state)) (extensions_from g (n + 1) arrivals) (extension g n x c) (below_complete n x (g.choices x.state) c below))
  extensions_complete n (from ∷ arrivals) (suc k) x c at below =
      let e : n + suc k ≡ (n + 1) + k = omega arith in
      rw e (Contains-append_right (extensions_below g n from (g.choices from.state)) (extensions_from g (n + 1) arrivals) (extension g ((n + 1) + k) x c) (extensions_complete (n + 1) arrivals k x c at below))

  pub extensions_from-append : (n : ℕ) (xs ys : List (Arrival S)) → extensions_from g n (xs ++ ys) ≡ extensions_from g n xs ++ extensions_from g (n + length xs) ys
  extensions_from-append n [] ys = let e : n + 0 ≡ n = omega arith in rw e refl
  extensions_from-append n (x ∷ xs) ys =
      let e : (n + 1) + length xs ≡ n + suc (length xs) = omega arith in
      ap (λ zs. extensions_below g n x (g.choices x.state) ++ zs) (extensions_from-append (n + 1) xs ys) ∙ rw (e, append_assoc) refl

  -- one more arrival
  pub extensions_from-snoc : (n : ℕ) (xs : List (Arrival S)) (x : Arrival S) → extensions_from g n (xs ++ x ∷ []) ≡ extensions_from g n xs ++ extensions_below g (n + length xs) x (g.choices x.state)
  extensions_from-snoc n xs x = extensions_from-append n xs (x ∷ []) ∙ ap (λ ys. extensions_from g n xs ++ ys) (append-nil (extensions_below g (n + length xs) x (g.choices x.state)))

  -- where arrivals are reached, so is what their choices lead to
  pub reached_extensions : (arrivals : List (Arrival S)) → All (λ x. IsReached g x.state x.vector) arrivals → All (λ x. IsReached g x.state x.vector) (extensions_from g 0 arrivals)
  reached_extensions arrivals reached =
      All-weaker (IsExtension g 0 arrivals) (λ x. IsReached g x.state x.vector)
      (λ x h.
      let listed = Contains-from_slice_get arrivals h.place h.parent h.parent_is in
      let r = All-contains (λ x. IsReached g x.state x.vector) arrivals h.parent reached listed in
      rw h.arrival_is (IsReached-extend g h.parent.state h.parent.vector h.choice r h.choice_below))
      (extensions_from g 0 arrivals) (extensions_sound 0 arrivals)

  -- a longer list keeps an arrival's parent
  IsChild-append : (xs ys : List (Arrival S)) (k : ℕ) (x : Arrival S) → IsChild g xs k x → IsChild g (xs ++ ys) k x
  IsChild-append xs ys k x h = record { parent = h.parent; parent_is = slice_get-append xs ys x.parent h.parent h.parent_is; earlier = h.earlier; choice_below = h.choice_below; arrival_is = h.arrival_is }

  child_of : (xs ys : List (Arrival S)) (k place : ℕ) (p : Arrival S) (c : ℕ) → slice_get xs place ≡ Some p → c < g.choices p.state → length xs ≤ k → IsChild g (xs ++ ys) k (extension g place p c)
  child_of xs ys k place p c at below long =
      let inside = slice_get_within xs place p at in
      record { parent = p; parent_is = slice_get-append xs ys place p at; earlier = omega arith; choice_below = below; arrival_is = refl }

  covered-append_left : {no_worse : List ℕ → List ℕ → Bool} {s : S} {v : List ℕ} (xs ys : List (Arrival S)) → IsCoveredAt no_worse xs s v → IsCoveredAt no_worse (xs ++ ys) s v
  covered-append_left xs ys h = record { by = h.by; listed = Contains-append_left xs ys h.by h.listed; state_is = h.state_is; no_worse_is = h.no_worse_is }

  module _ (no_worse : List ℕ → List ℕ → Bool) (laws : IsStepGraph g) (order : IsVectorOrder g.width no_worse) where
    -- the labels that settle at a tick
    module _ (tick : ℕ) (late : 0 < tick) (labels kept : List (Arrival S)) (searched : IsSearched g no_worse tick labels (extensions_from g 0 labels)) (from : All (λ x. Contains (extensions_from g 0 labels) x × (g.tick x.state ≡ tick)) kept) (apart : AllPairs (AreApartThere no_worse) kept) (covers : All (λ x. g.tick x.state ≡ tick → IsCoveredAt no_worse kept x.state x.vector) (extensions_from g 0 labels)) where
      is_extension : All (IsExtension g 0 labels) kept
      is_extension = All-weaker (λ x. Contains (extensions_from g 0 labels) x × (g.tick x.state ≡ tick)) (IsExtension g 0 labels) (λ x h. All-contains (IsExtension g 0 labels) (extensions_from g 0 labels) x (extensions_sound 0 labels) h.0) kept from

      reached_kept : All (λ x. IsReached g x.state x.vector) kept
      reached_kept = All-weaker (λ x. Contains (extensions_from g 0 labels) x × (g.tick x.state ≡ tick)) (λ x. IsReached g x.state x.vector) (λ x h. All-contains (λ x. IsReached g x.state x.vector) (extensions_from g 0 labels) x (reached_extensions labels searched.reached) h.0) kept from

      later_turn : (k : ℕ) (x : Arrival S) → 0 < k → slice_get (labels ++ kept) k ≡ Some x → IsChild g (labels ++ kept) k x
      later_turn k x up at = elim (slice_get-append_cases labels kept k x at) [
        | inl old ↦ IsChild-append labels kept k x (searched.parents.later k x up old)
        | inr new ↦
            let e = All-contains (IsExtension g 0 labels) kept x is_extension new.1 in
            let place : 0 + e.place ≡ e.place = omega arith in
            let is : extension g e.place e.parent e.choice ≡ x = sym (rw place at e.arrival_is) in
            subst (λ y. IsChild g (labels ++ kept) k y) is (child_of labels kept k e.place e.parent e.choice e.parent_is e.choice_below new.0)
      ]

      covers_turn : {s : S} {v : List ℕ} → Built g s v → g.tick s < tick + 1 → IsCoveredAt no_worse (labels ++ kept) s v
      covers_turn start below = covered-append_left labels kept (searched.covers g.start g.first (IsReached-first g) (let z = laws.start_tick in omega arith))
      covers_turn (extend {s} {v} {c} b c_below) below =
          let r = IsReached-built g b in
          let next = g.next s c in
          let u = sums v (g.cost s c) in
          let rise = laws.tick_rises s c (v, r) c_below in
          elim (cases_lt (g.tick next) tick) [
            | inl early ↦ covered-append_left labels kept (searched.covers next u (IsReached-extend g s v c r c_below) early)
            | inr now ↦
                let p = searched.covers s v r (omega arith) in
                let at = Contains-slice_get labels p.by p.listed in
                let choice : c < g.choices p.by.state = rw p.state_is c_below in
                let listed = extensions_complete 0 labels at.0 p.by c at.1 choice in
                let same : g.next p.by.state c ≡ next = ap (λ x. g.next x c) p.state_is in
                let when : g.tick (g.next p.by.state c) ≡ tick = ap g.tick same ∙ (let e : g.tick next ≡ tick = omega arith in e) in
                let cover = All-contains (λ x. g.tick x.state ≡ tick → IsCoveredAt no_worse kept x.state x.vector) (extensions_from g 0 labels) (extension g (0 + at.0) p.by c) covers listed when in
                let by_reached = subst (λ t. IsReached g t p.by.vector) p.state_is (All-contains (λ x. IsReached g x.state x.vector) labels p.by searched.reached p.listed) in
                let sum = extended_keeps g laws no_worse order s p.by.vector v c by_reached r c_below p.no_worse_is in
                let first : IsTrue (no_worse cover.by.vector (sums p.by.vector (g.cost s c))) = subst (λ t. IsTrue (no_worse cover.by.vector (sums p.by.vector (g.cost t c)))) p.state_is cover.no_worse_is in
                let wide = width_reached g laws cover.by.state cover.by.vector (All-contains (λ x. IsReached g x.state x.vector) kept cover.by reached_kept cover.listed) in
                record {
                  by = cover.by;
                  listed = Contains-append_right labels kept cover.by cover.listed;
                  state_is = cover.state_is ∙ same;
                  no_worse_is = order.transitive cover.by.vector (sums p.by.vector (g.cost s c)) u wide (width_reached g laws next (sums p.by.vector (g.cost s c)) (IsReached-extend g s p.by.vector c by_reached c_below)) (width_reached g laws next u (IsReached-extend g s v c r c_below)) first sum;
                }
          ]

      pub IsSearched-turn : IsSearched g no_worse (tick + 1) (labels ++ kept) (extensions_from g 0 (labels ++ kept))
      IsSearched-turn = record {
        parents = record { first = slice_get-append labels kept 0 (start_arrival g) searched.parents.first; later = later_turn };
        reached = All-append (λ x. IsReached g x.state x.vector) labels kept searched.reached reached_kept;
        below = All-append (λ x. g.tick x.state < tick + 1) labels kept
            (All-weaker (λ x. g.tick x.state < tick) (λ x. g.tick x.state < tick + 1) (λ x h. omega arith) labels searched.below)
            (All-weaker (λ x. Contains (extensions_from g 0 labels) x × (g.tick x.state ≡ tick)) (λ x. g.tick x.state < tick + 1) (λ x h. let e = h.1 in omega arith) kept from);
        apart = AllPairs-append (AreApartThere no_worse) labels kept searched.apart apart
            (All-weaker (λ x. g.tick x.state < tick) (λ x. All (AreApartThere no_worse x) kept)
            (λ x h. All-weaker (λ y. Contains (extensions_from g 0 labels) y × (g.tick y.state ≡ tick)) (AreApartThere no_worse x) (λ y k same. let e = k.1 in let t = ap g.tick same in absurd (omega arith)) kept from)
            labels searched.below);
        covers = λ s v r below. covers_turn (built g r) below;
        extensions_are = refl;
      }

    -- at the first turn there is the start alone
    first_covers : {s : S} {v : List ℕ} → Built g s v → g.tick s < 1 → IsCoveredAt no_worse (start_arrival g ∷ []) s v
    first_covers start below = record { by = start_arrival g; listed = Contains-push [] (start_arrival g); state_is = refl; no_worse_is = order.reflexive g.first laws.first.width }
    first_covers (extend {s} {v} {c} b c_below) below = let rise = laws.tick_rises s c (state_built g b) c_below in absurd (omega arith)

    pub IsSearched-first : IsSearched g no_worse 1 (start_arrival g ∷ []) (extensions_from g 0 (start_arrival g ∷ []))
    IsSearched-first = record {
      parents = record { first = refl; later = λ k x up at. let h = slice_get_within (start_arrival g ∷ []) k x at in absurd (omega arith) };
      reached = All-cons (λ x. IsReached g x.state x.vector) (start_arrival g) [] (IsReached-first g) (All-nil (λ x. IsReached g x.state x.vector));
      below = All-cons (λ x. g.tick x.state < 1) (start_arrival g) [] (let z = laws.start_tick in omega arith) (All-nil (λ x. g.tick x.state < 1));
      apart = AllPairs-cons (AreApartThere no_worse) (start_arrival g) [] (All-nil (AreApartThere no_worse (start_arrival g))) (λ i j d below in_j. absurd (omega arith));
      covers = λ s v r below. first_covers (built g r) below;
      extensions_are = refl;
    }

    -- the same, where the extensions have a name of their own
    pub IsSearched-settled : (tick : ℕ) → 0 < tick → (labels extensions kept : List (Arrival S)) → IsSearched g no_worse tick labels extensions → All (λ x. Contains extensions x × (g.tick x.state ≡ tick)) kept → AllPairs (AreApartThere no_worse) kept → All (λ x. g.tick x.state ≡ tick → IsCoveredAt no_worse kept x.state x.vector) extensions → IsSearched g no_worse (tick + 1) (labels ++ kept) (extensions ++ extensions_from g (length labels) kept)
    IsSearched-settled tick late labels extensions kept searched from apart covers =
        let e = searched.extensions_are in
        let turn = IsSearched-turn tick late labels kept (rw e at searched) (rw e at from) apart (rw e at covers) in
        let x = extensions_from-append 0 labels kept in
        let z : 0 + length labels ≡ length labels = omega arith in
        rw e (rw (x, z) at turn)

    -- and where what settles is told by places
    pub IsSearched-at_places : (tick : ℕ) → 0 < tick → (labels extensions kept : List (Arrival S)) → IsSearched g no_worse tick labels extensions → (places : List ℕ) → ArePlacesOf g extensions tick places → All (IsAtPlace extensions places) kept → AllPairs (AreApartThere no_worse) kept → All (CoversPlace no_worse extensions kept) places → IsSearched g no_worse (tick + 1) (labels ++ kept) (extensions ++ extensions_from g (length labels) kept)
    IsSearched-at_places tick late labels extensions kept searched places are from apart covers =
        IsSearched-settled tick late labels extensions kept searched (at_tick g extensions tick places are kept from) apart (covers_tick g extensions tick places are no_worse kept covers)
