-- Candidates by their state: what is so of each state's candidates after those of one state are new.
use Rattle.std.proofs.Common.{◌≡◌, ℕ, ◌<◌, Bool, true, false, List, [], ◌∷◌, ◌++◌, length, take, refl, sym, ap, ◌∙◌, subst, inl, inr, ◌⊎◌, arith, ◌+◌}
use Rattle.std.specs.Prelude.{All, AllPairs, Contains, Some, slice_get, IsTrue, Vec, get_or}
use Rattle.std.proofs.lemmas.Bool.{cases_Bool}
use Rattle.std.proofs.lemmas.Option.{same_Some}
use Rattle.std.proofs.lemmas.List.Elements.{All-nil, All-more, All-weaker, All-contains, All-contains_itself, All-push, Contains-push, Contains-append_left, Contains-get_or}
use Rattle.std.proofs.lemmas.List.Quantifiers.{all_pairs_push}
use Rattle.std.proofs.lemmas.List.{take_more, get_or-take, length-take}
use Rattle.std.proofs.lemmas.Grind.{get_or_default_zero}
use Rattle.rulebook_order.specs.NoWorse.{AreApart}
use Rattle.rulebook_order.specs.VectorOrder.{Holds}
use Rattle.rulebook_order.proofs.Lists.{Contains-from_slice_get, pair_cases}
use Rattle.label_search.specs.declared.arrival.Arrival.{Arrival}
use Rattle.label_search.specs.declared.candidate.Candidate.{Candidate}
use Rattle.label_search.specs.Candidates.{StandApart, HaveWidth}
use Rattle.label_search.specs.Search.{AreApartThere}
use Rattle.label_search.specs.Settling.{IsArrival, AreGroups, AreFrom, IsInGroup, HasNumber, IsKept, KeepsPlace, IsAtPlace, CoversPlace}
use Rattle.label_search.specs.Index.{items_at}
use Rattle.indexmap.specs.IndexMap.{IndexMap}
use Rattle.std.specs.declared.alloc.Global.{Global}

module _ {S T : Type 0} (eq : S → S → Bool) (same : (a b : S) → eq a b ≡ true → a ≡ b) (before after : S → List T) (key : S) (new : List T) (set : (q : S) → eq key q ≡ true → after q ≡ new) (others : (q : S) → eq key q ≡ false → after q ≡ before q) where
  pub at_each : (P : S → List T → Type 0) → P key new → ((q : S) → P q (before q)) → (q : S) → P q (after q)
  at_each P here there q = elim (cases_Bool (eq key q)) [
    | inl t ↦ subst (λ items. P q items) (sym (set q t)) (subst (λ s. P s new) (same key q t) here)
    | inr f ↦ subst (λ items. P q items) (sym (others q f)) (there q)
  ]

module _ {S : Type 0} (arrivals : List (Arrival S)) where
  pub widths_at : (s : S) (width : ℕ) (candidates : List Candidate) → All (λ x. length x.vector ≡ width) arrivals → All (IsArrival arrivals s) candidates → HaveWidth width candidates
  widths_at s width candidates widths all =
      All-weaker (IsArrival arrivals s) (λ x. length x.vector ≡ width)
      (λ x h. subst (λ (v : List ℕ). length v ≡ width) h.vector_is (All-contains (λ y. length y.vector ≡ width) arrivals h.arrival widths (Contains-from_slice_get arrivals x.number h.arrival h.arrival_is)))
      candidates all

  -- the candidates that are left after a new one are arrivals
  pub arrivals_left : (s : S) (candidates left : List Candidate) (new : Candidate) → All (IsArrival arrivals s) candidates → IsArrival arrivals s new → ((x : Candidate) → Contains left x → Contains candidates x ⊎ (new ≡ x)) → All (IsArrival arrivals s) left
  arrivals_left s candidates left new all here from =
      All-weaker (Contains left) (IsArrival arrivals s)
      (λ x h. elim (from x h) [ inl old ↦ All-contains (IsArrival arrivals s) candidates x all old | inr e ↦ subst (IsArrival arrivals s) e here ])
      left (All-contains_itself left)

pub items_at-empty : {K T H : Type 0} (eq : K → K → Bool) (map : IndexMap K (Vec T Global) H) → map.entries ≡ [] → (key : K) → items_at eq map key ≡ []
items_at-empty eq map empty key = rw empty refl

earlier : (places : List ℕ) (k : ℕ) → AllPairs (λ i j. i < j) places → k < length places → (place : ℕ) → Contains (take k places) place → place < get_or places k 0
earlier places k rising inside place (j, below, at) =
    let j_k : j < k = omega (arith, length-take k places, below) in
    let e : get_or (take k places) j place ≡ get_or places j place = get_or-take k places j place j_k in
    let zero : get_or places k place ≡ get_or places k 0 = get_or_default_zero places k place inside in
    omega (arith, e, at, rising j k place j_k inside, zero)

module _ {S : Type 0} (no_worse : List ℕ → List ℕ → Bool) (arrivals : List (Arrival S)) where
  pub AreGroups-none : (candidates : S → List Candidate) → ((s : S) → candidates s ≡ []) → AreGroups no_worse arrivals candidates
  AreGroups-none candidates none = record {
    arrivals_at = λ s. subst (λ xs. All (IsArrival arrivals s) xs) (sym (none s)) (All-nil (IsArrival arrivals s));
    apart = λ s. subst (λ xs. StandApart no_worse xs) (sym (none s)) (λ i j d below inside. absurd (omega arith));
  }

  -- what is kept, and one arrival more
  module _ (candidates : S → List Candidate) (groups : AreGroups no_worse arrivals candidates) (places : List ℕ) (rising : AllPairs (λ i j. i < j) places) (k : ℕ) (inside : k < length places) (kept : List (Arrival S)) (from : All (IsKept arrivals (take k places) candidates) kept) (all : All (KeepsPlace arrivals candidates kept) (take k places)) (apart : AllPairs (AreApartThere no_worse) kept) (x : Arrival S) (at : slice_get arrivals (get_or places k 0) ≡ Some x) where
    still : (y : Arrival S) → IsKept arrivals (take k places) candidates y → IsKept arrivals (take (k + 1) places) candidates y
    still y h = record { place = h.place; listed = rw (take_more places k 0 inside) (Contains-append_left (take k places) (get_or places k 0 ∷ []) h.place h.listed); arrival_is = h.arrival_is; in_group = h.in_group }

    -- an arrival kept earlier and this one stand apart
    apart_from : HasNumber (candidates x.state) (get_or places k 0) → (y : Arrival S) → Contains kept y → AreApartThere no_worse y x
    apart_from mine y listed same =
        let h = All-contains (IsKept arrivals (take k places) candidates) kept y from listed in
        let theirs : HasNumber (candidates x.state) h.place = subst (λ s. HasNumber (candidates s) h.place) same h.in_group in
        let before : h.place < get_or places k 0 = earlier places k rising inside h.place h.listed in
        let a = All-contains (IsArrival arrivals x.state) (candidates x.state) theirs.candidate (groups.arrivals_at x.state) theirs.listed in
        let b = All-contains (IsArrival arrivals x.state) (candidates x.state) mine.candidate (groups.arrivals_at x.state) mine.listed in
        let a_is : a.arrival ≡ y = same_Some _ _ (sym a.arrival_is ∙ (ap (slice_get arrivals) theirs.number_is ∙ h.arrival_is)) in
        let b_is : b.arrival ≡ x = same_Some _ _ (sym b.arrival_is ∙ (ap (slice_get arrivals) mine.number_is ∙ at)) in
        let va : theirs.candidate.vector ≡ y.vector = sym a.vector_is ∙ ap (λ (z : Arrival S). z.vector) a_is in
        let vb : mine.candidate.vector ≡ x.vector = sym b.vector_is ∙ ap (λ (z : Arrival S). z.vector) b_is in
        elim (pair_cases (λ (p q : Candidate). AreApart (Holds no_worse) p.vector q.vector) (candidates x.state) (groups.apart x.state) theirs.candidate mine.candidate theirs.listed mine.listed) [
          | inl e ↦ absurd (omega (arith, theirs.number_is, mine.number_is, ap (λ (p : Candidate). p.number) e))
          | inr (inl forth) ↦ subst (λ v. AreApart (Holds no_worse) v x.vector) va (subst (λ w. AreApart (Holds no_worse) theirs.candidate.vector w) vb forth)
          | inr (inr back) ↦ (let h = subst (λ v. AreApart (Holds no_worse) v y.vector) vb (subst (λ w. AreApart (Holds no_worse) mine.candidate.vector w) va back) in (h.1, h.0))
        ]

    pub from_push : HasNumber (candidates x.state) (get_or places k 0) → All (IsKept arrivals (take (k + 1) places) candidates) (kept ++ x ∷ [])
    from_push mine = All-push (IsKept arrivals (take (k + 1) places) candidates) kept x (All-weaker (IsKept arrivals (take k places) candidates) (IsKept arrivals (take (k + 1) places) candidates) still kept from)
        (record { place = get_or places k 0; listed = rw (take_more places k 0 inside) (Contains-push (take k places) (get_or places k 0)); arrival_is = at; in_group = mine })

    pub from_skip : All (IsKept arrivals (take (k + 1) places) candidates) kept
    from_skip = All-weaker (IsKept arrivals (take k places) candidates) (IsKept arrivals (take (k + 1) places) candidates) still kept from

    pub all_push : All (KeepsPlace arrivals candidates (kept ++ x ∷ [])) (take (k + 1) places)
    all_push = All-more (KeepsPlace arrivals candidates (kept ++ x ∷ [])) places k 0 inside
        (All-weaker (KeepsPlace arrivals candidates kept) (KeepsPlace arrivals candidates (kept ++ x ∷ [])) (λ place h y y_at mine. Contains-append_left kept (x ∷ []) y (h y y_at mine)) (take k places) all)
        (λ y y_at mine. subst (Contains (kept ++ x ∷ [])) (same_Some _ _ (sym at ∙ y_at)) (Contains-push kept x))

    pub all_skip : (HasNumber (candidates x.state) (get_or places k 0) → ⊥) → All (KeepsPlace arrivals candidates kept) (take (k + 1) places)
    all_skip none = All-more (KeepsPlace arrivals candidates kept) places k 0 inside all
        (λ y y_at mine. absurd (none (subst (λ (z : Arrival S). HasNumber (candidates z.state) (get_or places k 0)) (same_Some _ _ (sym y_at ∙ at)) mine)))

    pub apart_push : HasNumber (candidates x.state) (get_or places k 0) → AllPairs (AreApartThere no_worse) (kept ++ x ∷ [])
    apart_push mine = all_pairs_push (AreApartThere no_worse) kept x apart (λ j d below. apart_from mine (get_or kept j d) (Contains-get_or kept j d below))

  -- what is kept covers each place
  pub covers_places : (candidates : S → List Candidate) → AreGroups no_worse arrivals candidates → (places : List ℕ) → AreFrom places candidates → (kept : List (Arrival S)) → All (IsInGroup no_worse arrivals candidates) places → All (KeepsPlace arrivals candidates kept) places → All (CoversPlace no_worse arrivals kept) places
  covers_places candidates groups places from kept covers keeps =
      All-weaker (IsInGroup no_worse arrivals candidates) (CoversPlace no_worse arrivals kept)
      (λ place h x at.
      let c = h x at in
      let a = All-contains (IsArrival arrivals x.state) (candidates x.state) c.by (groups.arrivals_at x.state) c.listed in
      let place_in = All-contains (λ y. Contains places y.number) (candidates x.state) c.by (from x.state) c.listed in
      let number : HasNumber (candidates a.arrival.state) c.by.number = subst (λ s. HasNumber (candidates s) c.by.number) (sym a.state_is) (record { candidate = c.by; listed = c.listed; number_is = refl }) in
      record {
        by = a.arrival;
        listed = All-contains (KeepsPlace arrivals candidates kept) places c.by.number keeps place_in a.arrival a.arrival_is number;
        state_is = a.state_is;
        no_worse_is = subst (λ v. IsTrue (no_worse v x.vector)) (sym a.vector_is) c.no_worse_is;
      })
      places covers

pub at_places : {S : Type 0} (arrivals : List (Arrival S)) (places : List ℕ) (candidates : S → List Candidate) (kept : List (Arrival S)) → All (IsKept arrivals places candidates) kept → All (IsAtPlace arrivals places) kept
at_places arrivals places candidates kept all = All-weaker (IsKept arrivals places candidates) (IsAtPlace arrivals places) (λ x h. record { place = h.place; listed = h.listed; arrival_is = h.arrival_is }) kept all
