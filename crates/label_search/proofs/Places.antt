-- The places of the arrivals of each tick.
use Rattle.std.proofs.Common.{◌≡◌, ℕ, ◌<◌, Bool, true, false, List, [], ◌∷◌, ◌++◌, length, get_or, ap, sym, subst, ◌∙◌, arith, inl, inr, ◌⊎◌}
use Rattle.std.specs.Prelude.{All, Contains, nat_eq}
use Rattle.std.proofs.lemmas.Bool.{cases_Bool, eqb-true, eqb-false}
use Rattle.std.proofs.lemmas.Option.{slice_get_within, same_Some}
use Rattle.std.proofs.lemmas.List.Elements.{All-weaker, All-contains, All-contains_itself, Contains-push, Contains-append_left, Contains-push_cases, Contains-get_or}
use Rattle.std.proofs.lemmas.List.Quantifiers.{all_pairs_push}
use Rattle.rulebook_order.specs.Graph.{Graph}
use Rattle.rulebook_order.proofs.Lists.{slice_get-append, slice_get-snoc, slice_get-push-cases, Contains-slice_get, Contains-from_slice_get}
use Rattle.label_search.specs.declared.arrival.Arrival.{Arrival}
use Rattle.label_search.specs.Search.{IsAtTick, ArePlacesOf, AreByTick, IsCoveredAt}
use Rattle.label_search.specs.Settling.{IsAtPlace, CoversPlace}

module _ {S : Type 0} (g : Graph S) where
  pub AreByTick-none : (places : ℕ → List ℕ) → ((tick : ℕ) → places tick ≡ []) → AreByTick g [] places
  AreByTick-none places none tick = subst (λ ps. ArePlacesOf g [] tick ps) (sym (none tick)) (record {
    exact = λ p. (λ h. absurd (omega (arith, h.1)), λ h. let i = slice_get_within [] p h.arrival h.arrival_is in absurd (omega arith));
    rising = λ i j d below inside. absurd (omega arith);
  })

  module _ (arrivals : List (Arrival S)) (x : Arrival S) where
    stays : (tick p : ℕ) → IsAtTick g arrivals tick p → IsAtTick g (arrivals ++ x ∷ []) tick p
    stays tick p h = record { arrival = h.arrival; arrival_is = slice_get-append arrivals (x ∷ []) p h.arrival h.arrival_is; tick_is = h.tick_is }

    was_or_is : (tick p : ℕ) → IsAtTick g (arrivals ++ x ∷ []) tick p → IsAtTick g arrivals tick p ⊎ ((p ≡ length arrivals) × (g.tick x.state ≡ tick))
    was_or_is tick p h = elim (slice_get-push-cases arrivals x p h.arrival h.arrival_is) [
      | inl old ↦ inl (record { arrival = h.arrival; arrival_is = old; tick_is = h.tick_is })
      | inr new ↦ inr (new.0, ap (λ (y : Arrival S). g.tick y.state) new.1 ∙ h.tick_is)
    ]

    pub AreByTick-push : (before after : ℕ → List ℕ) → ((q : ℕ) → nat_eq (g.tick x.state) q ≡ true → after q ≡ before (g.tick x.state) ++ length arrivals ∷ []) → ((q : ℕ) → nat_eq (g.tick x.state) q ≡ false → after q ≡ before q) → AreByTick g arrivals before → AreByTick g (arrivals ++ x ∷ []) after
    AreByTick-push before after added others were q = elim (cases_Bool (nat_eq (g.tick x.state) q)) [
      | inl same ↦
          let e : g.tick x.state ≡ q = eqb-true (g.tick x.state) q same in
          let places = before q in
          let old = were q in
          let is : after q ≡ places ++ length arrivals ∷ [] = added q same ∙ ap (λ t. before t ++ length arrivals ∷ []) e in
          subst (λ ps. ArePlacesOf g (arrivals ++ x ∷ []) q ps) (sym is) (record {
            exact = λ p. (
              λ h. elim (Contains-push_cases places (length arrivals) p h) [
                | inl before_p ↦ stays q p ((old.exact p).0 before_p)
                | inr last ↦ subst (λ n. IsAtTick g (arrivals ++ x ∷ []) q n) last (record { arrival = x; arrival_is = slice_get-snoc arrivals x; tick_is = e })
              ],
              λ h. elim (was_or_is q p h) [
                | inl before_p ↦ Contains-append_left places (length arrivals ∷ []) p ((old.exact p).1 before_p)
                | inr now ↦ subst (Contains (places ++ length arrivals ∷ [])) (sym now.0) (Contains-push places (length arrivals))
              ],
            );
            rising = all_pairs_push (λ i j. i < j) places (length arrivals) old.rising
                (λ k d below. let h = (old.exact (get_or places k d)).0 (Contains-get_or places k d below) in slice_get_within arrivals (get_or places k d) h.arrival h.arrival_is);
          })
      | inr other ↦
          let old = were q in
          subst (λ ps. ArePlacesOf g (arrivals ++ x ∷ []) q ps) (sym (others q other)) (record {
            exact = λ p. (
              λ h. stays q p ((old.exact p).0 h),
              λ h. elim (was_or_is q p h) [ inl before_p ↦ (old.exact p).1 before_p | inr now ↦ absurd (eqb-false (g.tick x.state) q other now.1) ],
            );
            rising = old.rising;
          })
    ]

  -- what settles at a tick, by arrivals
  module _ (arrivals : List (Arrival S)) (tick : ℕ) (places : List ℕ) (are : ArePlacesOf g arrivals tick places) where
    pub places_within : All (λ p. p < length arrivals) places
    places_within = All-weaker (Contains places) (λ p. p < length arrivals) (λ p h. let a = (are.exact p).0 h in slice_get_within arrivals p a.arrival a.arrival_is) places (All-contains_itself places)

    pub at_tick : (kept : List (Arrival S)) → All (IsAtPlace arrivals places) kept → All (λ x. Contains arrivals x × (g.tick x.state ≡ tick)) kept
    at_tick kept all = All-weaker (IsAtPlace arrivals places) (λ x. Contains arrivals x × (g.tick x.state ≡ tick))
        (λ x h.
        let a = (are.exact h.place).0 h.listed in
        let e : a.arrival ≡ x = same_Some _ _ (sym a.arrival_is ∙ h.arrival_is) in
        (Contains-from_slice_get arrivals h.place x h.arrival_is, ap (λ (y : Arrival S). g.tick y.state) (sym e) ∙ a.tick_is))
        kept all

    pub covers_tick : (no_worse : List ℕ → List ℕ → Bool) (kept : List (Arrival S)) → All (CoversPlace no_worse arrivals kept) places → All (λ x. g.tick x.state ≡ tick → IsCoveredAt no_worse kept x.state x.vector) arrivals
    covers_tick no_worse kept all = All-weaker (Contains arrivals) (λ x. g.tick x.state ≡ tick → IsCoveredAt no_worse kept x.state x.vector)
        (λ x listed when.
        let at = Contains-slice_get arrivals x listed in
        let p = (are.exact at.0).1 (record { arrival = x; arrival_is = at.1; tick_is = when }) in
        All-contains (CoversPlace no_worse arrivals kept) places at.0 all p x at.1)
        arrivals (All-contains_itself arrivals)
