-- Finals among labels, and goal links to them.
use Rattle.std.proofs.Common.{◌≡◌, ℕ, ◌+◌, ◌<◌, Bool, false, List, [], ◌∷◌, ◌++◌, length, take, get_or, refl, ap, sym, subst, ◌∙◌, arith, inl, inr, ◌⊎◌}
use Rattle.std.specs.Prelude.{All, Contains, Some, slice_get, slice_index_or, IsTrue, map}
use Rattle.std.proofs.lemmas.Bool.{cases_order, both_ways}
use Rattle.std.proofs.lemmas.Option.{same_Some, slice_get_within, get_or_from_slice_get}
use Rattle.std.proofs.lemmas.List.{length-map, get_or-map, take_more}
use Rattle.std.proofs.lemmas.List.Elements.{All-contains, All-contains_itself, All-head, All-tail, All-weaker, All-more, All-take}
use Rattle.rulebook_order.specs.Certified.{goals_in, finished_at, finished_vectors}
use Rattle.rulebook_order.specs.Graph.{Graph, IsReached, finished}
use Rattle.rulebook_order.specs.StepGraph.{IsStepGraph}
use Rattle.rulebook_order.proofs.Lists.{Contains-from_slice_get}
use Rattle.rulebook_order.proofs.Reached.{width_finished}
use Rattle.label_search.specs.declared.arrival.Arrival.{Arrival}
use Rattle.label_search.specs.declared.candidate.Candidate.{Candidate}
use Rattle.label_search.specs.Candidates.{IsCovered, HaveWidth}
use Rattle.label_search.specs.Search.{pair_of}
use Rattle.rulebook_order.specs.VectorOrder.{IsVectorOrder}
use Rattle.label_search.specs.Settling.{HasNumber}
use Rattle.label_search.specs.Linking.{IsFinalOf, IsAnswered, IsGoalLinked, IsCoveredBy}
use Rattle.label_search.proofs.Links.{linked-still, linked-now}

module _ {S : Type 0} (g : Graph S) (laws : IsStepGraph g) (arrivals : List (Arrival S)) (reached : All (λ x. IsReached g x.state x.vector) arrivals) where
  pub final_widths : (candidates : List Candidate) → All (IsFinalOf g arrivals) candidates → HaveWidth g.width candidates
  final_widths candidates all = All-weaker (IsFinalOf g arrivals) (λ x. length x.vector ≡ g.width)
      (λ x h. ap length h.vector_is ∙ width_finished g laws h.arrival.state h.arrival.vector (All-contains (λ y. IsReached g y.state y.vector) arrivals h.arrival reached (Contains-from_slice_get arrivals x.number h.arrival h.arrival_is)))
      candidates all

  pub finals_left : (candidates left : List Candidate) (new : Candidate) → All (IsFinalOf g arrivals) candidates → IsFinalOf g arrivals new → ((x : Candidate) → Contains left x → Contains candidates x ⊎ (new ≡ x)) → All (IsFinalOf g arrivals) left
  finals_left candidates left new all here from = All-weaker (Contains left) (IsFinalOf g arrivals)
      (λ x h. elim (from x h) [ inl old ↦ All-contains (IsFinalOf g arrivals) candidates x all old | inr e ↦ subst (IsFinalOf g arrivals) e here ])
      left (All-contains_itself left)

  -- the final with the number of an arrival is no worse than its finished vector
  pub own_final : (no_worse : List ℕ → List ℕ → Bool) → IsVectorOrder g.width no_worse → (candidates : List Candidate) → All (IsFinalOf g arrivals) candidates → (number : ℕ) (x : Arrival S) → slice_get arrivals number ≡ Some x → HasNumber candidates number → (cover : IsCovered no_worse candidates (finished g x.state x.vector)) × (number ≡ cover.by.number)
  own_final no_worse order candidates all number x at own =
      let final : IsFinalOf g arrivals own.candidate = All-contains (IsFinalOf g arrivals) candidates own.candidate all own.listed in
      let same : final.arrival ≡ x = same_Some _ _ (sym final.arrival_is ∙ (ap (slice_get arrivals) own.number_is ∙ at)) in
      let vector : own.candidate.vector ≡ finished g x.state x.vector = final.vector_is ∙ ap (λ (y : Arrival S). finished g y.state y.vector) same in
      let wide : length own.candidate.vector ≡ g.width = All-contains (λ y. length y.vector ≡ g.width) candidates own.candidate (final_widths candidates all) own.listed in
      (record { by = own.candidate; listed = own.listed; no_worse_is = subst (λ v. IsTrue (no_worse own.candidate.vector v)) vector (order.reflexive own.candidate.vector wide) }, sym own.number_is)

  pub answers_more : (no_worse : List ℕ → List ℕ → Bool) (candidates left : List Candidate) (n : ℕ) (x : Arrival S) → n < length arrivals → x ≡ get_or arrivals n x → All (IsAnswered g no_worse candidates) (take n arrivals) → ((v : List ℕ) → length v ≡ g.width → IsCovered no_worse candidates v → IsCovered no_worse left v) → IsAnswered g no_worse left x → All (IsAnswered g no_worse left) (take (n + 1) arrivals)
  answers_more no_worse candidates left n x inside is all keeps here =
      let early = All-take (λ y. IsReached g y.state y.vector) n arrivals reached in
      All-more (IsAnswered g no_worse left) arrivals n x inside
      (λ k d below goal. keeps _ (width_finished g laws _ _ (early k d below)) (all k d below goal))
      (subst (IsAnswered g no_worse left) is here)

module _ {S : Type 0} (g : Graph S) (no_worse : List ℕ → List ℕ → Bool) (arrivals : List (Arrival S)) (candidates : List Candidate) (n : ℕ) (x : Arrival S) (at : slice_get arrivals n ≡ Some x) where
  abbrev pairs : List (S × List ℕ)
  pairs = map pair_of arrivals

  pub pairs_more : take (n + 1) (map pair_of arrivals) ≡ take n (map pair_of arrivals) ++ pair_of x ∷ []
  pairs_more =
      let inside = slice_get_within arrivals n x at in
      let here : get_or (map pair_of arrivals) n (pair_of x) ≡ pair_of x = get_or-map pair_of arrivals n x (pair_of x) inside ∙ ap pair_of (get_or_from_slice_get arrivals n x x at) in
      take_more (map pair_of arrivals) n (pair_of x) (omega (arith, length-map arrivals (λ (y : Arrival S). pair_of y))) ∙ ap (λ q. take n (map pair_of arrivals) ++ q ∷ []) here

  pub goal_linked_push : (links : List ℕ) (link : ℕ) → length links ≡ goals_in g (take n (map pair_of arrivals)) → (cover : IsCovered no_worse candidates (finished g x.state x.vector)) → link ≡ cover.by.number → ((k : ℕ) → k < n → IsGoalLinked g no_worse arrivals candidates links k) → (k : ℕ) → k < n + 1 → IsGoalLinked g no_worse arrivals candidates (links ++ link ∷ []) k
  goal_linked_push links link count cover is was k below y y_at goal = elim (cases_order k n) [
    | inl now ↦ (let e : x ≡ y = same_Some _ _ (sym at ∙ (ap (slice_get arrivals) (sym now) ∙ y_at)) in
        subst (λ (z : Arrival S). IsCoveredBy no_worse candidates (links ++ link ∷ []) (goals_in g (take k (map pair_of arrivals))) (finished g z.state z.vector)) e
        (linked-now no_worse links link candidates (goals_in g (take k (map pair_of arrivals))) (finished g x.state x.vector) (ap (λ m. goals_in g (take m (map pair_of arrivals))) now ∙ sym count) cover is))
    | inr (inl less) ↦ linked-still no_worse links link candidates (goals_in g (take k (map pair_of arrivals))) (finished g y.state y.vector) (was k less y y_at goal)
    | inr (inr more) ↦ absurd (omega arith)
  ]

  pub goal_linked_skip : (links : List ℕ) → g.goal x.state ≡ false → ((k : ℕ) → k < n → IsGoalLinked g no_worse arrivals candidates links k) → (k : ℕ) → k < n + 1 → IsGoalLinked g no_worse arrivals candidates links k
  goal_linked_skip links off was k below y y_at goal = elim (cases_order k n) [
    | inl now ↦ (let e : x ≡ y = same_Some _ _ (sym at ∙ (ap (slice_get arrivals) (sym now) ∙ y_at)) in
        absurd (both_ways (g.goal x.state) off (subst (λ (z : Arrival S). IsTrue (g.goal z.state)) (sym e) goal)))
    | inr (inl less) ↦ was k less y y_at goal
    | inr (inr more) ↦ absurd (omega arith)
  ]

-- a final's vector is the finished vector of the label with its number
pub finished_final : {S : Type 0} (g : Graph S) (arrivals : List (Arrival S)) (x : Candidate) → IsFinalOf g arrivals x → finished_at g (map pair_of arrivals) x.number ≡ x.vector
finished_final {S} g arrivals x h =
    let inside = slice_get_within arrivals x.number h.arrival h.arrival_is in
    let pair : slice_index_or (map pair_of arrivals) x.number (g.start, g.first) ≡ pair_of h.arrival = get_or-map pair_of arrivals x.number h.arrival (g.start, g.first) inside ∙ ap pair_of (get_or_from_slice_get arrivals x.number h.arrival h.arrival h.arrival_is) in
    ap (λ (p : S × List ℕ). finished g p.0 p.1) pair ∙ sym h.vector_is

pub finished_finals : {S : Type 0} (g : Graph S) (arrivals : List (Arrival S)) (finals : List Candidate) → All (IsFinalOf g arrivals) finals → finished_vectors g (map pair_of arrivals) (map (λ (x : Candidate). x.number) finals) ≡ map (λ (x : Candidate). x.vector) finals
finished_finals g arrivals [] all = refl
finished_finals g arrivals (x ∷ xs) all =
    ap (λ v. v ∷ finished_vectors g (map pair_of arrivals) (map (λ (y : Candidate). y.number) xs)) (finished_final g arrivals x (All-head (IsFinalOf g arrivals) x xs all)) ∙ ap (λ vs. x.vector ∷ vs) (finished_finals g arrivals xs (All-tail (IsFinalOf g arrivals) x xs all))
