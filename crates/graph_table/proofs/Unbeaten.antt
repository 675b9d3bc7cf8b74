-- Each state that some list of choices reaches has an undominated pair.
use Rattle.std.proofs.Common.{◌≡◌, ◌≢◌, ℕ, zero, suc, ◌<◌, ◌≤◌, ◌-◌, Bool, true, false, List, [], ◌∷◌, length, filter, get_or, refl, sym, ap, ◌∙◌, subst, arith, inl, inr, ◌⊎◌}
use Rattle.std.specs.Cmp.{IsEquivalence}
use Rattle.std.specs.List.{AllZip}
use Rattle.std.specs.Prelude.{All, AllPairs, Contains, IsTrue}
use Rattle.std.proofs.lemmas.Bool.{cases_Bool, both_ways}
use Rattle.std.proofs.lemmas.List.Elements.{All-nil, All-cons, All-head, All-tail, All-weaker, All-filter, All-contains, filter_passes}
use Rattle.rulebook_order.specs.Answer.{IsUndominated, HasMoreUndominated}
use Rattle.rulebook_order.specs.Graph.{Graph, LeadsTo, Reaches, IsReached, IsStateOf, pair_by}
use Rattle.rulebook_order.specs.NoWorse.{Beats}
use Rattle.rulebook_order.specs.StepGraph.{IsStepGraph, AddsUpTo}
use Rattle.rulebook_order.specs.Sums.{sums}
use Rattle.rulebook_order.specs.VectorOrder.{Holds, IsVectorOrder}
use Rattle.rulebook_order.proofs.Lists.{slice_get_some, pair_at}
use Rattle.rulebook_order.proofs.Reached.{width_reached}
use Rattle.graph_table.specs.Tables.{HasMoreStates}
use Rattle.graph_table.specs.Visits.{visited}
use Rattle.graph_table.proofs.VisitLaws.{contains_filter, visited_all, visited_reached}
use Rattle.graph_table.proofs.Zips.{zip_at, zip_length}

-- the pairs of a state and a running vector as states of a graph
abbrev pair_graph : {S : Type 0} → Graph S → Graph (S × List ℕ)
pair_graph g = record {
  width = g.width;
  last = g.last;
  step_limit = g.step_limit;
  start = (g.start, g.first);
  first = g.first;
  choices = λ p. g.choices p.0;
  next = pair_by g;
  cost = λ p c. g.cost p.0 c;
  finish = λ p. g.finish p.0;
  goal = λ p. g.goal p.0;
  tick = λ p. g.tick p.0;
}

module _ {S : Type 0} (g : Graph S) where
  leads_pairs : (cs : List ℕ) (s : S) (v : List ℕ) (t : S) (w : List ℕ) → LeadsTo g s v cs t w → LeadsTo (pair_graph g) (s, v) v cs (t, w) w
  leads_pairs [] s v t w h = (λ i. (h.0 i, h.1 i), h.1)
  leads_pairs (c ∷ cs) s v t w h = (h.0, leads_pairs cs (g.next s c) (sums v (g.cost s c)) t w h.1)

  leads_back : (cs : List ℕ) (s : S) (v : List ℕ) (q : S × List ℕ) (w : List ℕ) → LeadsTo (pair_graph g) (s, v) v cs q w → LeadsTo g s v cs q.0 w × (q.1 ≡ w)
  leads_back [] s v q w h = ((ap (λ p. p.0) h.0, h.1), ap (λ p. p.1) h.0 ∙ sym h.1)
  leads_back (c ∷ cs) s v q w h = (let more = leads_back cs (g.next s c) (sums v (g.cost s c)) q w h.1 in ((h.0, more.0), more.1))

  pair_reached : (s : S) (v : List ℕ) → IsReached g s v → IsStateOf (pair_graph g) (s, v)
  pair_reached s v r = (v, record { list = r.list; reaches = leads_pairs r.list g.start g.first s v r.reaches })

  reached_pair : (p : S × List ℕ) → IsStateOf (pair_graph g) p → IsReached g p.0 p.1
  reached_pair p r = (let back = leads_back r.1.list g.start g.first p r.0 r.1.reaches in record { list = r.1.list; reaches = subst (λ (v : List ℕ). Reaches g r.1.list p.0 v) (sym back.1) back.0 })

  state_of_pair : (p : S × List ℕ) → IsStateOf (pair_graph g) p → IsStateOf g p.0
  state_of_pair p r = (p.1, reached_pair p r)

  adds_so : (limit : ℕ) (vector : List ℕ) → AddsUpTo g limit vector → AddsUpTo (pair_graph g) limit vector
  adds_so limit vector up = record { width = up.width; up_to = up.up_to }

  pair_laws : IsStepGraph g → IsStepGraph (pair_graph g)
  pair_laws laws = record {
    width = laws.width;
    choices = λ p r. laws.choices p.0 (state_of_pair p r);
    start_tick = laws.start_tick;
    tick_rises = λ p c r below. laws.tick_rises p.0 c (state_of_pair p r) below;
    tick_high = λ p r. laws.tick_high p.0 (state_of_pair p r);
    first = adds_so g.step_limit g.first laws.first;
    cost = λ p c r below. (let up = laws.cost p.0 c (state_of_pair p r) below in record { width = up.width; up_to = up.up_to });
    finish = λ p r. adds_so g.step_limit (g.finish p.0) (laws.finish p.0 (state_of_pair p r));
    sums_fit = laws.sums_fit;
  }

module _ {X : Type 0} (f : X → List ℕ) (width : ℕ) (no_worse : List ℕ → List ℕ → Bool) (order : IsVectorOrder width no_worse) where
  abbrev Wide : X → Type 0
  Wide x = length (f x) ≡ width

  abbrev Fails : X → X → Type 0
  Fails m x = ¬ Beats (Holds no_worse) (f x) (f m)

  never_itself : (x : X) → Fails x x
  never_itself x beats = beats.one_way beats.no_worse

  -- one of finitely many is beaten by none of them
  unbeaten : (x : X) (xs : List X) → Wide x → All Wide xs → (m : X) × (Contains (x ∷ xs) m × (Wide m × All (Fails m) (x ∷ xs)))
  unbeaten x [] wide all = (x, ((0, omega arith, refl), (wide, All-cons (Fails x) x [] (never_itself x) (All-nil (Fails x)))))
  unbeaten x (y ∷ ys) wide all =
      let wide_y = All-head Wide y ys all in
      let rest = All-tail Wide y ys all in
      let ih = unbeaten x ys wide rest in
      elim (cases_Bool (no_worse (f y) (f ih.0))) [
        | inl better ↦ elim (cases_Bool (no_worse (f ih.0) (f y))) [
          | inl back ↦ kept x y ys ih (λ beats. beats.one_way back)
          | inr one_way ↦ (y, (second x y ys, (wide_y, between x y ys (Fails y) (below ih.0 y x ih.1.1.0 wide_y wide better one_way (All-head (Fails ih.0) x ys ih.1.1.1)) (never_itself y) (all_below ih.0 y ih.1.1.0 wide_y better one_way ys rest (All-tail (Fails ih.0) x ys ih.1.1.1)))))
        ]
        | inr worse ↦ kept x y ys ih (λ beats. both_ways (no_worse (f y) (f ih.0)) worse beats.no_worse)
      ]
    where
      second : (x y : X) (ys : List X) → Contains (x ∷ y ∷ ys) y
      second x y ys = (1, omega arith, refl)

      between : (x y : X) (ys : List X) (P : X → Type 0) → P x → P y → All P ys → All P (x ∷ y ∷ ys)
      between x y ys P a b all = All-cons P x (y ∷ ys) a (All-cons P y ys b all)

      stays : (x y : X) (ys : List X) (m : X) → Contains (x ∷ ys) m → Contains (x ∷ y ∷ ys) m
      stays x y ys m (zero, inside, at) = (0, omega arith, at)
      stays x y ys m (suc k, inside, at) = (suc (suc k), omega arith, at)

      kept : (x y : X) (ys : List X) → (ih : (m : X) × (Contains (x ∷ ys) m × (Wide m × All (Fails m) (x ∷ ys)))) → Fails ih.0 y → (m : X) × (Contains (x ∷ y ∷ ys) m × (Wide m × All (Fails m) (x ∷ y ∷ ys)))
      kept x y ys ih fails = (ih.0, (stays x y ys ih.0 ih.1.0, (ih.1.1.0, between x y ys (Fails ih.0) (All-head (Fails ih.0) x ys ih.1.1.1) fails (All-tail (Fails ih.0) x ys ih.1.1.1))))

      -- what does not beat m does not beat what beats m
      below : (m y x : X) → Wide m → Wide y → Wide x → no_worse (f y) (f m) ≡ true → no_worse (f m) (f y) ≡ false → Fails m x → Fails y x
      below m y x wide_m wide_y wide_x better one_way fails beats = fails (record {
        no_worse = order.transitive (f x) (f y) (f m) wide_x wide_y wide_m beats.no_worse better;
        one_way = λ back. both_ways (no_worse (f m) (f y)) one_way (order.transitive (f m) (f x) (f y) wide_m wide_x wide_y back beats.no_worse);
      })

      all_below : (m y : X) → Wide m → Wide y → no_worse (f y) (f m) ≡ true → no_worse (f m) (f y) ≡ false → (xs : List X) → All Wide xs → All (Fails m) xs → All (Fails y) xs
      all_below m y wide_m wide_y better one_way [] wide fails = All-nil (Fails y)
      all_below m y wide_m wide_y better one_way (x ∷ xs) wide fails =
          All-cons (Fails y) x xs (below m y x wide_m wide_y (All-head Wide x xs wide) better one_way (All-head (Fails m) x xs fails)) (all_below m y wide_m wide_y better one_way xs (All-tail Wide x xs wide) (All-tail (Fails m) x xs fails))

module _ {S : Type 0} (eq : S → S → Bool) (eq_laws : IsEquivalence eq) (same : (s t : S) → eq s t ≡ true → s ≡ t) (g : Graph S) (laws : IsStepGraph g) (no_worse : List ℕ → List ℕ → Bool) (order : IsVectorOrder g.width no_worse) where
  abbrev never : S × List ℕ → S × List ℕ → Bool
  never p q = false

  never_same : (p q : S × List ℕ) → never p q ≡ true → p ≡ q
  never_same p q h = absurd cc

  -- the pairs that lists of choices reach, at one state
  abbrev pairs_at : S → List (S × List ℕ)
  pairs_at s = filter (λ p. eq s p.0) (visited never (pair_graph g) g.last)

  abbrev vector_of : S × List ℕ → List ℕ
  vector_of p = p.1

  all_at : (s : S) (v : List ℕ) → IsReached g s v → Contains (pairs_at s) (s, v)
  all_at s v r = contains_filter (λ p. eq s p.0) (visited never (pair_graph g) g.last) (s, v) (eq_laws.refl s) (visited_all never (pair_graph g) (pair_laws g laws) never_same (s, v) (pair_reached g s v r))

  abbrev IsPairAt : S → S × List ℕ → Type 0
  IsPairAt s p = IsReached g s p.1

  are_at : (s : S) → All (IsPairAt s) (pairs_at s)
  are_at s =
      let reached = All-filter (λ p. eq s p.0) (IsStateOf (pair_graph g)) (visited never (pair_graph g) g.last) (visited_reached never (pair_graph g) g.last) in
      let here = filter_passes (λ p. eq s p.0) (visited never (pair_graph g) g.last) in
      λ k d inside.
      let p = get_or (pairs_at s) k d in
      let r = reached_pair g p (reached k d inside) in
      subst (λ (t : S). IsReached g t p.1) (sym (same s p.0 (here k d inside))) r

  front_in : (s : S) (v : List ℕ) (pairs : List (S × List ℕ)) → pairs ≡ pairs_at s → Contains pairs (s, v) → (w : List ℕ) × IsUndominated g (Holds no_worse) s w
  front_in s v [] is there = absurd (omega (arith, there.1))
  front_in s v (p ∷ pairs) is there =
      let at : All (IsPairAt s) (p ∷ pairs) = subst (λ ps. All (IsPairAt s) ps) (sym is) (are_at s) in
      let wide : All (λ (q : S × List ℕ). length q.1 ≡ g.width) (p ∷ pairs) = All-weaker (IsPairAt s) (λ q. length q.1 ≡ g.width) (λ q r. width_reached g laws s q.1 r) (p ∷ pairs) at in
      let m = unbeaten vector_of g.width no_worse order p pairs (All-head (λ q. length q.1 ≡ g.width) p pairs wide) (All-tail (λ q. length q.1 ≡ g.width) p pairs wide) in (
        m.0.1,
        record {
          has = All-contains (IsPairAt s) (p ∷ pairs) m.0 at m.1.0;
          unbeaten = λ w r. All-contains (λ (q : S × List ℕ). ¬ Beats (Holds no_worse) q.1 m.0.1) (p ∷ pairs) (s, w) m.1.1.1 (subst (λ ps. Contains ps (s, w)) (sym is) (all_at s w r));
        },
      )

  pub undominated_at : (s : S) → IsStateOf g s → (v : List ℕ) × IsUndominated g (Holds no_worse) s v
  undominated_at s r = front_in s r.0 (pairs_at s) refl (all_at s r.0 r.1)

  abbrev IsOf : S → S × List ℕ → Type 0
  IsOf s p = p.0 ≡ s

  abbrev Undominated : S × List ℕ → Type 0
  Undominated p = IsUndominated g (Holds no_worse) p.0 p.1

  pair_each : (states : List S) → All (IsStateOf g) states → (pairs : List (S × List ℕ)) × (AllZip IsOf states pairs × All Undominated pairs)
  pair_each [] all = ([], (tt, All-nil Undominated))
  pair_each (s ∷ states) all =
      let one = undominated_at s (All-head (IsStateOf g) s states all) in
      let more = pair_each states (All-tail (IsStateOf g) s states all) in
      ((s, one.0) ∷ more.0, ((refl, more.1.0), All-cons Undominated (s, one.0) more.0 one.1 more.1.1))

  pairs_once : (states : List S) (pairs : List (S × List ℕ)) → AllZip IsOf states pairs → AllPairs (λ s t. s ≢ t) states → AllPairs (λ p q. p ≢ q) pairs
  pairs_once states pairs zip once i j d below inside e =
      let long = zip_length IsOf states pairs zip in
      let s = slice_get_some states i (omega arith) in
      let t = slice_get_some states j (omega arith) in
      pair_at (λ x y. x ≢ y) states once i j s.0 t.0 below s.1 t.1 (sym (zip_at IsOf states pairs i s.0 d zip s.1) ∙ (ap (λ p. p.0) e ∙ zip_at IsOf states pairs j t.0 d zip t.1))

  -- where more states are reached than a limit, there are more undominated pairs than it
  pub more_pairs : (limit : ℕ) → HasMoreStates g limit → HasMoreUndominated g (Holds no_worse) limit
  more_pairs limit more =
      let each = pair_each more.states more.reached in
      record {
        pairs = each.0;
        undominated = record { sound = each.1.1; once = pairs_once more.states each.0 each.1.0 more.once };
        more = (let long = zip_length IsOf more.states each.0 each.1.0 in omega (arith, more.more));
      }
