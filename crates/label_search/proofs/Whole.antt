-- What was found, from what was searched.
use Rattle.std.proofs.Common.{◌≡◌, ℕ, ◌+◌, ◌*◌, ◌<◌, ◌≤◌, ◌^◌, Bool, List, length, ap, sym, subst, ◌∙◌, arith}
use Rattle.std.specs.Prelude.{All, Some, slice_get, IsTrue, map, option_map}
use Rattle.std.proofs.Math.Nat.{mul-le-mul_right}
use Rattle.std.proofs.lemmas.Option.{same_Some, slice_get_within, slice_get-map}
use Rattle.std.proofs.lemmas.List.{length-map}
use Rattle.std.proofs.lemmas.List.Sums.{sum_by-le}
use Rattle.std.proofs.lemmas.List.Elements.{All-contains, All-weaker, All-map}
use Rattle.std.proofs.lemmas.Simd.{map-map}
use Rattle.rulebook_order.specs.Answer.{IsAnswerList, IsUndominated}
use Rattle.rulebook_order.specs.Certified.{IsGoalLabel, goals_in}
use Rattle.rulebook_order.specs.Graph.{Graph, IsReached, IsAttained, finished}
use Rattle.rulebook_order.specs.StepGraph.{IsStepGraph}
use Rattle.rulebook_order.specs.NoWorse.{AreApart}
use Rattle.rulebook_order.specs.VectorOrder.{Holds, IsVectorOrder}
use Rattle.rulebook_order.proofs.Covering.{Covers, undominated_exact, undominated_once}
use Rattle.rulebook_order.proofs.Lists.{slice_get_some, Contains-map, Contains-from_slice_get, AllPairs-map}
use Rattle.rulebook_order.proofs.Reached.{IsAttained-at, width_attained, width_finished, finished_keeps}
use Rattle.label_search.specs.declared.arrival.Arrival.{Arrival}
use Rattle.label_search.specs.declared.candidate.Candidate.{Candidate}
use Rattle.label_search.specs.declared.label.Label.{Label}
use Rattle.label_search.specs.Candidates.{StandApart}
use Rattle.label_search.specs.Found.{pairs_of, HaveParents, AreFinals, AreGoalLinks, HasChoicesUpTo}
use Rattle.label_search.specs.Limit.{StepsWithin}
use Rattle.label_search.specs.Linking.{arrival_of, IsFinalOf, IsAnswered, IsGoalLinked}
use Rattle.label_search.specs.Search.{IsSearched, IsCoveredAt, ComeFromParents, pair_of, start_arrival}
use Rattle.label_search.proofs.GoalLabels.{finished_final, finished_finals}

-- the pairs of labels are those of their arrivals
pub pairs_of-arrivals : {S : Type 0} (labels : List (Label S)) (arrivals : List (Arrival S)) → map arrival_of labels ≡ arrivals → pairs_of labels ≡ map pair_of arrivals
pairs_of-arrivals labels arrivals is = sym (map-map pair_of arrival_of labels) ∙ ap (map pair_of) is

pair_there : {S : Type 0} (arrivals : List (Arrival S)) (k : ℕ) (x : Arrival S) → slice_get arrivals k ≡ Some x → slice_get (map pair_of arrivals) k ≡ Some (pair_of x)
pair_there arrivals k x at = slice_get-map pair_of arrivals k ∙ ap (option_map pair_of) at

-- the labels have their parents
pub parents_are : {S : Type 0} (g : Graph S) (labels : List (Label S)) (arrivals : List (Arrival S)) → map arrival_of labels ≡ arrivals → ComeFromParents g arrivals → HaveParents g labels
parents_are {S} g labels arrivals is parents =
    let arrival_there : (k : ℕ) (label : Label S) → slice_get labels k ≡ Some label → slice_get arrivals k ≡ Some (arrival_of label) = λ k label at. sym (ap (λ xs. slice_get xs k) is) ∙ (slice_get-map arrival_of labels k ∙ ap (option_map arrival_of) at) in
    let pairs = pairs_of-arrivals labels arrivals is in
    record {
      some = (let h = slice_get_within arrivals 0 (start_arrival g) parents.first in omega (arith, ap (length {A = Arrival S}) is, length-map labels (λ (label : Label S). arrival_of label)));
      first = λ label at.
          let e : arrival_of label ≡ start_arrival g = same_Some _ _ (sym (arrival_there 0 label at) ∙ parents.first) in
          record { state_is = ap (λ (x : Arrival S). x.state) e; vector_is = ap (λ (x : Arrival S). x.vector) e; parent_is = ap (λ (x : Arrival S). x.parent) e; choice_is = ap (λ (x : Arrival S). x.choice) e };
      later = λ k label up at.
          let h = parents.later k (arrival_of label) up (arrival_there k label at) in
          record {
            state = h.parent.state;
            vector = h.parent.vector;
            parent_is = ap (λ ps. slice_get ps label.parent) pairs ∙ pair_there arrivals label.parent h.parent h.parent_is;
            earlier = h.earlier;
            choice_below = h.choice_below;
            leads = ap (λ ps. slice_get ps k) pairs ∙ (pair_there arrivals k (arrival_of label) (arrival_there k label at) ∙ ap (λ x. Some (pair_of x)) h.arrival_is);
          };
    }

pub length-pairs : {S : Type 0} (labels : List (Label S)) → length (pairs_of labels) ≡ length labels
length-pairs {S} labels = length-map labels (λ (x : Label S). (x.state, x.vector))

-- no more steps than the limit times the most choices of a state
pub steps_each : {S : Type 0} (g : Graph S) (IsNoWorse : List ℕ → List ℕ → Type 0) (limit old new : ℕ) → StepsWithin g IsNoWorse limit old new → (most : ℕ) → HasChoicesUpTo g most → new ≤ old + limit * most
steps_each {S} g IsNoWorse limit old new h most up_to =
    let few = sum_by-le (λ (pair : S × List ℕ). g.choices pair.0) most h.pairs (All-weaker (λ (pair : S × List ℕ). IsUndominated g IsNoWorse pair.0 pair.1) (λ (pair : S × List ℕ). g.choices pair.0 ≤ most) (λ pair u. up_to pair.0 (pair.1, u.has)) h.pairs h.undominated.sound) in
    let all : length h.pairs * most ≤ limit * most = mul-le-mul_right most h.within in
    omega (arith, h.steps)

module _ {S : Type 0} (g : Graph S) (laws : IsStepGraph g) (no_worse : List ℕ → List ℕ → Bool) (order : IsVectorOrder g.width no_worse) (arrivals extensions : List (Arrival S)) (searched : IsSearched g no_worse (g.last + 1) arrivals extensions) where
  -- at the end every state is below the tick
  pub covered_at_end : (s : S) (v : List ℕ) → IsReached g s v → IsCoveredAt no_worse arrivals s v
  covered_at_end s v r = searched.covers s v r (let h = laws.tick_high s (v, r) in omega arith)

  -- the finals are the answer
  module _ (finals : List Candidate) (from : All (IsFinalOf g arrivals) finals) (apart : StandApart no_worse finals) (answers : All (IsAnswered g no_worse finals) arrivals) where
    attained : All (IsAttained g) (map (λ (x : Candidate). x.vector) finals)
    attained = All-map (IsAttained g) (λ (x : Candidate). x.vector) finals (All-weaker (IsFinalOf g arrivals) (λ x. IsAttained g x.vector)
        (λ x h. subst (IsAttained g) (sym h.vector_is) (IsAttained-at g h.arrival.state h.arrival.vector (All-contains (λ y. IsReached g y.state y.vector) arrivals h.arrival searched.reached (Contains-from_slice_get arrivals x.number h.arrival h.arrival_is)) h.at_goal))
        finals from)

    covers : (w : List ℕ) → IsAttained g w → Covers no_worse (map (λ (x : Candidate). x.vector) finals) w
    covers w a =
        let s = a.attains.state in
        let r : IsReached g s a.attains.vector = record { list = a.list; reaches = a.attains.reaches } in
        let c = covered_at_end s a.attains.vector r in
        let by_reached = subst (λ t. IsReached g t c.by.vector) c.state_is (All-contains (λ y. IsReached g y.state y.vector) arrivals c.by searched.reached c.listed) in
        let goal : IsTrue (g.goal c.by.state) = subst (λ t. IsTrue (g.goal t)) (sym c.state_is) a.attains.at_goal in
        let f = All-contains (IsAnswered g no_worse finals) arrivals c.by answers c.listed goal in
        let to_label : IsTrue (no_worse f.by.vector (finished g s c.by.vector)) = subst (λ t. IsTrue (no_worse f.by.vector (finished g t c.by.vector))) c.state_is f.no_worse_is in
        let keeps = finished_keeps g laws no_worse order s c.by.vector a.attains.vector by_reached r c.no_worse_is in
        let listed = Contains-map (λ (x : Candidate). x.vector) finals f.by f.listed in
        let wide = width_attained g laws f.by.vector (All-contains (IsAttained g) (map (λ (x : Candidate). x.vector) finals) f.by.vector attained listed) in
        record {
          by = f.by.vector;
          listed = listed;
          no_worse_is = subst (λ v. IsTrue (no_worse f.by.vector v)) (sym a.attains.vector_is) (order.transitive f.by.vector (finished g s c.by.vector) (finished g s a.attains.vector) wide (width_finished g laws s c.by.vector by_reached) (width_finished g laws s a.attains.vector r) to_label keeps);
        }

    answer : IsAnswerList g (Holds no_worse) (map (λ (x : Candidate). x.vector) finals)
    answer =
        let vectors_apart = AllPairs-map (λ (x : Candidate). x.vector) (AreApart (Holds no_worse)) finals apart in
        record {
          exact = undominated_exact no_worse g.width order (IsAttained g) (width_attained g laws) (map (λ (x : Candidate). x.vector) finals) attained covers vectors_apart;
          once = undominated_once no_worse g.width order (IsAttained g) (width_attained g laws) (map (λ (x : Candidate). x.vector) finals) attained covers vectors_apart;
        }

    pub finals_are : AreFinals g (Holds no_worse) (map pair_of arrivals) (map (λ (x : Candidate). x.number) finals)
    finals_are = record {
      at_goal = All-map (IsGoalLabel g (map pair_of arrivals)) (λ (x : Candidate). x.number) finals (All-weaker (IsFinalOf g arrivals) (λ x. IsGoalLabel g (map pair_of arrivals) x.number)
          (λ x h. record { state = h.arrival.state; vector = h.arrival.vector; pair_is = slice_get-map pair_of arrivals x.number ∙ ap (option_map pair_of) h.arrival_is; goal_is = h.at_goal })
          finals from);
      answer = subst (IsAnswerList g (Holds no_worse)) (sym (finished_finals g arrivals finals from)) answer;
    }

    pub goal_links_are : (links : List ℕ) → length links ≡ goals_in g (map pair_of arrivals) → ((k : ℕ) → IsGoalLinked g no_worse arrivals finals links k) → AreGoalLinks g (Holds no_worse) (map pair_of arrivals) (map (λ (x : Candidate). x.number) finals) links
    goal_links_are links count linked = record {
      count = count;
      linked = λ k s v at goal.
          let inside = slice_get_within (map pair_of arrivals) k (s, v) at in
          let x = slice_get_some arrivals k (omega (arith, length-map arrivals (λ (y : Arrival S). pair_of y))) in
          let pair : pair_of x.0 ≡ (s, v) = same_Some _ _ (sym (pair_there arrivals k x.0 x.1) ∙ at) in
          let h = linked k x.0 x.1 (subst (λ t. IsTrue (g.goal t)) (sym (ap (λ p. p.0) pair)) goal) in
          let f = All-contains (IsFinalOf g arrivals) finals h.cover.by from h.cover.listed in
          let le : IsTrue (no_worse h.cover.by.vector (finished g s v)) = subst (λ (p : S × List ℕ). IsTrue (no_worse h.cover.by.vector (finished g p.0 p.1))) pair h.cover.no_worse_is in
          record {
            final = h.cover.by.number;
            link_is = h.number_is;
            listed = Contains-map (λ (y : Candidate). y.number) finals h.cover.by h.cover.listed;
            no_worse_is = subst (λ w. IsTrue (no_worse w (finished g s v))) (sym (finished_final g arrivals h.cover.by f)) le;
          };
    }

pub final_numbers_fit : {S : Type 0} (g : Graph S) (arrivals : List (Arrival S)) (finals : List Candidate) → length arrivals ≤ 2 ^ 32 → All (IsFinalOf g arrivals) finals → All (λ x. x.number < 2 ^ 32) finals
final_numbers_fit g arrivals finals fits all = All-weaker (IsFinalOf g arrivals) (λ x. x.number < 2 ^ 32) (λ x h. let inside = slice_get_within arrivals x.number h.arrival h.arrival_is in omega arith) finals all
