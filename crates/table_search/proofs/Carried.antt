-- What a search shows over a graph is shown over one that is alike, with the states of that one.
use Rattle.std.proofs.Common.{◌≡◌, ◌≢◌, ℕ, ◌<◌, List, [], ◌∷◌, get_or, refl, sym, ap, ◌∙◌, subst, arith, inl, inr}
use Rattle.std.specs.Prelude.{All, Contains, IsTrue, Some, slice_get, map, option_map, take}
use Rattle.std.proofs.lemmas.Bool.{cases_Bool}
use Rattle.std.proofs.lemmas.List.{length-map, take-map}
use Rattle.std.proofs.lemmas.List.Elements.{All-head, All-tail, All-take, All-map, All-weaker, All-contains}
use Rattle.std.proofs.lemmas.Option.{same_Some, slice_get_within, slice_get-get_or, slice_get-map, get_or_from_slice_get}
use Rattle.std.proofs.lemmas.Simd.{map-map}
use Rattle.rulebook_order.specs.Answer.{AreUndominated, IsAnswerList, IsUndominated}
use Rattle.rulebook_order.specs.Certified.{ComesFrom, IsGoalLabel, finished_at, finished_vectors, goals_in}
use Rattle.rulebook_order.specs.Graph.{Graph, IsStateOf, finished, pair_by}
use Rattle.rulebook_order.specs.Sums.{sums}
use Rattle.rulebook_order.proofs.GoalCount.{count-more, count-same}
use Rattle.rulebook_order.proofs.Lists.{AllPairs-map, Contains-from_slice_get, Contains-map, Contains-slice_get, slice_get_some}
use Rattle.label_search.specs.declared.label.Label.{Label}
use Rattle.label_search.specs.declared.label.SearchFault.{SearchFault}
use Rattle.label_search.specs.declared.label.SearchFault.TheVariants.{TooManyLabels, NoMemory}
use Rattle.label_search.specs.Found.{AreFinals, AreGoalLinks, HasLinks, HaveParents, IfTooMany, IsStartLabel, pairs_of}
use Rattle.graph_table.specs.Alike.{AreAlike}
use Rattle.graph_table.proofs.AlikeLaws.{answers_alike, stands, undominated_alike}

-- what there are too many of, carried over
pub carried_fault : (P Q : Type 0) (fault : SearchFault) → (P → Q) → IfTooMany P fault → IfTooMany Q fault
carried_fault P Q TooManyLabels f p = f p
carried_fault P Q NoMemory f p = tt

-- an item of the images is the image of an item
map_back : {X Y : Type 0} (f : X → Y) (xs : List X) (k : ℕ) (y : Y) → slice_get (map f xs) k ≡ Some y → (x : X) × ((slice_get xs k ≡ Some x) × (f x ≡ y))
map_back f xs k y at =
    let within = slice_get_within (map f xs) k y at in
    let x = slice_get_some xs k (omega (arith, within, length-map xs f)) in
    (x.0, (x.1, same_Some (f x.0) y (sym (slice_get-map f xs k ∙ ap (option_map f) x.1) ∙ at)))

-- the image of an item stands at the item's place
map_there : {X Y : Type 0} (f : X → Y) (xs : List X) (k : ℕ) (x : X) → slice_get xs k ≡ Some x → slice_get (map f xs) k ≡ Some (f x)
map_there f xs k x at = slice_get-map f xs k ∙ ap (option_map f) at

module _ {S T : Type 0} (g : Graph S) (h : Graph T) (R : S → T → Type 0) (a : AreAlike g h R) (f : T → S) (stands_for : (t : T) → IsStateOf h t → R (f t) t) (IsNoWorse : List ℕ → List ℕ → Type 0) where
  -- the pair at the state of the other graph
  abbrev carry : T × List ℕ → S × List ℕ
  carry p = (f p.0, p.1)

  -- the label at the state of the other graph
  abbrev pub carry_label : Label T → Label S
  carry_label label = record {
    state = f label.state;
    vector = label.vector;
    parent = label.parent;
    choice = label.choice;
    links = label.links;
  }

  pub carried_pairs : (labels : List (Label T)) → pairs_of (map carry_label labels) ≡ map carry (pairs_of labels)
  carried_pairs labels = map-map (λ (label : Label S). (label.state, label.vector)) carry_label labels ∙ sym (map-map carry (λ (label : Label T). (label.state, label.vector)) labels)

  same_next : (t : T) (c : ℕ) → IsStateOf h t → c < g.choices (f t) → IsStateOf h (h.next t c) → f (h.next t c) ≡ g.next (f t) c
  same_next t c reached below next = a.one_here (f (h.next t c)) (g.next (f t) c) (h.next t c) (stands_for (h.next t c) next) (a.next (f t) t c (stands_for t reached) below)

  same_goal : (t : T) → IsStateOf h t → g.goal (f t) ≡ h.goal t
  same_goal t reached = a.goal (f t) t (stands_for t reached)

  same_finished : (t : T) (v : List ℕ) → IsStateOf h t → finished g (f t) v ≡ finished h t v
  same_finished t v reached = ap (sums v) (a.finish (f t) t (stands_for t reached))

  same_goals : (pairs : List (T × List ℕ)) → All (λ p. IsStateOf h p.0) pairs → goals_in g (map carry pairs) ≡ goals_in h pairs
  same_goals [] all = refl
  same_goals (p ∷ pairs) all =
      let same = same_goal p.0 (All-head (λ p. IsStateOf h p.0) p pairs all) in
      let more = same_goals pairs (All-tail (λ p. IsStateOf h p.0) p pairs all) in
      elim (cases_Bool (h.goal p.0)) [
        | inl goal ↦ omega (arith, more, count-more g (carry p) (map carry pairs) (same ∙ goal), count-more h p pairs goal)
        | inr other ↦ omega (arith, more, count-same g (carry p) (map carry pairs) (same ∙ other), count-same h p pairs other)
      ]

  module _ (pairs : List (T × List ℕ)) (are : AreUndominated h IsNoWorse pairs) where
    reached : (k : ℕ) (p : T × List ℕ) → slice_get pairs k ≡ Some p → IsStateOf h p.0
    reached k p at = (p.1, ((are.exact p.0 p.1).0 (Contains-from_slice_get pairs k p at)).has)

    all_reached : All (λ p. IsStateOf h p.0) pairs
    all_reached k d inside = reached k (get_or pairs k d) (slice_get-get_or pairs k d inside)

    same_pair : (p q : T × List ℕ) → IsStateOf h p.0 → IsStateOf h q.0 → carry p ≡ carry q → p ≡ q
    same_pair p q at_p at_q e =
        let state : p.0 ≡ q.0 = a.one_there (f q.0) p.0 q.0 (subst (λ s. R s p.0) (ap (λ z. z.0) e) (stands_for p.0 at_p)) (stands_for q.0 at_q) in
        let vector : p.1 ≡ q.1 = ap (λ z. z.1) e in
        λ i. (state i, vector i)

    -- the undominated pairs are those of the other graph
    pub carried_undominated : AreUndominated g IsNoWorse (map carry pairs)
    carried_undominated = record {
      exact = λ s v. (
        λ there.
            let k = Contains-slice_get (map carry pairs) (s, v) there in
            let p = map_back carry pairs k.0 (s, v) k.1 in
            let at = reached k.0 p.0 p.1.0 in
            let here = (undominated_alike g h R a IsNoWorse (f p.0.0) p.0.0 p.0.1 (stands_for p.0.0 at)).1 ((are.exact p.0.0 p.0.1).0 (Contains-from_slice_get pairs k.0 p.0 p.1.0)) in
            subst (λ (q : S × List ℕ). IsUndominated g IsNoWorse q.0 q.1) p.1.1 here,
        λ undominated.
            let x = stands g h R a s (v, undominated.has) in
            let there = (undominated_alike g h R a IsNoWorse s x.0 v x.1).0 undominated in
            let same : f x.0 ≡ s = a.one_here (f x.0) s x.0 (stands_for x.0 (v, there.has)) x.1 in
            subst (λ y. Contains (map carry pairs) (y, v)) same (Contains-map carry pairs (x.0, v) ((are.exact x.0 v).1 there)),
      );
      once = AllPairs-map carry (λ p q. p ≢ q) pairs (λ i j d below inside e. are.once i j d below inside
          (same_pair (get_or pairs i d) (get_or pairs j d) (all_reached i d (omega arith)) (all_reached j d inside) e));
    }

    same_finished_at : (k : ℕ) (p : T × List ℕ) → slice_get pairs k ≡ Some p → finished_at g (map carry pairs) k ≡ finished_at h pairs k
    same_finished_at k p at =
        ap (λ (q : S × List ℕ). finished g q.0 q.1) (get_or_from_slice_get (map carry pairs) k (carry p) (g.start, g.first) (map_there carry pairs k p at))
        ∙ (same_finished p.0 p.1 (reached k p at) ∙ ap (λ (q : T × List ℕ). finished h q.0 q.1) (sym (get_or_from_slice_get pairs k p (h.start, h.first) at)))

    same_vectors : (numbers : List ℕ) → All (IsGoalLabel h pairs) numbers → finished_vectors g (map carry pairs) numbers ≡ finished_vectors h pairs numbers
    same_vectors [] all = refl
    same_vectors (k ∷ numbers) all =
        let at = All-head (IsGoalLabel h pairs) k numbers all in
        let one = same_finished_at k (at.state, at.vector) at.pair_is in
        let more = same_vectors numbers (All-tail (IsGoalLabel h pairs) k numbers all) in
        λ i. one i ∷ more i

    -- the finals are those of the other graph
    pub carried_finals : (finals : List ℕ) → AreFinals h IsNoWorse pairs finals → AreFinals g IsNoWorse (map carry pairs) finals
    carried_finals finals found = record {
      at_goal = All-weaker (IsGoalLabel h pairs) (IsGoalLabel g (map carry pairs)) (λ k x. record {
        state = f x.state;
        vector = x.vector;
        pair_is = map_there carry pairs k (x.state, x.vector) x.pair_is;
        goal_is = same_goal x.state (reached k (x.state, x.vector) x.pair_is) ∙ x.goal_is;
      }) finals found.at_goal;
      answer = subst (IsAnswerList g IsNoWorse) (sym (same_vectors finals found.at_goal)) (answers_alike g h R a IsNoWorse (finished_vectors h pairs finals) found.answer);
    }

    -- the goal links are those of the other graph
    pub carried_goal_links : (finals links : List ℕ) → AreFinals h IsNoWorse pairs finals → AreGoalLinks h IsNoWorse pairs finals links → AreGoalLinks g IsNoWorse (map carry pairs) finals links
    carried_goal_links finals links found linked = record {
      count = linked.count ∙ sym (same_goals pairs all_reached);
      linked = λ k s v at goal.
          let p = map_back carry pairs k (s, v) at in
          let state = reached k p.0 p.1.0 in
          let here : IsTrue (g.goal (f p.0.0)) = ap (λ (q : S × List ℕ). g.goal q.0) p.1.1 ∙ goal in
          let x = linked.linked k p.0.0 p.0.1 p.1.0 (sym (same_goal p.0.0 state) ∙ here) in
          let before : goals_in g (take k (map carry pairs)) ≡ goals_in h (take k pairs) = ap (goals_in g) (take-map carry k pairs) ∙ same_goals (take k pairs) (All-take (λ p. IsStateOf h p.0) k pairs all_reached) in
          let final = All-contains (IsGoalLabel h pairs) finals x.final found.at_goal x.listed in
          let same = same_finished_at x.final (final.state, final.vector) final.pair_is in
          let no_worse : IsNoWorse (finished_at g (map carry pairs) x.final) (finished g (f p.0.0) p.0.1) =
          subst (λ w. IsNoWorse w (finished g (f p.0.0) p.0.1)) (sym same) (subst (IsNoWorse (finished_at h pairs x.final)) (sym (same_finished p.0.0 p.0.1 state)) x.no_worse_is) in
          record {
            final = x.final;
            link_is = ap (slice_get links) before ∙ x.link_is;
            listed = x.listed;
            no_worse_is = subst (λ (q : S × List ℕ). IsNoWorse (finished_at g (map carry pairs) x.final) (finished g q.0 q.1)) p.1.1 no_worse;
          };
    }

    carried_link : (label : Label T) → IsStateOf h label.state → HasLinks h IsNoWorse pairs label → HasLinks g IsNoWorse (map carry pairs) (carry_label label)
    carried_link label at has = record {
      count = has.count ∙ sym (a.choices (f label.state) label.state (stands_for label.state at));
      linked = λ c below.
          let x = has.linked c (rw (← a.choices (f label.state) label.state (stands_for label.state at)) below) in
          let next : f (h.next label.state c) ≡ g.next (f label.state) c = same_next label.state c at below (reached x.link (h.next label.state c, x.found) x.pair_is) in
          record {
            link = x.link;
            found = x.found;
            link_is = x.link_is;
            pair_is = map_there carry pairs x.link (h.next label.state c, x.found) x.pair_is ∙ ap (λ y. Some (y, x.found)) next;
            no_worse_is = subst (λ w. IsNoWorse x.found (sums label.vector w)) (sym (a.cost (f label.state) label.state c (stands_for label.state at) below)) x.no_worse_is;
          };
    }

    carried_origin : (k parent choice : ℕ) → ComesFrom h pairs k parent choice → ComesFrom g (map carry pairs) k parent choice
    carried_origin k parent choice x =
        let at = reached parent (x.state, x.vector) x.parent_is in
        let below : choice < g.choices (f x.state) = rw (a.choices (f x.state) x.state (stands_for x.state at)) x.choice_below in
        let next = same_next x.state choice at below (reached k (pair_by h (x.state, x.vector) choice) x.leads) in
        let cost = a.cost (f x.state) x.state choice (stands_for x.state at) below in
        let same : carry (pair_by h (x.state, x.vector) choice) ≡ pair_by g (f x.state, x.vector) choice = λ i. (next i, sums x.vector (sym cost i)) in
        record {
          state = f x.state;
          vector = x.vector;
          parent_is = map_there carry pairs parent (x.state, x.vector) x.parent_is;
          earlier = x.earlier;
          choice_below = below;
          leads = map_there carry pairs k (pair_by h (x.state, x.vector) choice) x.leads ∙ ap Some same;
        }

  module _ (labels : List (Label T)) (are : AreUndominated h IsNoWorse (pairs_of labels)) where
    label_reached : (k : ℕ) (label : Label T) → slice_get labels k ≡ Some label → IsStateOf h label.state
    label_reached k label at = reached (pairs_of labels) are k (label.state, label.vector) (map_there (λ (x : Label T). (x.state, x.vector)) labels k label at)

    -- the states of the labels are those of the graph
    pub labels_reached : All (λ (label : Label T). IsStateOf h label.state) labels
    labels_reached k d inside = label_reached k (get_or labels k d) (slice_get-get_or labels k d inside)

    pub labels_undominated : AreUndominated g IsNoWorse (pairs_of (map carry_label labels))
    labels_undominated = subst (AreUndominated g IsNoWorse) (sym (carried_pairs labels)) (carried_undominated (pairs_of labels) are)

    pub labels_finals : (finals : List ℕ) → AreFinals h IsNoWorse (pairs_of labels) finals → AreFinals g IsNoWorse (pairs_of (map carry_label labels)) finals
    labels_finals finals found = subst (λ ps. AreFinals g IsNoWorse ps finals) (sym (carried_pairs labels)) (carried_finals (pairs_of labels) are finals found)

    pub labels_goal_links : (finals links : List ℕ) → AreFinals h IsNoWorse (pairs_of labels) finals → AreGoalLinks h IsNoWorse (pairs_of labels) finals links → AreGoalLinks g IsNoWorse (pairs_of (map carry_label labels)) finals links
    labels_goal_links finals links found linked = subst (λ ps. AreGoalLinks g IsNoWorse ps finals links) (sym (carried_pairs labels)) (carried_goal_links (pairs_of labels) are finals links found linked)

    pub labels_links : All (HasLinks h IsNoWorse (pairs_of labels)) labels → All (HasLinks g IsNoWorse (pairs_of (map carry_label labels))) (map carry_label labels)
    labels_links all = subst (λ ps. All (HasLinks g IsNoWorse ps) (map carry_label labels)) (sym (carried_pairs labels))
        (All-map (HasLinks g IsNoWorse (map carry (pairs_of labels))) carry_label labels
        (λ k d inside. carried_link (pairs_of labels) are (get_or labels k d) (labels_reached k d inside) (all k d inside)))

    start_carried : (label : Label T) → IsStateOf h label.state → IsStartLabel h label → IsStartLabel g (carry_label label)
    start_carried label at x = record {
      state_is = a.one_here (f label.state) g.start label.state (stands_for label.state at) (subst (λ t. R g.start t) (sym x.state_is) a.start);
      vector_is = x.vector_is ∙ sym a.first;
      parent_is = x.parent_is;
      choice_is = x.choice_is;
    }

    pub labels_parents : HaveParents h labels → HaveParents g (map carry_label labels)
    labels_parents have = record {
      some = omega (arith, have.some, length-map labels carry_label);
      first = λ label at.
          let l = map_back carry_label labels 0 label at in
          subst (IsStartLabel g) l.1.1 (start_carried l.0 (label_reached 0 l.0 l.1.0) (have.first l.0 l.1.0));
      later = λ k label up at.
          let l = map_back carry_label labels k label at in
          subst (λ ps. ComesFrom g ps k label.parent label.choice) (sym (carried_pairs labels))
          (subst (λ (x : Label S). ComesFrom g (map carry (pairs_of labels)) k x.parent x.choice) l.1.1
          (carried_origin (pairs_of labels) are k l.0.parent l.0.choice (have.later k l.0 up l.1.0)));
    }
