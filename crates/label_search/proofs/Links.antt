-- Candidates by state, and links to them.
use Rattle.std.proofs.Common.{◌≡◌, ℕ, zero, suc, ◌+◌, ◌-◌, ◌<◌, ◌≤◌, ◌^◌, Bool, true, false, List, [], ◌∷◌, ◌++◌, length, take, drop, refl, ap, sym, subst, ◌∙◌, arith, inl, inr, append_assoc}
use Rattle.std.specs.Prelude.{All, Contains, Some, slice_get, IsTrue, map, option_map}
use Rattle.std.specs.Cmp.{IsEquivalence}
use Rattle.std.proofs.Math.ListN.{length-append}
use Rattle.std.proofs.Math.Seq.{take-append_seam, drop-append_seam}
use Rattle.std.proofs.lemmas.Bool.{cases_order}
use Rattle.std.proofs.lemmas.Option.{same_Some, slice_get_within, slice_get-map, get_or_from_slice_get}
use Rattle.std.proofs.lemmas.List.{take_more}
use Rattle.std.proofs.lemmas.List.Elements.{All-push, All-contains, All-weaker, Contains-push, Contains-append_left}
use Rattle.rulebook_order.specs.Certified.{IsLinked}
use Rattle.rulebook_order.specs.Graph.{Graph}
use Rattle.rulebook_order.specs.VectorOrder.{Holds, IsVectorOrder}
use Rattle.rulebook_order.proofs.Lists.{slice_get-append, slice_get-snoc, Contains-slice_get}
use Rattle.label_search.specs.declared.arrival.Arrival.{Arrival}
use Rattle.label_search.specs.declared.candidate.Candidate.{Candidate}
use Rattle.label_search.specs.Candidates.{IsCovered}
use Rattle.label_search.specs.Search.{ComeFromParents, IsCoveredAt, extension, extensions_below, extensions_from, pair_of}
use Rattle.label_search.specs.Settling.{IsArrival, HasNumber}
use Rattle.label_search.specs.Linking.{AreByState, IsCoveredBy, IsOwnLabel, IsTold}
use Rattle.label_search.proofs.Groups.{at_each}
use Rattle.label_search.proofs.Turns.{extensions_from-snoc}

-- one more arrival among those of its state
module _ {S : Type 0} (eq : S → S → Bool) (equal : IsEquivalence eq) (same : (a b : S) → eq a b ≡ true → a ≡ b) (arrivals : List (Arrival S)) (n : ℕ) (x : Arrival S) (at : slice_get arrivals n ≡ Some x) (new : Candidate) (vector_is : x.vector ≡ new.vector) (number_is : new.number ≡ n) (before after : S → List Candidate) (added : (q : S) → eq x.state q ≡ true → after q ≡ before x.state ++ new ∷ []) (others : (q : S) → eq x.state q ≡ false → after q ≡ before q) where
  pub from_more : ((s : S) → All (IsArrival arrivals s) (before s)) → (s : S) → All (IsArrival arrivals s) (after s)
  from_more from = at_each eq same before after x.state (before x.state ++ new ∷ []) added others (λ s items. All (IsArrival arrivals s) items)
      (All-push (IsArrival arrivals x.state) (before x.state) new (from x.state) (record { arrival = x; arrival_is = ap (slice_get arrivals) number_is ∙ at; state_is = refl; vector_is = vector_is }))
      from

  pub all_more : ((k : ℕ) (y : Arrival S) → k < n → slice_get arrivals k ≡ Some y → HasNumber (before y.state) k) → (k : ℕ) (y : Arrival S) → k < n + 1 → slice_get arrivals k ≡ Some y → HasNumber (after y.state) k
  all_more all k y below y_at = elim (cases_order k n) [
    | inl now ↦
        let e : x ≡ y = same_Some _ _ (sym at ∙ (ap (slice_get arrivals) (sym now) ∙ y_at)) in
        subst (λ (z : Arrival S). HasNumber (after z.state) k) e
        (subst (λ items. HasNumber items k) (sym (added x.state (equal.refl x.state))) (record { candidate = new; listed = Contains-push (before x.state) new; number_is = number_is ∙ sym now }))
    | inr (inl less) ↦ at_each eq same before after x.state (before x.state ++ new ∷ []) added others (λ s items. HasNumber (before s) k → HasNumber items k)
        (λ h. record { candidate = h.candidate; listed = Contains-append_left (before x.state) (new ∷ []) h.candidate h.listed; number_is = h.number_is }) (λ s h. h) y.state (all k y less y_at)
    | inr (inr more) ↦ absurd (omega arith)
  ]

-- one more link
module _ (no_worse : List ℕ → List ℕ → Bool) (links : List ℕ) (link : ℕ) where
  pub linked-still : (candidates : List Candidate) (j : ℕ) (v : List ℕ) → IsCoveredBy no_worse candidates links j v → IsCoveredBy no_worse candidates (links ++ link ∷ []) j v
  linked-still candidates j v h = record { cover = h.cover; number_is = slice_get-append links (link ∷ []) j h.cover.by.number h.number_is }

  pub linked-now : (candidates : List Candidate) (j : ℕ) (v : List ℕ) → j ≡ length links → (cover : IsCovered no_worse candidates v) → link ≡ cover.by.number → IsCoveredBy no_worse candidates (links ++ link ∷ []) j v
  linked-now candidates j v e cover is = record { cover = cover; number_is = ap (slice_get (links ++ link ∷ [])) e ∙ (slice_get-snoc links link ∙ ap Some is) }

-- a label that is an arrival itself is among the candidates of its state, and no worse
pub own_covers : {S : Type 0} (no_worse : List ℕ → List ℕ → Bool) (width : ℕ) → IsVectorOrder width no_worse → (labels : List (Arrival S)) (candidates : S → List Candidate) → AreByState labels candidates → (arrival : Arrival S) → length arrival.vector ≡ width → IsTold labels arrival → (number : ℕ) → IsOwnLabel labels number arrival → (cover : IsCovered no_worse (candidates arrival.state) arrival.vector) × (number ≡ cover.by.number)
own_covers {S} no_worse width order labels candidates are arrival wide told number own =
    let at : slice_get labels number ≡ Some arrival = own.label_is ∙ ap Some (told number own) in
    let found = are.all number arrival at in
    let a = All-contains (IsArrival labels arrival.state) (candidates arrival.state) found.candidate (are.from arrival.state) found.listed in
    let e : a.arrival ≡ arrival = same_Some _ _ (sym a.arrival_is ∙ (ap (slice_get labels) found.number_is ∙ at)) in
    let vector : arrival.vector ≡ found.candidate.vector = ap (λ (x : Arrival S). x.vector) (sym e) ∙ a.vector_is in (
      record {
        by = found.candidate;
        listed = found.listed;
        no_worse_is = subst (λ w. IsTrue (no_worse w arrival.vector)) vector (order.reflexive arrival.vector wide);
      },
      sym found.number_is,
    )

-- a label that comes from a label by a choice is what that leads to
pub told_extensions : {S : Type 0} (g : Graph S) (labels : List (Arrival S)) → ComeFromParents g labels → (i : ℕ) (x : Arrival S) → slice_get labels i ≡ Some x → (c : ℕ) → IsTold labels (extension g i x c)
told_extensions g labels parents i x at c number own =
    let child = parents.later number own.label own.later own.label_is in
    let parent : child.parent ≡ x = same_Some _ _ (sym child.parent_is ∙ (ap (slice_get labels) own.parent_is ∙ at)) in
    child.arrival_is ∙ (ap (λ n. extension g n child.parent own.label.choice) own.parent_is ∙ (ap (λ p. extension g i p own.label.choice) parent ∙ ap (extension g i x) own.choice_is))

-- a label that covers is among the candidates of its state
pub covered_there : {S : Type 0} (no_worse : List ℕ → List ℕ → Bool) (arrivals : List (Arrival S)) (candidates : S → List Candidate) → AreByState arrivals candidates → (s : S) (v : List ℕ) → IsCoveredAt no_worse arrivals s v → IsCovered no_worse (candidates s) v
covered_there {S} no_worse arrivals candidates are s v c =
    let at = Contains-slice_get arrivals c.by c.listed in
    let number = are.all at.0 c.by at.1 in
    let a = All-contains (IsArrival arrivals c.by.state) (candidates c.by.state) number.candidate (are.from c.by.state) number.listed in
    let e : a.arrival ≡ c.by = same_Some _ _ (sym a.arrival_is ∙ (ap (slice_get arrivals) number.number_is ∙ at.1)) in
    let vector : c.by.vector ≡ number.candidate.vector = ap (λ (x : Arrival S). x.vector) (sym e) ∙ a.vector_is in
    record {
      by = number.candidate;
      listed = subst (λ t. Contains (candidates t) number.candidate) c.state_is number.listed;
      no_worse_is = subst (λ w. IsTrue (no_worse w v)) vector c.no_worse_is;
    }

module _ {S : Type 0} (g : Graph S) where
  pub length-extensions_below : (n : ℕ) (from : Arrival S) (m : ℕ) → length (extensions_below g n from m) ≡ m
  length-extensions_below n from zero = refl
  length-extensions_below n from (suc m) = omega (arith, length-append (extensions_below g n from m) (extension g n from m ∷ []), length-extensions_below n from m)

  pub slice_get-extensions_below : (n : ℕ) (from : Arrival S) (m c : ℕ) → c < m → slice_get (extensions_below g n from m) c ≡ Some (extension g n from c)
  slice_get-extensions_below n from zero c h = absurd (omega arith)
  slice_get-extensions_below n from (suc m) c h = elim (cases_order c m) [
    | inl same ↦ (let e : c ≡ length (extensions_below g n from m) = omega (arith, length-extensions_below n from m) in
        ap (slice_get (extensions_below g n from m ++ extension g n from m ∷ [])) e ∙ (slice_get-snoc (extensions_below g n from m) (extension g n from m) ∙ ap (λ k. Some (extension g n from k)) (sym same)))
    | inr (inl less) ↦ slice_get-append (extensions_below g n from m) (extension g n from m ∷ []) c (extension g n from c) (slice_get-extensions_below n from m c less)
    | inr (inr more) ↦ absurd (omega arith)
  ]

  -- what the choices of arrival i lead to stands behind what those of the earlier ones lead to
  pub own_extensions : (n : ℕ) (arrivals : List (Arrival S)) (i : ℕ) (x : Arrival S) → slice_get arrivals i ≡ Some x → (rest : List (Arrival S)) × (extensions_from g n arrivals ≡ extensions_from g n (take i arrivals) ++ (extensions_below g (n + i) x (g.choices x.state) ++ rest))
  own_extensions n [] i x at = absurd cc
  own_extensions n (y ∷ ys) zero x at =
      let same : y ≡ x = same_Some y x at in
      let e : n + 0 ≡ n = omega arith in
      (extensions_from g (n + 1) ys, rw (e, same) refl)
  own_extensions n (y ∷ ys) (suc i) x at =
      let ih = own_extensions (n + 1) ys i x at in
      let e : n + suc i ≡ (n + 1) + i = omega arith in
      (ih.0, ap (λ zs. extensions_below g n y (g.choices y.state) ++ zs) ih.1 ∙ rw (e, append_assoc) refl)

  module _ (arrivals extensions : List (Arrival S)) (is : extensions ≡ extensions_from g 0 arrivals) (i : ℕ) (x : Arrival S) (at : slice_get arrivals i ≡ Some x) (next : ℕ) (next_is : next ≡ length (extensions_from g 0 (take i arrivals))) where
    split : (rest : List (Arrival S)) × (extensions ≡ extensions_from g 0 (take i arrivals) ++ (extensions_below g i x (g.choices x.state) ++ rest))
    split =
        let own = own_extensions 0 arrivals i x at in
        let e : 0 + i ≡ i = omega arith in
        (own.0, is ∙ rw e at own.1)

    pub own_fit : next + g.choices x.state ≤ length extensions
    own_fit =
        let all : length extensions ≡ length (extensions_from g 0 (take i arrivals) ++ (extensions_below g i x (g.choices x.state) ++ split.0)) = ap length split.1 in
        omega (arith, all, length-append (extensions_from g 0 (take i arrivals)) (extensions_below g i x (g.choices x.state) ++ split.0), length-append (extensions_below g i x (g.choices x.state)) split.0, length-extensions_below i x (g.choices x.state), next_is)

    pub own_slice : take (next + g.choices x.state - next) (drop next extensions) ≡ extensions_below g i x (g.choices x.state)
    own_slice =
        let behind : drop next extensions ≡ extensions_below g i x (g.choices x.state) ++ split.0 = ap (λ n. drop n extensions) next_is ∙ (ap (drop (length (extensions_from g 0 (take i arrivals)))) split.1 ∙ drop-append_seam (extensions_from g 0 (take i arrivals)) (extensions_below g i x (g.choices x.state) ++ split.0)) in
        let many : next + g.choices x.state - next ≡ length (extensions_below g i x (g.choices x.state)) = omega (arith, length-extensions_below i x (g.choices x.state)) in
        ap (take (next + g.choices x.state - next)) behind ∙ (ap (λ n. take n (extensions_below g i x (g.choices x.state) ++ split.0)) many ∙ take-append_seam (extensions_below g i x (g.choices x.state)) split.0)

    pub next_more : next + g.choices x.state ≡ length (extensions_from g 0 (take (i + 1) arrivals))
    next_more =
        let inside = slice_get_within arrivals i x at in
        let more : take (i + 1) arrivals ≡ take i arrivals ++ x ∷ [] = take_more arrivals i x inside ∙ ap (λ y. take i arrivals ++ y ∷ []) (get_or_from_slice_get arrivals i x x at) in
        let snoc = extensions_from-snoc g 0 (take i arrivals) x in
        let parts = length-append (extensions_from g 0 (take i arrivals)) (extensions_below g (0 + length (take i arrivals)) x (g.choices x.state)) in
        omega (arith, next_is, ap (λ xs. length (extensions_from g 0 xs)) more, ap (length {A = Arrival S}) snoc, parts, length-extensions_below (0 + length (take i arrivals)) x (g.choices x.state))

  -- so it is for all that the choices of a label lead to
  pub told_own : (labels : List (Arrival S)) → ComeFromParents g labels → (i : ℕ) (x : Arrival S) → slice_get labels i ≡ Some x → (own : List (Arrival S)) → own ≡ extensions_below g i x (g.choices x.state) → All (IsTold labels) own
  told_own labels parents i x at own own_is j d inside =
      let below : j < g.choices x.state = omega (arith, inside, ap (length {A = Arrival S}) own_is, length-extensions_below i x (g.choices x.state)) in
      let here : slice_get own j ≡ Some (extension g i x j) = ap (λ zs. slice_get zs j) own_is ∙ slice_get-extensions_below i x (g.choices x.state) j below in
      subst (IsTold labels) (sym (get_or_from_slice_get own j (extension g i x j) d here)) (told_extensions g labels parents i x at j)

  -- the links to what its choices lead to are a label's links
  module _ (no_worse : List ℕ → List ℕ → Bool) (arrivals : List (Arrival S)) (candidates : S → List Candidate) (are : AreByState arrivals candidates) (i : ℕ) (x : Arrival S) (own : List (Arrival S)) (own_is : own ≡ extensions_below g i x (g.choices x.state)) (links : List ℕ) (count : length links ≡ length own) (covers : (j : ℕ) (y : Arrival S) → slice_get own j ≡ Some y → IsCoveredBy no_worse (candidates y.state) links j y.vector) where
    pub count_links : length links ≡ g.choices x.state
    count_links = omega (arith, count, ap (length {A = Arrival S}) own_is, length-extensions_below i x (g.choices x.state))

    pub links_are : IsLinked g (Holds no_worse) (map pair_of arrivals) links x.state x.vector
    links_are c below =
        let y = extension g i x c in
        let at : slice_get own c ≡ Some y = ap (λ zs. slice_get zs c) own_is ∙ slice_get-extensions_below i x (g.choices x.state) c below in
        let h = covers c y at in
        let a = All-contains (IsArrival arrivals y.state) (candidates y.state) h.cover.by (are.from y.state) h.cover.listed in
        let pair : pair_of a.arrival ≡ (g.next x.state c, h.cover.by.vector) = ap (λ s. (s, a.arrival.vector)) a.state_is ∙ ap (λ v. (g.next x.state c, v)) a.vector_is in
        record {
          link = h.cover.by.number;
          found = h.cover.by.vector;
          link_is = h.number_is;
          pair_is = slice_get-map pair_of arrivals h.cover.by.number ∙ (ap (option_map pair_of) a.arrival_is ∙ ap Some pair);
          no_worse_is = h.cover.no_worse_is;
        }

pub numbers_fit : {S : Type 0} (arrivals : List (Arrival S)) (s : S) (candidates : List Candidate) → length arrivals ≤ 2 ^ 32 → All (IsArrival arrivals s) candidates → All (λ x. x.number < 2 ^ 32) candidates
numbers_fit arrivals s candidates fits all = All-weaker (IsArrival arrivals s) (λ x. x.number < 2 ^ 32) (λ x h. let inside = slice_get_within arrivals x.number h.arrival h.arrival_is in omega arith) candidates all
