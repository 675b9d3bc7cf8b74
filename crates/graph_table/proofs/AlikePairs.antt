-- Undominated pairs, carried from one of two graphs that are alike to the other.
use Rattle.std.proofs.Common.{◌≡◌, ◌≢◌, ℕ, zero, suc, ◌<◌, ◌≤◌, List, [], ◌∷◌, length, get_or, refl, sym, ap, ◌∙◌, subst, arith}
use Rattle.std.specs.List.{AllZip}
use Rattle.std.specs.Prelude.{All, AllPairs, Contains, slice_get, Some}
use Rattle.std.proofs.lemmas.List.Elements.{All-nil, All-cons, All-head, All-tail}
use Rattle.std.proofs.lemmas.Option.{slice_get-get_or}
use Rattle.rulebook_order.specs.Answer.{IsUndominated, SomeUndominated, HasMoreUndominated}
use Rattle.rulebook_order.specs.Graph.{Graph, IsStateOf}
use Rattle.rulebook_order.proofs.Counting.{distinct_within}
use Rattle.rulebook_order.proofs.Lists.{slice_get_some, pair_at}
use Rattle.graph_table.proofs.Zips.{zip_at, zip_length}
use Rattle.graph_table.specs.Alike.{AreAlike}
use Rattle.graph_table.specs.Tables.{AreReached, HasMoreStates}
use Rattle.graph_table.proofs.AlikeLaws.{flipped, stands, undominated_alike}

-- there are not both no more states than a limit and more than it
pub not_both : {S : Type 0} (g : Graph S) (states : List S) (limit : ℕ) → AreReached g states → length states ≤ limit → HasMoreStates g limit → ⊥
not_both g states limit are few more =
    let within = distinct_within more.states states more.once (λ k d inside. (are.exact (get_or more.states k d)).1 (more.reached k d inside)) in
    omega (arith, more.more)

module _ {S T : Type 0} (g : Graph S) (h : Graph T) (R : S → T → Type 0) (a : AreAlike g h R) (IsNoWorse : List ℕ → List ℕ → Type 0) where
  -- the pair of the graph is the other's
  abbrev IsPairOf : T × List ℕ → S × List ℕ → Type 0
  IsPairOf p q = R q.0 p.0 × (q.1 ≡ p.1)

  carried_one : (p : T × List ℕ) → IsUndominated h IsNoWorse p.0 p.1 → (q : S × List ℕ) × (IsPairOf p q × IsUndominated g IsNoWorse q.0 q.1)
  carried_one p u =
      let x = stands h g (λ t s. R s t) (flipped g h R a) p.0 (p.1, u.has) in
      ((x.0, p.1), ((x.1, refl), (undominated_alike g h R a IsNoWorse x.0 p.0 p.1 x.1).1 u))

  carried : (pairs : List (T × List ℕ)) → All (λ p. IsUndominated h IsNoWorse p.0 p.1) pairs
      → (others : List (S × List ℕ)) × (AllZip IsPairOf pairs others × All (λ q. IsUndominated g IsNoWorse q.0 q.1) others)
  carried [] all = ([], (tt, All-nil (λ q. IsUndominated g IsNoWorse q.0 q.1)))
  carried (p ∷ pairs) all =
      let one = carried_one p (All-head (λ p. IsUndominated h IsNoWorse p.0 p.1) p pairs all) in
      let more = carried pairs (All-tail (λ p. IsUndominated h IsNoWorse p.0 p.1) p pairs all) in
      (one.0 ∷ more.0, ((one.1.0, more.1.0), All-cons (λ q. IsUndominated g IsNoWorse q.0 q.1) one.0 more.0 one.1.1 more.1.1))

  same_pair : (p q : T × List ℕ) (x y : S × List ℕ) → IsPairOf p x → IsPairOf q y → x ≡ y → p ≡ q
  same_pair p q x y to from e =
      let state : p.0 ≡ q.0 = a.one_there x.0 p.0 q.0 to.0 (subst (λ z. R z q.0) (ap (λ z. z.0) (sym e)) from.0) in
      let vector : p.1 ≡ q.1 = sym to.1 ∙ (ap (λ z. z.1) e ∙ from.1) in
      λ i. (state i, vector i)

  others_once : (pairs : List (T × List ℕ)) (others : List (S × List ℕ)) → AllZip IsPairOf pairs others → AllPairs (λ p q. p ≢ q) pairs → AllPairs (λ p q. p ≢ q) others
  others_once pairs others zip once i j d below inside e =
      let long = zip_length IsPairOf pairs others zip in
      let p = slice_get_some pairs i (omega arith) in
      let q = slice_get_some pairs j (omega arith) in
      pair_at (λ p q. p ≢ q) pairs once i j p.0 q.0 below p.1 q.1
      (same_pair p.0 q.0 (get_or others i d) (get_or others j d) (zip_at IsPairOf pairs others i p.0 d zip p.1) (zip_at IsPairOf pairs others j q.0 d zip q.1) e)

  -- where one has more undominated pairs than a limit, so has the other
  pub more_alike : (limit : ℕ) → HasMoreUndominated h IsNoWorse limit → HasMoreUndominated g IsNoWorse limit
  more_alike limit more =
      let to = carried more.pairs more.undominated.sound in
      record {
        pairs = to.0;
        undominated = record { sound = to.1.1; once = others_once more.pairs to.0 to.1.0 more.undominated.once };
        more = (let long = zip_length IsPairOf more.pairs to.0 to.1.0 in omega (arith, more.more));
      }
