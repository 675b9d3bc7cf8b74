-- There are not both no more than a limit and more than it.
use Rattle.std.proofs.Common.{◌≡◌, ◌≢◌, ℕ, zero, suc, ◌+◌, ◌<◌, ◌≤◌, List, [], ◌∷◌, length, get_or, refl, ap, sym, ◌∙◌, arith}
use Rattle.std.specs.Prelude.{All, AllPairs, Contains, Some, slice_get}
use Rattle.std.proofs.lemmas.Option.{same_Some, slice_get_within}
use Rattle.rulebook_order.specs.Answer.{AreUndominated, HasMoreUndominated}
use Rattle.rulebook_order.specs.Graph.{Graph}
use Rattle.rulebook_order.proofs.Lists.{Contains-slice_get, Contains-from_slice_get}

-- the list without the element at a place
without : {X : Type 0} → ℕ → List X → List X
without p [] = []
without zero (y ∷ ys) = ys
without (suc p) (y ∷ ys) = y ∷ without p ys

length-without : {X : Type 0} (p : ℕ) (ys : List X) → p < length ys → length ys ≡ length (without p ys) + 1
unfolding without
length-without p [] h = absurd (omega arith)
length-without zero (y ∷ ys) h = omega arith
length-without (suc p) (y ∷ ys) h = omega (arith, length-without p ys (omega arith))

Contains-later : {X : Type 0} (y : X) (ys : List X) (x : X) → Contains ys x → Contains (y ∷ ys) x
Contains-later y ys x (k, below, at) = (suc k, omega arith, at)

Contains-without : {X : Type 0} (p q : ℕ) (ys : List X) (x : X) → slice_get ys q ≡ Some x → q ≢ p → Contains (without p ys) x
unfolding without
Contains-without p q [] x at other = absurd cc
Contains-without zero zero (y ∷ ys) x at other = absurd (other refl)
Contains-without zero (suc q) (y ∷ ys) x at other = Contains-from_slice_get ys q x at
Contains-without (suc p) zero (y ∷ ys) x at other = (0, omega arith, same_Some y x at)
Contains-without (suc p) (suc q) (y ∷ ys) x at other = Contains-later y (without p ys) x (Contains-without p q ys x at (λ e. other (ap suc e)))

-- different elements of a list are no more than it has
pub distinct_within : {X : Type 0} (xs ys : List X) → AllPairs (λ x y. x ≢ y) xs → All (Contains ys) xs → length xs ≤ length ys
distinct_within [] ys distinct all = omega arith
distinct_within {X} (x ∷ xs) ys distinct all =
    let p = Contains-slice_get ys x (all 0 x (omega arith)) in
    let ih = distinct_within xs (without p.0 ys) (λ i j d below inside. distinct (suc i) (suc j) d (omega arith) (omega arith))
    (λ k d inside.
    let y = get_or xs k d in
    let q = Contains-slice_get ys y (all (suc k) d (omega arith)) in
    Contains-without p.0 q.0 ys y q.1 (λ same. distinct 0 (suc k) d (omega arith) (omega arith) (same_Some x y (sym p.1 ∙ (ap (slice_get ys) (sym same) ∙ q.1))))) in
    omega (arith, ih, length-without p.0 ys (slice_get_within ys p.0 x p.1))

-- where the undominated pairs are no more than the limit, there are not more of them
pub not_both : {S : Type 0} (g : Graph S) (IsNoWorse : List ℕ → List ℕ → Type 0) (pairs : List (S × List ℕ)) (limit : ℕ) → AreUndominated g IsNoWorse pairs → length pairs ≤ limit → HasMoreUndominated g IsNoWorse limit → ⊥
not_both g IsNoWorse pairs limit are few more =
    let within = distinct_within more.pairs pairs more.undominated.once (λ k d inside. (are.exact (get_or more.pairs k d).0 (get_or more.pairs k d).1).1 (more.undominated.sound k d inside)) in
    omega (arith, more.more)
