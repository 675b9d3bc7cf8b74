-- How many labels are at goals, where there is one label more.
use Rattle.std.proofs.Common.{◌≡◌, ℕ, ◌+◌, Bool, true, false, List, [], ◌∷◌, ◌++◌, length, ap, arith, inl, inr}
use Rattle.std.specs.Prelude.{filter}
use Rattle.std.proofs.lemmas.Bool.{cases_Bool, cond-true, cond-false}
use Rattle.rulebook_order.specs.Graph.{Graph}
use Rattle.rulebook_order.specs.Certified.{goals_in}

module _ {S : Type 0} (g : Graph S) where
  abbrev at_goal : S × List ℕ → Bool
  at_goal p = g.goal p.0

  pub count-more : (q : S × List ℕ) (qs : List (S × List ℕ)) → g.goal q.0 ≡ true → goals_in g (q ∷ qs) ≡ goals_in g qs + 1
  count-more q qs t = omega (arith, ap (length {A = S × List ℕ}) (cond-true (g.goal q.0) (q ∷ filter at_goal qs) (filter at_goal qs) t))

  pub count-same : (q : S × List ℕ) (qs : List (S × List ℕ)) → g.goal q.0 ≡ false → goals_in g (q ∷ qs) ≡ goals_in g qs
  count-same q qs f = ap (length {A = S × List ℕ}) (cond-false (g.goal q.0) (q ∷ filter at_goal qs) (filter at_goal qs) f)

  pub goals_in-goal : (qs : List (S × List ℕ)) (p : S × List ℕ) → g.goal p.0 ≡ true → goals_in g (qs ++ p ∷ []) ≡ goals_in g qs + 1
  goals_in-goal [] p t = count-more p [] t
  goals_in-goal (q ∷ qs) p t = elim (cases_Bool (g.goal q.0)) [
    | inl a ↦ omega (arith, count-more q (qs ++ p ∷ []) a, count-more q qs a, goals_in-goal qs p t)
    | inr a ↦ omega (arith, count-same q (qs ++ p ∷ []) a, count-same q qs a, goals_in-goal qs p t)
  ]

  pub goals_in-other : (qs : List (S × List ℕ)) (p : S × List ℕ) → g.goal p.0 ≡ false → goals_in g (qs ++ p ∷ []) ≡ goals_in g qs
  goals_in-other [] p f = count-same p [] f
  goals_in-other (q ∷ qs) p f = elim (cases_Bool (g.goal q.0)) [
    | inl a ↦ omega (arith, count-more q (qs ++ p ∷ []) a, count-more q qs a, goals_in-other qs p f)
    | inr a ↦ omega (arith, count-same q (qs ++ p ∷ []) a, count-same q qs a, goals_in-other qs p f)
  ]
