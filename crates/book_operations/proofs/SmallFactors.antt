-- The factors of a merge are not too large where its weights are not.
use Rattle.std.specs.Prelude.{◌≡◌, ℕ, ◌<◌, ◌≤◌, Bool, true, false, List, [], ◌∷◌, Option, Some, None, IsTrue, IfSome, nat_le, length, map}
use Rattle.std.specs.Option.{unwrap_or}
use Rattle.std.specs.Borrow.{Bor}
use Rattle.std.specs.Str.{bytes_eq}
use Rattle.std.proofs.Common.{◌-◌, ◌∙◌, ap, cond, refl, arith, get_or, take, drop}
use Rattle.std.proofs.lemmas.List.{take_all}
use Rattle.std.proofs.lemmas.Bool.{and_parts}
use Rattle.std.proofs.lemmas.Bool.Decides.{nat_tests}
use Rattle.rule_language.specs.declared.limits.TheConstants.{MAX_WEIGHT}
use Rattle.book_operations.specs.Merging.{weight_in, factor_in, is_weight, are_weights}

pub record IsFactor (times : ℕ) : Type 0 where
  pub counted : 1 ≤ times
  pub small : times ≤ MAX_WEIGHT

of_test : (w : ℕ) → IsTrue (is_weight w) → IsFactor w
of_test w h = let g = and_parts (nat_le 1 w) (nat_le w MAX_WEIGHT) h in record { counted = grind (arith, nat_tests, g.0); small = grind (arith, nat_tests, g.1) }

of_weight : (o : Option ℕ) → IsTrue (is_weight (unwrap_or o 0)) → IfSome o IsFactor
of_weight (Some w) h = of_test w h
of_weight None h = tt

either : (t : Bool) (o p : Option ℕ) → IfSome o IsFactor → IfSome p IsFactor → IfSome (cond t o p) IsFactor
either true o p h k = h
either false o p h k = k

pub factor : (words : List (List ℕ)) (name : List ℕ) → IsTrue (are_weights words) → IfSome (factor_in words name) IsFactor
factor [] name h = tt
factor (w ∷ []) name h = tt
factor (w ∷ a ∷ ws) name h =
    let g = and_parts (is_weight (unwrap_or (weight_in w) 0)) (are_weights ws) h in
    either (bytes_eq a name) (weight_in w) (factor_in ws name) (of_weight (weight_in w) g.0) (factor ws name g.1)

small : (o : Option ℕ) → IfSome o IsFactor → IfSome o (λ times. times ≤ MAX_WEIGHT)
small (Some w) h = h.small
small None h = tt

pub factor_small : (words : List (List ℕ)) (name : List ℕ) → IsTrue (are_weights words) → IfSome (factor_in words name) (λ times. times ≤ MAX_WEIGHT)
factor_small words name h = small (factor_in words name) (factor words name h)

pub few-weights : (words : List (Bor (List ℕ))) → length words < 2 → true ≡ are_weights (map (λ w. w.now) words)
few-weights [] h = refl
few-weights (w ∷ []) h = refl
few-weights (w ∷ a ∷ ws) h = absurd (omega (arith, h))

-- a name that is not the first is looked for among the others
pub factor-next : (words : List (Bor (List ℕ))) (d : Bor (List ℕ)) (name : List ℕ) (r : Option ℕ) → 2 ≤ length words → bytes_eq (get_or words 1 d).now name ≡ false → r ≡ factor_in (map (λ w. w.now) (take (length words - 2) (drop 2 words))) name → r ≡ factor_in (map (λ w. w.now) words) name
factor-next [] d name r le h e = absurd (omega (arith, le))
factor-next (w ∷ []) d name r le h e = absurd (omega (arith, le))
factor-next (w ∷ a ∷ ws) d name r le h e = rw h (e ∙ ap (λ (us : List (Bor (List ℕ))). factor_in (map (λ w. w.now) us) name) (take_all (length (w ∷ a ∷ ws) - 2) ws (omega arith)))
