-- Where two notions of what is above what agree, so do the words on vectors that stand on them.
use Rattle.std.proofs.Common.{◌≡◌, ℕ, ◌<◌, ◌↔◌, List, subst, sym, arith}
use Rattle.std.proofs.lemmas.Bool.{and_parts, and_from, not-true, not_from_false, false_from_ne_true, both_ways}
use Rattle.std.specs.Prelude.{Contains, IsTrue, not}
use Rattle.preorder.specs.Preorder.{rules_of, at_least}
use Rattle.preorder.specs.Statements.{IsClosure}
use Rattle.preorder.specs.declared.order.Preorder.{Preorder}
use Rattle.rulebook_order.specs.Front.{vector_at, IsInFront, IsFirstInFront, IsFront}
use Rattle.rulebook_order.specs.NoWorse.{IsExcused, NoWorse, Beats, IsFirstUnexcused}
use Rattle.rulebook_order.specs.NoWorseBy.{IsAboveBy, NoWorseBy, IsFirstUnexcusedBy, IsVerdictBy, no_worse_by}
use Rattle.rulebook_order.specs.NoWorseUnder.{IsAbove, NoWorseUnder, IsFirstUnexcusedUnder, IsVerdictUnder}
use Rattle.rulebook_order.specs.laws.PairLaws.{no_worse_by-words}
use Rattle.rulebook_order.specs.PairOrder.{order_of}
use Rattle.rulebook_order.specs.Answer.{IsAnswerList}
use Rattle.rulebook_order.specs.Graph.{Graph, IsAttained}
use Rattle.rulebook_order.specs.VectorOrder.{Holds}
use Rattle.rulebook_order.specs.Verdict.{IsVerdict}
use Rattle.rulebook_order.specs.declared.pair.PairOrder.{PairOrder}
use Rattle.rulebook_order.specs.declared.verdict.Verdict.{Verdict}
use Rattle.rulebook_order.specs.declared.verdict.Verdict.TheVariants.{Equal, First, Second, Neither}

-- one way: what is above by A is above by B, and back
module _ (size : ℕ) (A B : ℕ → ℕ → Type 0) (there : (q r : ℕ) → q < size → r < size → A q r → B q r) where
  excused-there : (x y : List ℕ) (r : ℕ) → r < size → IsExcused size A x y r → IsExcused size B x y r
  excused-there x y r inside e = record { rule = e.rule; inside = e.inside; above = there e.rule r e.inside inside e.above; win = e.win }

  no_worse-there : (x y : List ℕ) → NoWorse size A x y → NoWorse size B x y
  no_worse-there x y h r inside loss = excused-there x y r inside (h r inside loss)

  first-there : (x y : List ℕ) (r : ℕ) → (IsExcused size B x y r → IsExcused size A x y r) → IsFirstUnexcused size A x y r → IsFirstUnexcused size B x y r
  first-there x y r back f = record {
    inside = f.inside;
    loss = f.loss;
    unexcused = λ e. f.unexcused (back e);
    before = λ q h loss. excused-there x y q (omega (arith, f.inside)) (f.before q h loss);
  }

-- one vector beats the other by both relations, where they agree on the two
pub Beats-agree : (P Q : List ℕ → List ℕ → Type 0) (x y : List ℕ) → P x y ↔ Q x y → P y x ↔ Q y x → Beats P x y ↔ Beats Q x y
Beats-agree P Q x y xy yx = (
  λ b. record { no_worse = xy.0 b.no_worse; one_way = λ h. b.one_way (yx.1 h) },
  λ b. record { no_worse = xy.1 b.no_worse; one_way = λ h. b.one_way (yx.0 h) },
)

module _ (size : ℕ) (A B : ℕ → ℕ → Type 0) (agree : (q r : ℕ) → q < size → r < size → A q r ↔ B q r) where
  there : (q r : ℕ) → q < size → r < size → A q r → B q r
  there q r h k = (agree q r h k).0

  back : (q r : ℕ) → q < size → r < size → B q r → A q r
  back q r h k = (agree q r h k).1

  -- no worse by the one is no worse by the other
  pub NoWorse-agree : (x y : List ℕ) → NoWorse size A x y ↔ NoWorse size B x y
  NoWorse-agree x y = (no_worse-there size A B there x y, no_worse-there size B A back x y)

  -- the first rule by the one is the first by the other
  pub IsFirstUnexcused-agree : (x y : List ℕ) (r : ℕ) → IsFirstUnexcused size A x y r ↔ IsFirstUnexcused size B x y r
  IsFirstUnexcused-agree x y r = (
    λ f. first-there size A B there x y r (excused-there size B A back x y r f.inside) f,
    λ f. first-there size B A back x y r (excused-there size A B there x y r f.inside) f,
  )

  beats : (x y : List ℕ) → Beats (NoWorse size A) x y ↔ Beats (NoWorse size B) x y
  beats x y = Beats-agree (NoWorse size A) (NoWorse size B) x y (NoWorse-agree x y) (NoWorse-agree y x)

  -- a verdict by the one is a verdict by the other
  pub IsVerdict-agree : (x y : List ℕ) (verdict : Verdict) → IsVerdict size A x y verdict ↔ IsVerdict size B x y verdict
  IsVerdict-agree x y Equal = (λ e. e, λ e. e)
  IsVerdict-agree x y (First r) = (
    λ h. ((beats x y).0 h.0, (IsFirstUnexcused-agree y x r).0 h.1),
    λ h. ((beats x y).1 h.0, (IsFirstUnexcused-agree y x r).1 h.1),
  )
  IsVerdict-agree x y (Second r) = (
    λ h. ((beats y x).0 h.0, (IsFirstUnexcused-agree x y r).0 h.1),
    λ h. ((beats y x).1 h.0, (IsFirstUnexcused-agree x y r).1 h.1),
  )
  IsVerdict-agree x y (Neither r q) = (
    λ h. ((IsFirstUnexcused-agree x y r).0 h.0, (IsFirstUnexcused-agree y x q).0 h.1),
    λ h. ((IsFirstUnexcused-agree x y r).1 h.0, (IsFirstUnexcused-agree y x q).1 h.1),
  )

-- two relations that agree on the vectors that have a property
module _ (P Q : List ℕ → List ℕ → Type 0) (Has : List ℕ → Type 0) (agree : (x y : List ℕ) → Has x → Has y → P x y ↔ Q x y) where
  -- leave the same ones in the front
  pub IsInFront-agree : (v : List ℕ) → IsInFront P Has v ↔ IsInFront Q Has v
  IsInFront-agree v = (
    λ f. record { has = f.has; unbeaten = λ w h b. f.unbeaten w h ((Beats-agree P Q w v (agree w v h f.has) (agree v w f.has h)).1 b) },
    λ f. record { has = f.has; unbeaten = λ w h b. f.unbeaten w h ((Beats-agree P Q w v (agree w v h f.has) (agree v w f.has h)).0 b) },
  )

-- two relations that agree on the vectors of a list
module _ (P Q : List ℕ → List ℕ → Type 0) (vectors : List (List ℕ)) (agree : (x y : List ℕ) → Contains vectors x → Contains vectors y → P x y ↔ Q x y) where
  first_in_front : (i : ℕ) → IsFirstInFront P vectors i ↔ IsFirstInFront Q vectors i
  first_in_front i = (
    λ f. record { here = f.here; in_front = (IsInFront-agree P Q (Contains vectors) agree (vector_at vectors i)).0 f.in_front; first = f.first },
    λ f. record { here = f.here; in_front = (IsInFront-agree P Q (Contains vectors) agree (vector_at vectors i)).1 f.in_front; first = f.first },
  )

  -- have the same front
  pub IsFront-agree : (places : List ℕ) → IsFront P vectors places → IsFront Q vectors places
  IsFront-agree places front = record {
    rising = front.rising;
    exact = λ i. (λ h. (first_in_front i).0 ((front.exact i).0 h), λ h. (front.exact i).1 ((first_in_front i).1 h));
  }

-- a pre-order that is the closure of statements
module _ (order : Preorder) (statements : List (ℕ × ℕ)) (size : ℕ) (is_size : rules_of order ≡ size) (closure : IsClosure statements size (at_least order)) where
  -- it has above what the statements have above
  pub above-statements : (q r : ℕ) → q < size → r < size → IsAboveBy order q r ↔ IsAbove statements q r
  above-statements q r h k = (
    λ is_above.
        let parts = and_parts (at_least order q r) (not (at_least order r q)) is_above in
        ((closure q r h k).0 parts.0, λ leads. both_ways _ (not-true _ parts.1) ((closure r q k h).1 leads)),
    λ leads. and_from _ _ ((closure q r h k).1 leads.0) (not_from_false (at_least order r q) (false_from_ne_true _ (λ back. leads.1 ((closure r q k h).0 back)))),
  )

  -- and so the words on vectors say the same
  pub NoWorseBy-statements : (x y : List ℕ) → NoWorseBy order x y ↔ NoWorseUnder statements size x y
  NoWorseBy-statements x y = subst (λ n. NoWorse n (IsAboveBy order) x y ↔ NoWorseUnder statements size x y) (sym is_size) (NoWorse-agree size (IsAboveBy order) (IsAbove statements) above-statements x y)

  pub IsFirstUnexcusedBy-statements : (x y : List ℕ) (r : ℕ) → IsFirstUnexcusedBy order x y r ↔ IsFirstUnexcusedUnder statements size x y r
  IsFirstUnexcusedBy-statements x y r = subst (λ n. IsFirstUnexcused n (IsAboveBy order) x y r ↔ IsFirstUnexcusedUnder statements size x y r) (sym is_size) (IsFirstUnexcused-agree size (IsAboveBy order) (IsAbove statements) above-statements x y r)

  pub IsVerdictBy-statements : (x y : List ℕ) (verdict : Verdict) → IsVerdictBy order x y verdict ↔ IsVerdictUnder statements size x y verdict
  IsVerdictBy-statements x y verdict = subst (λ n. IsVerdict n (IsAboveBy order) x y verdict ↔ IsVerdictUnder statements size x y verdict) (sym is_size) (IsVerdict-agree size (IsAboveBy order) (IsAbove statements) above-statements x y verdict)

  -- the test holds exactly where x is no worse under the statements
  pub no_worse_by-statements : (x y : List ℕ) → IsTrue (no_worse_by order x y) ↔ NoWorseUnder statements size x y
  no_worse_by-statements x y = (
    λ h. (NoWorseBy-statements x y).0 ((no_worse_by-words order x y).0 h),
    λ h. (no_worse_by-words order x y).1 ((NoWorseBy-statements x y).1 h),
  )

  -- a front by the test is the front under the statements
  pub IsFront-statements : (vectors : List (List ℕ)) (places : List ℕ) → IsFront (Holds (no_worse_by order)) vectors places → IsFront (NoWorseUnder statements size) vectors places
  IsFront-statements vectors places = IsFront-agree (Holds (no_worse_by order)) (NoWorseUnder statements size) vectors (λ x y h k. no_worse_by-statements x y) places

  -- a front by the order of pairs on it is the front under the statements
  pub IsFront-pairs : (pairs : PairOrder) → order_of pairs ≡ order → (vectors : List (List ℕ)) (places : List ℕ) → IsFront (Holds (no_worse_by (order_of pairs))) vectors places → IsFront (NoWorseUnder statements size) vectors places
  IsFront-pairs pairs is vectors places front = IsFront-statements vectors places (subst (λ o. IsFront (Holds (no_worse_by o)) vectors places) is front)

-- two relations that agree on all vectors give one answer
module _ (P Q : List ℕ → List ℕ → Type 0) (agree : (x y : List ℕ) → P x y ↔ Q x y) where
  pub IsAnswerList-agree : {S : Type 0} (g : Graph S) (vectors : List (List ℕ)) → IsAnswerList g P vectors → IsAnswerList g Q vectors
  IsAnswerList-agree g vectors answer = record {
    exact = λ v. (
      λ listed. (IsInFront-agree P Q (IsAttained g) (λ x y h k. agree x y) v).0 ((answer.exact v).0 listed),
      λ f. (answer.exact v).1 ((IsInFront-agree P Q (IsAttained g) (λ x y h k. agree x y) v).1 f),
    );
    once = answer.once;
  }

-- the answer by the test of a pre-order is the answer by its words
pub IsAnswerList-words : {S : Type 0} (g : Graph S) (order : Preorder) (vectors : List (List ℕ)) → IsAnswerList g (Holds (no_worse_by order)) vectors → IsAnswerList g (NoWorseBy order) vectors
IsAnswerList-words g order vectors answer = IsAnswerList-agree (Holds (no_worse_by order)) (NoWorseBy order) (no_worse_by-words order) g vectors answer
