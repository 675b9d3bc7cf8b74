-- Shapes of pre-orders, and the tables by which vectors are compared faster.
use Rattle.std.specs.Prelude.{◌≡◌, ◌≢◌, ℕ, ◌<◌, ◌||◌, List, IsTrue, slice_index}
use Rattle.preorder.specs.Preorder.{rules_of, above}
use Rattle.preorder.specs.Relation.{related}
use Rattle.preorder.specs.declared.order.Preorder.{Preorder}
use Rattle.rulebook_order.specs.NoWorseBy.{IsAboveBy}
use Rattle.rulebook_order.specs.laws.Count.{count_below}

-- bit q of word r is set where rule q is above rule r
abbrev pub AreWordsAbove : Preorder → List ℕ → Type 0
AreWordsAbove order words = (q r : ℕ) → r < rules_of order → related words r q ≡ above order q r

-- some rule is above another
pub record HasAbove (order : Preorder) : Type 0 where
  pub upper : ℕ
  pub lower : ℕ
  pub above : IsAboveBy order upper lower

-- some rule is above rule r
pub record HasRuleAbove (order : Preorder) (r : ℕ) : Type 0 where
  pub rule : ℕ
  pub above : IsAboveBy order rule r

-- no rule is above another
abbrev pub IsFlat : Preorder → Type 0
IsFlat order = (q r : ℕ) → ¬ IsAboveBy order q r

-- one of two rules is above the other
abbrev pub IsRelated : Preorder → ℕ → ℕ → Type 0
IsRelated order q r = IsTrue (above order q r || above order r q)

-- rule r is above or below each other rule
abbrev pub IsRelatedToAll : Preorder → ℕ → Type 0
IsRelatedToAll order r = (q : ℕ) → q < rules_of order → q ≢ r → IsRelated order q r

-- two different rules have neither above the other
pub record HasUnrelated (order : Preorder) : Type 0 where
  pub one : ℕ
  pub other : ℕ
  pub one_inside : one < rules_of order
  pub other_inside : other < rules_of order
  pub different : one ≢ other
  pub unrelated : ¬ IsRelated order one other

-- of two different rules one is above the other
abbrev pub IsChain : Preorder → Type 0
IsChain order = (r : ℕ) → r < rules_of order → IsRelatedToAll order r

-- how many rules are above rule r
abbrev pub rules_above : Preorder → ℕ → ℕ
rules_above order r = count_below (λ q. above order q r) (rules_of order)

-- the rules from the top down, each at the place that the number of rules above it gives
pub record AreFromTopDown (order : Preorder) (rules : List ℕ) : Type 0 where
  pub chain : IsChain order
  pub inside : (k : ℕ) → k < rules_of order → slice_index rules k < rules_of order
  pub place : (k : ℕ) → k < rules_of order → rules_above order (slice_index rules k) ≡ k
  pub listed : (r : ℕ) → r < rules_of order → slice_index rules (rules_above order r) ≡ r
