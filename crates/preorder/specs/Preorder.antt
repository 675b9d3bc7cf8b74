use Rattle.std.specs.Prelude.{ℕ, Bool, not, ◌&&◌, List}
use Rattle.preorder.specs.Relation.{related}
use Rattle.preorder.specs.Statements.{IsFirstOutOfRange}
use Rattle.preorder.specs.declared.order.Preorder.{Preorder}
use Rattle.preorder.specs.declared.order.PreorderFault.{PreorderFault}
use Rattle.preorder.specs.declared.order.PreorderFault.TheVariants.{OutOfRange}

-- how many rules it orders (the words by which layers above speak of a pre-order)
abbrev pub rules_of : Preorder → ℕ
rules_of order = order.size

abbrev pub at_least : Preorder → ℕ → ℕ → Bool
at_least order = related order.rows

-- the strict part: a is above b (rulebooks, 2019)
abbrev pub above : Preorder → ℕ → ℕ → Bool
above order a b = at_least order a b && not (at_least order b a)

abbrev pub same : Preorder → ℕ → ℕ → Bool
same order a b = at_least order a b && at_least order b a

-- the fault names the first pair that is out of range
abbrev pub IsFaultOf : ℕ → List (ℕ × ℕ) → PreorderFault → Type 0
IsFaultOf size pairs (OutOfRange i) = IsFirstOutOfRange size pairs i
