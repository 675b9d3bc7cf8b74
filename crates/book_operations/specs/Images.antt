-- The rules of one book among those of another. Two rules are equal where name and parts are. This
-- project's own.
use Rattle.std.specs.Prelude.{◌≡◌, ℕ, ◌<◌, Bool, not, ◌&&◌, List, IsTrue, length, All, slice_index}
use Rattle.std.specs.Prelude.{slice_index_or, is_none}
use Rattle.std.specs.List.{position}
use Rattle.std.specs.Option.{unwrap_or}
use Rattle.preorder.specs.Preorder.{above}
use Rattle.preorder.specs.declared.order.Preorder.{Preorder}
use Rattle.rule_language.specs.Books.{place_of, nameless}
use Rattle.rule_language.specs.Writing.{name_at}
use Rattle.rule_language.specs.declared.book.Rule.{Rule}
use Rattle.book_operations.specs.First.{IsFirst}
use Rattle.book_operations.specs.declared.fault.DeriveFault.{DeriveFault}
use Rattle.book_operations.specs.declared.fault.DeriveFault.TheVariants.{RulesDiffer}

abbrev pub rule_at : List Rule → ℕ → Rule
rule_at rules r = slice_index_or rules r nameless

-- one of the others is equal to the rule at place r
abbrev pub HasEqual : List Rule → List Rule → ℕ → Type 0
HasEqual rules others r = (i : ℕ) × (i < length others) × (rule_at others i ≡ rule_at rules r)

-- none of the others has the rule's name
abbrev pub is_new : List Rule → Rule → Bool
is_new others rule = is_none (place_of rule.name others)

-- none of the others has the name of the rule at place r
abbrev pub IsNew : List Rule → List Rule → ℕ → Type 0
IsNew rules others r = IsTrue (is_new others (rule_at rules r))

-- the first rule that has no equal has this name
abbrev pub IsFirstUnequal : List Rule → List Rule → List ℕ → Type 0
IsFirstUnequal rules others name =
    (r : ℕ) × IsFirst (length rules) (λ k. ¬ HasEqual rules others k) r × (name ≡ name_at rules r)

-- the first rule whose name the others lack has this name
abbrev pub IsFirstNew : List Rule → List Rule → List ℕ → Type 0
IsFirstNew rules others name =
    (r : ℕ) × IsFirst (length rules) (IsNew rules others) r × (name ≡ name_at rules r)

-- the fault that a rule without an equal is
abbrev pub LacksEqual : List Rule → List Rule → DeriveFault → Type 0
LacksEqual rules others (RulesDiffer name) = IsFirstUnequal rules others name
LacksEqual rules others fault = ⊥

-- the fault that a rule with a new name is
abbrev pub HasNewName : List Rule → List Rule → DeriveFault → Type 0
HasNewName rules others (RulesDiffer name) = IsFirstNew rules others name
HasNewName rules others fault = ⊥

-- what the rule at place r becomes among the others: the rule of its name, or where they lack it
-- the first of them with a new name
abbrev pub image_at : List Rule → List Rule → ℕ → ℕ
image_at rules others r =
    unwrap_or (place_of (name_at rules r) others) (unwrap_or (position (is_new rules) others) 0)

-- the images of all rules, in order
pub record AreImages (rules others : List Rule) (images : List ℕ) : Type 0 where
  pub width : length images ≡ length rules
  pub inside : All (λ i. i < length others) images
  pub places : (r : ℕ) → r < length rules → slice_index images r ≡ image_at rules others r

-- rule a is above rule b in the parent, and their images are not so in the child
abbrev pub is_lost : Preorder → Preorder → List ℕ → ℕ → ℕ → Bool
is_lost parent child images a b =
    above parent a b && not (above child (slice_index images a) (slice_index images b))

-- the rule at place new is none of the others, and the image of the other at place old is not above
-- it
abbrev pub IsRaised : List Rule → List Rule → Preorder → List ℕ → ℕ → ℕ → Type 0
IsRaised rules others order images new old =
    IsNew rules others new × ¬ IsTrue (above order (slice_index images old) new)
