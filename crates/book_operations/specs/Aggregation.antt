-- When a book aggregates another: rules of one class are merged into one new rule, whose parts are
-- theirs. Aggregating rules of a rulebook: Censi and others, 2019; the faults are this project's
-- own.
use Rattle.std.specs.Prelude.{◌≡◌, ℕ, ◌<◌, ◌≤◌, ◌⊎◌, List, ⊤, All, length, map}
use Rattle.std.specs.List.{filter, flat_map, position}
use Rattle.std.specs.Option.{unwrap_or}
use Rattle.preorder.specs.Statements.{Leads}
use Rattle.rule_language.specs.Writing.{name_at}
use Rattle.rule_language.specs.declared.book.Book.{Book}
use Rattle.rule_language.specs.declared.book.Rule.{Rule}
use Rattle.rule_language.specs.declared.part.Part.{Part}
use Rattle.book_operations.specs.First.{IsFirst}
use Rattle.book_operations.specs.Images.{rule_at, HasEqual, is_new, IsNew}
use Rattle.book_operations.specs.Same.{scaled}
use Rattle.book_operations.specs.Tests.{size_of, KeepsStrictPairs, NamesLost}
use Rattle.book_operations.specs.declared.fault.DeriveFault.{DeriveFault}
use Rattle.book_operations.specs.declared.fault.DeriveFault.TheVariants.{RulesDiffer, NotOneClass}
use Rattle.book_operations.specs.declared.fault.DeriveFault.TheVariants.{NotASum, StrictLost}
use Rattle.book_operations.specs.declared.fault.DeriveFault.TheVariants.{NoMemory}

-- Rules of the parent whose names the child lacks are merged; a rule of the child whose name the
-- parent lacks is new.

-- at least two of the rules have names that the others lack
abbrev pub AreTwoNew : List Rule → List Rule → Type 0
AreTwoNew rules others =
    (a : ℕ) × (b : ℕ) × (a < b) × (b < length rules) × IsNew rules others a × IsNew rules others b

-- one of the rules has a name that the others lack
pub record IsOneNew (rules others : List Rule) : Type 0 where
  pub new : ℕ
  pub first : IsFirst (length rules) (IsNew rules others) new
  pub alone : (c : ℕ) → new < c → c < length rules → ¬ IsNew rules others c

-- the rule has its name among the others, with other parts
abbrev pub IsChanged : List Rule → List Rule → ℕ → Type 0
IsChanged rules others r = ¬ IsNew rules others r × ¬ HasEqual rules others r

-- two or more rules are merged into one new rule, and all others are kept with their parts
pub record MergesRules (rules others : List Rule) : Type 0 where
  pub merged : AreTwoNew rules others
  pub new : IsOneNew others rules
  pub kept : (r : ℕ) → r < length rules → ¬ IsNew rules others r → HasEqual rules others r

-- fewer than two rules are merged, or none is new: the first merged rule is named, or where none is
-- merged the first rule
abbrev pub MergesTooFew : List Rule → List Rule → List ℕ → Type 0
MergesTooFew rules others name =
    (¬ AreTwoNew rules others ⊎ ((c : ℕ) → c < length others → ¬ IsNew others rules c))
    × (((r : ℕ) × IsFirst (length rules) (IsNew rules others) r × (name ≡ name_at rules r))
    ⊎ (((r : ℕ) → r < length rules → ¬ IsNew rules others r) × (name ≡ name_at rules 0)))

-- two or more rules are new: the second of them is named
abbrev pub MakesTwo : List Rule → List Rule → List ℕ → Type 0
MakesTwo rules others name =
    AreTwoNew rules others
    × ((b : ℕ) × (c : ℕ) × IsFirst (length others) (IsNew others rules) b
    × IsFirst (length others) (λ k. (b < k) × IsNew others rules k) c
    × (name ≡ name_at others c))

-- a rule is kept with other parts: the first such rule is named
abbrev pub ChangesRule : List Rule → List Rule → List ℕ → Type 0
ChangesRule rules others name =
    AreTwoNew rules others × IsOneNew others rules
    × ((r : ℕ) × IsFirst (length rules) (IsChanged rules others) r × (name ≡ name_at rules r))

-- the fault of rules that do not differ as those of a merge do
abbrev pub DiffersInRules : List Rule → List Rule → DeriveFault → Type 0
DiffersInRules rules others (RulesDiffer name) =
    MergesTooFew rules others name ⊎ MakesTwo rules others name ⊎ ChangesRule rules others name
DiffersInRules rules others fault = ⊥

abbrev pub AreSame : List (ℕ × ℕ) → ℕ → ℕ → Type 0
AreSame statements a b = Leads statements a b × Leads statements b a

-- each merged rule is at least each other
abbrev pub MergedAreOneClass : Book → Book → Type 0
MergedAreOneClass parent child =
    (a b : ℕ) → a < size_of parent → b < size_of parent → IsNew parent.rules child.rules a
    → IsNew parent.rules child.rules b → Leads parent.statements a b

-- a names the first merged rule, and b the first later one that is not the same
pub record NamesApart (parent child : Book) (a b : List ℕ) : Type 0 where
  pub upper : ℕ
  pub lower : ℕ
  pub first : IsFirst (size_of parent) (IsNew parent.rules child.rules) upper
  pub later : IsFirst (size_of parent) (λ k. (upper < k) × IsNew parent.rules child.rules k
      × ¬ AreSame parent.statements upper k) lower
  pub upper_name : a ≡ name_at parent.rules upper
  pub lower_name : b ≡ name_at parent.rules lower

-- the fault of merged rules that are not of one class
abbrev pub SplitsClass : Book → Book → DeriveFault → Type 0
SplitsClass parent child (NotOneClass a b) = NamesApart parent child a b
SplitsClass parent child fault = ⊥

-- the merged rules, in the parent's order
abbrev pub merged_rules : List Rule → List Rule → List Rule
merged_rules rules others = filter (is_new others) rules

-- the first new rule
abbrev pub new_rule : Book → Book → Rule
new_rule parent child =
    rule_at child.rules (unwrap_or (position (is_new parent.rules) child.rules) 0)

-- the parts are, in order, those of the rules; each rule has at least one, and the weights of each
-- are multiplied by one number of at least 1, which its name tells
pub record IsSumOf (rules : List Rule) (times : List ℕ → ℕ) (parts : List Part) : Type 0 where
  pub not_bare : All (λ (rule : Rule). 1 ≤ length rule.parts) rules
  pub counted : All (λ (rule : Rule). 1 ≤ times rule.name) rules
  pub total : parts ≡ flat_map (λ (rule : Rule). map (scaled (times rule.name)) rule.parts) rules

-- the new rule is the sum of the merged rules by these multipliers
abbrev pub IsSumBy : Book → Book → (List ℕ → ℕ) → Type 0
IsSumBy parent child times =
    IsSumOf (merged_rules parent.rules child.rules) times (new_rule parent child).parts

-- the fault of a new rule that is no sum
abbrev pub IsNoSum : Book → Book → DeriveFault → Type 0
IsNoSum parent child (NotASum name) =
    ((times : List ℕ → ℕ) → ¬ IsSumBy parent child times) × (name ≡ (new_rule parent child).name)
IsNoSum parent child fault = ⊥

-- the rules of one class are merged into a sum, and each strict pair is kept
pub record IsAggregation (parent child : Book) : Type 0 where
  pub rules : MergesRules parent.rules child.rules
  pub one_class : MergedAreOneClass parent child
  pub times : List ℕ → ℕ
  pub sum : IsSumBy parent child times
  pub strict : KeepsStrictPairs parent child

-- the first fault of a child that is no aggregation
abbrev pub IsAggregationFault : Book → Book → DeriveFault → Type 0
IsAggregationFault parent child (RulesDiffer name) =
    DiffersInRules parent.rules child.rules (RulesDiffer name)
IsAggregationFault parent child (NotOneClass a b) =
    MergesRules parent.rules child.rules × NamesApart parent child a b
IsAggregationFault parent child (NotASum name) =
    MergesRules parent.rules child.rules × MergedAreOneClass parent child
    × IsNoSum parent child (NotASum name)
IsAggregationFault parent child (StrictLost a b x y) =
    MergesRules parent.rules child.rules × MergedAreOneClass parent child
    × ((times : List ℕ → ℕ) × IsSumBy parent child times) × NamesLost parent child a b x y
IsAggregationFault parent child NoMemory = ⊤
IsAggregationFault parent child fault = ⊥
