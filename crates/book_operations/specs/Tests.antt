-- When a book refines, augments or aggregates another, and the first fault where it does not.
-- Refining, augmenting and aggregating a rulebook: Censi and others, 2019; the faults are this
-- project's own.
use Rattle.std.specs.Prelude.{◌≡◌, ℕ, ◌<◌, ◌≤◌, ◌⊎◌, List, ⊤, length, slice_index, if◌then◌else◌}
use Rattle.preorder.specs.Statements.{Leads}
use Rattle.rule_language.specs.Writing.{name_at}
use Rattle.rule_language.specs.declared.book.Book.{Book}
use Rattle.rulebook_order.specs.NoWorse.{Beats}
use Rattle.rulebook_order.specs.NoWorseUnder.{IsAbove, NoWorseUnder}
use Rattle.book_operations.specs.Derivation.{Derivation, IsAdded, Carries, KeepsPreferencesUnder}
use Rattle.book_operations.specs.Derivation.{one_at}
use Rattle.book_operations.specs.First.{IsFirstPair}
use Rattle.book_operations.specs.Images.{rule_at, HasEqual, is_new, IsNew, IsFirstUnequal}
use Rattle.book_operations.specs.Images.{IsFirstNew, image_at}
use Rattle.book_operations.specs.declared.fault.DeriveFault.{DeriveFault}
use Rattle.book_operations.specs.declared.fault.DeriveFault.TheVariants.{RulesDiffer, StrictLost}
use Rattle.book_operations.specs.declared.fault.DeriveFault.TheVariants.{NotLowest, NoMemory}

abbrev pub size_of : Book → ℕ
size_of book = length book.rules

-- each rule of the book is one of the other's, with name and parts
abbrev pub HasRulesOf : Book → Book → Type 0
HasRulesOf other book = (r : ℕ) → r < size_of book → HasEqual book.rules other.rules r

-- each name of the book's rules is that of one of the other's
abbrev pub HasNamesOf : Book → Book → Type 0
HasNamesOf other book = (r : ℕ) → r < size_of book → ¬ IsNew book.rules other.rules r

-- what rule r of the parent becomes in the child
abbrev pub image : Book → Book → ℕ → ℕ
image parent child = image_at parent.rules child.rules

-- A rule of the parent becomes the child's rule of its name, with its own values. A rule whose name
-- the child lacks is merged: it becomes the child's new rule, with its values times a number of its
-- own, which its name tells.
abbrev pub becomes : Book → Book → (List ℕ → ℕ) → Derivation
becomes parent child times = record {
  image = image parent child;
  times =
      λ r. if is_new child.rules (rule_at parent.rules r) then times (name_at parent.rules r)
      else 1;
}

-- where no rule is merged
abbrev pub once : List ℕ → ℕ
once name = 1

-- each rule is multiplied by a number of at least 1
abbrev pub IsCounted : Book → Book → (List ℕ → ℕ) → Type 0
IsCounted parent child times =
    (r : ℕ) → r < size_of parent → 1 ≤ (becomes parent child times).times r

-- the child keeps the preferences of the parent
abbrev pub KeepsPreferencesOf : Book → Book → (List ℕ → ℕ) → Type 0
KeepsPreferencesOf parent child times =
    KeepsPreferencesUnder parent.statements (size_of parent) child.statements (size_of child)
    (becomes parent child times)

-- rule a is above rule b in the parent, and what they become is not so in the child
abbrev pub IsLost : Book → Book → ℕ → ℕ → Type 0
IsLost parent child a b =
    IsAbove parent.statements a b × ¬ IsAbove child.statements (image parent child a)
    (image parent child b)

-- each strict pair of the parent is one of the child
abbrev pub KeepsStrictPairs : Book → Book → Type 0
KeepsStrictPairs parent child =
    (a b : ℕ) → a < size_of parent → b < size_of parent → IsAbove parent.statements a b
    → IsAbove child.statements (image parent child a) (image parent child b)

-- rules that become the same are of one class
abbrev pub MergesClasses : Book → Book → Type 0
MergesClasses parent child =
    (a b : ℕ) → a < size_of parent → b < size_of parent
    → image parent child a ≡ image parent child b → Leads parent.statements a b

-- each rule of the child that none of the parent becomes is below what all of the parent become
abbrev pub OthersAreLowest : Book → Book → Type 0
OthersAreLowest parent child =
    (new old : ℕ) → new < size_of child → old < size_of parent
    → IsAdded (size_of parent) (becomes parent child once) new
    → IsAbove child.statements (image parent child old) new

-- each rule of the child with a new name is below each rule of the parent
abbrev pub AddedAreLowest : Book → Book → Type 0
AddedAreLowest parent child =
    (new old : ℕ) → new < size_of child → old < size_of parent → IsNew child.rules parent.rules new
    → IsAbove child.statements (image parent child old) new

-- rule new of the child has a new name, and rule old of the parent is not above it
abbrev pub IsNotLowest : Book → Book → ℕ → ℕ → Type 0
IsNotLowest parent child new old =
    IsNew child.rules parent.rules new × ¬ IsAbove child.statements (image parent child old) new

-- a and b name the first lost pair, and the vectors violate its lower rule alone, and its upper
-- rule alone
pub record NamesLost (parent child : Book) (a b x y : List ℕ) : Type 0 where
  pub upper : ℕ
  pub lower : ℕ
  pub first : IsFirstPair (size_of parent) (size_of parent) (IsLost parent child) upper lower
  pub upper_name : a ≡ name_at parent.rules upper
  pub lower_name : b ≡ name_at parent.rules lower
  pub lower_alone : x ≡ one_at (size_of parent) lower
  pub upper_alone : y ≡ one_at (size_of parent) upper

-- a names the first new rule that is not lowest, b the first rule that is not above it, and the
-- vectors violate the one alone, and the other alone
pub record NamesNotLowest (parent child : Book) (a b x y : List ℕ) : Type 0 where
  pub new : ℕ
  pub old : ℕ
  pub first : IsFirstPair (size_of child) (size_of parent) (IsNotLowest parent child) new old
  pub new_name : a ≡ name_at child.rules new
  pub old_name : b ≡ name_at parent.rules old
  pub new_alone : x ≡ one_at (size_of child) new
  pub old_alone : y ≡ one_at (size_of child) (image parent child old)

-- the fault that a lost pair is
abbrev pub LosesPair : Book → Book → DeriveFault → Type 0
LosesPair parent child (StrictLost a b x y) = NamesLost parent child a b x y
LosesPair parent child NoMemory = ⊤
LosesPair parent child fault = ⊥

-- the fault that a new rule is
abbrev pub RaisesAdded : Book → Book → DeriveFault → Type 0
RaisesAdded parent child (NotLowest a b x y) = NamesNotLowest parent child a b x y
RaisesAdded parent child NoMemory = ⊤
RaisesAdded parent child fault = ⊥

-- the child has the parent's rules and no others, and each strict pair of the parent
pub record IsRefinement (parent child : Book) : Type 0 where
  pub kept : HasRulesOf child parent
  pub no_others : HasNamesOf parent child
  pub strict : KeepsStrictPairs parent child

-- the first fault of a child that is no refinement: a rule of the parent that has no equal, a rule
-- with a new name, or a lost pair
abbrev pub IsRefinementFault : Book → Book → DeriveFault → Type 0
IsRefinementFault parent child (RulesDiffer name) =
    IsFirstUnequal parent.rules child.rules name ⊎
    (HasRulesOf child parent × IsFirstNew child.rules parent.rules name)
IsRefinementFault parent child (StrictLost a b x y) =
    HasRulesOf child parent × HasNamesOf parent child × NamesLost parent child a b x y
IsRefinementFault parent child NoMemory = ⊤
IsRefinementFault parent child fault = ⊥

-- the child has the parent's rules, each strict pair of the parent, and its other rules below them
pub record IsAugmentation (parent child : Book) : Type 0 where
  pub kept : HasRulesOf child parent
  pub strict : KeepsStrictPairs parent child
  pub lowest : AddedAreLowest parent child

-- the first fault of a child that is no augmentation: a rule of the parent that has no equal, a
-- lost pair, or a new rule that is not lowest
abbrev pub IsAugmentationFault : Book → Book → DeriveFault → Type 0
IsAugmentationFault parent child (RulesDiffer name) = IsFirstUnequal parent.rules child.rules name
IsAugmentationFault parent child (StrictLost a b x y) =
    HasRulesOf child parent × NamesLost parent child a b x y
IsAugmentationFault parent child (NotLowest a b x y) =
    HasRulesOf child parent × KeepsStrictPairs parent child × NamesNotLowest parent child a b x y
IsAugmentationFault parent child NoMemory = ⊤
IsAugmentationFault parent child fault = ⊥

-- the two child vectors violate each added rule alike
abbrev pub AddedAlike : Book → Book → List ℕ → List ℕ → Type 0
AddedAlike parent child x y =
    (c : ℕ) → c < size_of child → IsAdded (size_of parent) (becomes parent child once) c
    → slice_index x c ≡ slice_index y c

-- x beats y in the parent; of the child vectors that carry them, added rules violated alike, the
-- first does not beat the second
pub record LosesPreference (parent child : Book) (times : List ℕ → ℕ) (x y : List ℕ) : Type 0 where
  pub in_parent : Beats (NoWorseUnder parent.statements (size_of parent)) x y
  -- there are such child vectors
  pub carried : (child_x : List ℕ) × (child_y : List ℕ)
      × Carries (size_of parent) (size_of child) (becomes parent child times) x child_x
      × Carries (size_of parent) (size_of child) (becomes parent child times) y child_y
      × AddedAlike parent child child_x child_y
  pub not_in_child : (child_x child_y : List ℕ)
      → Carries (size_of parent) (size_of child) (becomes parent child times) x child_x
      → Carries (size_of parent) (size_of child) (becomes parent child times) y child_y
      → AddedAlike parent child child_x child_y → ¬ NoWorseUnder child.statements
      (size_of child) child_x child_y

-- child vectors that carry two of the parent, of which the first beats the second: of the child
-- vectors the first does not beat the second
pub record LosesCarried (parent child : Book) (child_x child_y : List ℕ) : Type 0 where
  pub x : List ℕ
  pub y : List ℕ
  pub carries_x : Carries (size_of parent) (size_of child) (becomes parent child once) x child_x
  pub carries_y : Carries (size_of parent) (size_of child) (becomes parent child once) y child_y
  pub in_parent : Beats (NoWorseUnder parent.statements (size_of parent)) x y
  pub not_in_child : ¬ NoWorseUnder child.statements (size_of child) child_x child_y

-- the two vectors of a lost pair, and those of a new rule that is not lowest, show that a
-- preference is lost
abbrev pub ShowsLoss : Book → Book → (List ℕ → ℕ) → DeriveFault → Type 0
ShowsLoss parent child times (StrictLost a b x y) = LosesPreference parent child times x y
ShowsLoss parent child times (NotLowest a b x y) = LosesCarried parent child x y
ShowsLoss parent child times fault = ⊤
