-- When a book is bound to a source of features, and which is its first fault. This project's own.
use Rattle.std.specs.Prelude.{◌≡◌, ℕ, ◌<◌, ◌≤◌, List, [], length, take, All, IsTrue, slice_index_or}
use Rattle.expressions.specs.Written.{is_well_formed}
use Rattle.rule_language.specs.declared.book.Rule.{Rule}
use Rattle.rule_language.specs.declared.limits.TheConstants.{MAX_PARTS, MAX_WEIGHT}
use Rattle.preorder.specs.declared.limits.TheConstants.{MAX_RULES}
use Rattle.rule_language.specs.declared.part.Part.{Part}
use Rattle.violation_measures.specs.Amounts.{IsBoundPart}
use Rattle.violation_measures.specs.Intervals.{all_known, all_keep}
use Rattle.violation_measures.specs.Resolved.{resolved_book}
use Rattle.violation_measures.specs.Sources.{Features, bounds_of}
use Rattle.violation_measures.specs.declared.bind_fault.BindFault.{BindFault}
use Rattle.violation_measures.specs.declared.bind_fault.BindFault.TheVariants as fault
use Rattle.violation_measures.specs.declared.bound.Bound.{Bound}

-- the part names only features that the source knows, and the interval of no subexpression passes
-- 10^18
pub record MayBind (f : Features) (part : Part) : Type 0 where
  pub known : IsTrue (all_known f.find part.expr)
  pub keeps : IsTrue (all_keep (bounds_of f) part.expr)

-- the rule is not bare, and each of its parts, final or not, may be bound
pub record RuleMayBind (f : Features) (rule : Rule) : Type 0 where
  pub some : 1 ≤ length rule.parts
  pub parts : All (MayBind f) rule.parts

-- the item at i is bad, and those before it are fine
pub record IsFirst {X : Type 0} (Fine Bad : X → Type 0) (items : List X) (i : ℕ) : Type 0 where
  pub here : i < length items
  pub bad : (d : X) → Bad (slice_index_or items i d)
  pub before : All Fine (take i items)

abbrev pub IsBare : Rule → Type 0
IsBare rule = rule.parts ≡ []

-- the part names a feature that the source doesn't know
abbrev pub NamesUnknown : Features → Part → Type 0
NamesUnknown f part = ¬ IsTrue (all_known f.find part.expr)

-- its features are known, and the interval of some subexpression passes 10^18
pub record IsTooLarge (f : Features) (part : Part) : Type 0 where
  pub known : IsTrue (all_known f.find part.expr)
  pub passes : ¬ IsTrue (all_keep (bounds_of f) part.expr)

-- the first part of the rule that may not be bound is bad
abbrev pub HasFirst : Features → (Part → Type 0) → Rule → Type 0
HasFirst f Bad rule = (j : ℕ) × IsFirst (MayBind f) Bad rule.parts j

-- the fault is that of the first rule that may not be bound
abbrev pub IsFaultOf : Features → List Rule → BindFault → Type 0
IsFaultOf f rules (fault.BareRule i) = IsFirst (RuleMayBind f) IsBare rules i
IsFaultOf f rules (fault.UnknownFeature i) =
    IsFirst (RuleMayBind f) (HasFirst f (NamesUnknown f)) rules i
IsFaultOf f rules (fault.RangeTooLarge i) =
    IsFirst (RuleMayBind f) (HasFirst f (IsTooLarge f)) rules i
IsFaultOf f rules fault.NoMemory = Unit {0}

-- what a part of any book keeps to
pub record IsBookPart (part : Part) : Type 0 where
  pub weight : part.weight ≤ MAX_WEIGHT
  pub well_formed : IsTrue (is_well_formed part.expr)

-- what a rule of any book keeps to
pub record IsBookRule (rule : Rule) : Type 0 where
  pub few : length rule.parts ≤ MAX_PARTS
  pub parts : All IsBookPart rule.parts

-- the fault is that of part or rule i, which may not be bound
abbrev pub IsFaultOfPart : Features → ℕ → Part → BindFault → Type 0
IsFaultOfPart f i part (fault.BareRule k) = ⊥
IsFaultOfPart f i part (fault.UnknownFeature k) = (k ≡ i) × NamesUnknown f part
IsFaultOfPart f i part (fault.RangeTooLarge k) = (k ≡ i) × IsTooLarge f part
IsFaultOfPart f i part fault.NoMemory = ⊥

abbrev pub IsFaultOfParts : Features → ℕ → List Part → BindFault → Type 0
IsFaultOfParts f i parts (fault.BareRule k) = ⊥
IsFaultOfParts f i parts (fault.UnknownFeature k) =
    (k ≡ i) × ((j : ℕ) × IsFirst (MayBind f) (NamesUnknown f) parts j)
IsFaultOfParts f i parts (fault.RangeTooLarge k) =
    (k ≡ i) × ((j : ℕ) × IsFirst (MayBind f) (IsTooLarge f) parts j)
IsFaultOfParts f i parts fault.NoMemory = ⊥

abbrev pub IsFaultOfRule : Features → ℕ → Rule → BindFault → Type 0
IsFaultOfRule f i rule (fault.BareRule k) = (k ≡ i) × IsBare rule
IsFaultOfRule f i rule (fault.UnknownFeature k) = (k ≡ i) × HasFirst f (NamesUnknown f) rule
IsFaultOfRule f i rule (fault.RangeTooLarge k) = (k ≡ i) × HasFirst f (IsTooLarge f) rule
IsFaultOfRule f i rule fault.NoMemory = ⊥

pub record IsBoundRule (f : Features) (rule : Rule) : Type 0 where
  pub some : 1 ≤ length rule.parts
  pub few : length rule.parts ≤ MAX_PARTS
  pub parts : All (IsBoundPart f) rule.parts

-- the book of what was bound is bound to the source, and worked out over its features
pub record IsBoundTo (f : Features) (bound : Bound) : Type 0 where
  pub some : 1 ≤ length bound.book.rules
  pub few : length bound.book.rules ≤ MAX_RULES
  pub rules : All (IsBoundRule f) bound.book.rules
  pub resolved : bound ≡ resolved_book f.find bound.book
