-- The faults of the steps of a test are faults of the test.
use Rattle.std.specs.Prelude.{◌≡◌, ℕ, List}
use Rattle.std.proofs.Common.{inr, subst}
use Rattle.rule_language.specs.declared.book.Book.{Book}
use Rattle.rule_language.specs.declared.book.Rule.{Rule}
use Rattle.book_operations.specs.Aggregation.{MergesRules, DiffersInRules, MergedAreOneClass, SplitsClass, IsSumBy, IsNoSum, IsAggregationFault}
use Rattle.book_operations.specs.Images.{HasNewName}
use Rattle.book_operations.specs.Tests.{HasRulesOf, HasNamesOf, KeepsStrictPairs, LosesPair, RaisesAdded, IsRefinementFault, IsAugmentationFault}
use Rattle.book_operations.specs.declared.fault.DeriveFault.{DeriveFault}
use Rattle.book_operations.specs.declared.fault.DeriveFault.TheVariants.{RulesDiffer, NotOneClass, NotASum, StrictLost, NotLowest, NoMemory}

module _ (parent child : Book) (kept : HasRulesOf child parent) where
  pub refinement-other : (fault : DeriveFault) → HasNewName child.rules parent.rules fault → IsRefinementFault parent child fault
  refinement-other (RulesDiffer name) h = inr (kept, h)
  refinement-other _ h = absurd h

  pub refinement-lost : HasNamesOf parent child → (fault : DeriveFault) → LosesPair parent child fault → IsRefinementFault parent child fault
  refinement-lost back (StrictLost a b x y) h = (kept, back, h)
  refinement-lost back NoMemory h = h
  refinement-lost back _ h = absurd h

  pub augmentation-lost : (fault : DeriveFault) → LosesPair parent child fault → IsAugmentationFault parent child fault
  augmentation-lost (StrictLost a b x y) h = (kept, h)
  augmentation-lost NoMemory h = h
  augmentation-lost _ h = absurd h

  pub augmentation-raised : KeepsStrictPairs parent child → (fault : DeriveFault) → RaisesAdded parent child fault → IsAugmentationFault parent child fault
  augmentation-raised strict (NotLowest a b x y) h = (kept, strict, h)
  augmentation-raised strict NoMemory h = h
  augmentation-raised strict _ h = absurd h

pub aggregation-rules : (parent child : Book) (fault : DeriveFault) → DiffersInRules parent.rules child.rules fault → IsAggregationFault parent child fault
aggregation-rules parent child (RulesDiffer name) h = h
aggregation-rules parent child _ h = absurd h

module _ (parent child : Book) (merges : MergesRules parent.rules child.rules) where
  pub aggregation-class : (fault : DeriveFault) → SplitsClass parent child fault → IsAggregationFault parent child fault
  aggregation-class (NotOneClass a b) h = (merges, h)
  aggregation-class _ h = absurd h

  pub aggregation-sum : MergedAreOneClass parent child → (fault : DeriveFault) → IsNoSum parent child fault → IsAggregationFault parent child fault
  aggregation-sum one_class (NotASum name) h = (merges, one_class, h)
  aggregation-sum one_class _ h = absurd h

  pub aggregation-lost : MergedAreOneClass parent child → (times : List ℕ → ℕ) → IsSumBy parent child times → (fault : DeriveFault) → LosesPair parent child fault → IsAggregationFault parent child fault
  aggregation-lost one_class times sum (StrictLost a b x y) h = (merges, one_class, (times, sum), h)
  aggregation-lost one_class times sum NoMemory h = h
  aggregation-lost one_class times sum _ h = absurd h

-- what holds of two lists of rules that were read holds of the books' own
pub of_read : (P : List Rule → List Rule → Type 0) (read other_read rules others : List Rule) → read ≡ rules → other_read ≡ others → P read other_read → P rules others
of_read P read other_read rules others e f h = subst (λ rs. P rs others) e (subst (λ os. P read os) f h)
