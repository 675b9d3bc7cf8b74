-- A script has one outcome: what a test accepts it does not refuse.
use Rattle.std.specs.Prelude.{◌≡◌, ℕ, ◌+◌, ◌<◌, false, List, [], ◌∷◌, ◌++◌, Option, Some, None, Result, Ok, Err, length}
use Rattle.std.proofs.Common.{◌∙◌, ⊎_elim, sym, subst, arith}
use Rattle.std.proofs.lemmas.Bool.{both_ways}
use Rattle.reading.specs.Lines.{lines_of}
use Rattle.rule_language.specs.declared.book.Book.{Book}
use Rattle.rule_language.specs.declared.book.Rule.{Rule}
use Rattle.book_operations.specs.Aggregation.{IsAggregation, IsAggregationFault, MergesRules, DiffersInRules}
use Rattle.book_operations.specs.Images.{IsNew}
use Rattle.book_operations.specs.Kinds.{IsStep, IsStepFault}
use Rattle.book_operations.specs.Scripts.{is_memory, line_child, Leaves, IsLineFault, Derives, IsDerivedBy, IsScriptFault}
use Rattle.book_operations.specs.Tests.{KeepsStrictPairs, NamesLost, IsRefinement, IsRefinementFault, IsAugmentation, IsAugmentationFault}
use Rattle.book_operations.specs.declared.fault.DeriveFault.{DeriveFault}
use Rattle.book_operations.specs.declared.fault.DeriveFault.TheVariants.{RulesDiffer, NotOneClass, NotASum, StrictLost, NotLowest, NoMemory}
use Rattle.book_operations.specs.declared.kind.Accepted.{Accepted}
use Rattle.book_operations.specs.declared.kind.Accepted.TheVariants.{Refinement, Aggregation, Augmentation}
use Rattle.book_operations.specs.declared.steps.Child.{Child}
use Rattle.book_operations.proofs.Chain.{one-left}
use Rattle.book_operations.proofs.Merged.{first-unique}

-- ---- what a test accepts it does not refuse

module _ (parent child : Book) where
  pub not-lost : KeepsStrictPairs parent child → (a b x y : List ℕ) → NamesLost parent child a b x y → ⊥
  not-lost strict a b x y lost = lost.first.column.holds.1 (strict lost.upper lost.lower lost.first.row lost.first.column.inside lost.first.column.holds.0)

  refinement-once : IsRefinement parent child → (fault : DeriveFault) → is_memory fault ≡ false → IsRefinementFault parent child fault → ⊥
  refinement-once is (RulesDiffer name) m f = ⊎_elim (λ u. u.1.holds (is.kept u.0 u.1.inside)) (λ v. is.no_others v.1.0 v.1.1.inside v.1.1.holds) f
  refinement-once is (StrictLost a b x y) m f = not-lost is.strict a b x y f.2
  refinement-once is NoMemory m f = absurd cc
  refinement-once is _ m f = f

  augmentation-once : IsAugmentation parent child → (fault : DeriveFault) → is_memory fault ≡ false → IsAugmentationFault parent child fault → ⊥
  augmentation-once is (RulesDiffer name) m f = f.1.holds (is.kept f.0 f.1.inside)
  augmentation-once is (StrictLost a b x y) m f = not-lost is.strict a b x y f.1
  augmentation-once is (NotLowest a b x y) m f =
      let named = f.2 in
      named.first.column.holds.1 (is.lowest named.new named.old named.first.row named.first.column.inside named.first.column.holds.0)
  augmentation-once is NoMemory m f = absurd cc
  augmentation-once is _ m f = f

  pub rules-once : (rules others : List Rule) → MergesRules rules others → (name : List ℕ) → DiffersInRules rules others (RulesDiffer name) → ⊥
  rules-once rules others merges name f =
      ⊎_elim
      (λ few. ⊎_elim (λ not_two. not_two merges.merged) (λ none. none merges.new.new merges.new.first.inside merges.new.first.holds) few.0)
      (λ more. ⊎_elim
      (λ two.
      let b = two.1.0 in
      let c = two.1.1 in
      let same : b ≡ merges.new.new = first-unique (length others) (IsNew others rules) b merges.new.new two.1.2 merges.new.first in
      merges.new.alone c (subst (λ (k : ℕ). k < c) same two.1.3.holds.0) two.1.3.inside two.1.3.holds.1)
      (λ changed. let at = changed.2.1 in at.holds.1 (merges.kept changed.2.0 at.inside at.holds.0))
      more)
      f

  aggregation-once : IsAggregation parent child → (fault : DeriveFault) → is_memory fault ≡ false → IsAggregationFault parent child fault → ⊥
  aggregation-once is (RulesDiffer name) m f = rules-once parent.rules child.rules is.rules name f
  aggregation-once is (NotOneClass a b) m f =
      let named = f.1 in
      let up = named.first.inside in
      let down = named.later.inside in
      let new_up = named.first.holds in
      let new_down = named.later.holds.1 in
      named.later.holds.2 (is.one_class named.upper named.lower up down new_up new_down, is.one_class named.lower named.upper down up new_down new_up)
  aggregation-once is (NotASum name) m f = f.2.0 is.times is.sum
  aggregation-once is (StrictLost a b x y) m f = not-lost is.strict a b x y f.3
  aggregation-once is NoMemory m f = absurd cc
  aggregation-once is _ m f = f

  pub step-once : (kind : Accepted) → IsStep parent child kind → (fault : DeriveFault) → is_memory fault ≡ false → IsStepFault parent child kind fault → ⊥
  step-once Refinement is fault m f = refinement-once is fault m f
  step-once Aggregation is fault m f = aggregation-once is fault m f
  step-once Augmentation is fault m f = augmentation-once is fault m f

-- ---- lines

pub line-once : (book : Book) (made : Result (Option Child) DeriveFault) (next : Book) (fault : DeriveFault) → is_memory fault ≡ false → Leaves book made next → IsLineFault book made fault → ⊥
line-once book (Ok None) next fault m l f = f
line-once book (Ok (Some child)) next fault m l f = step-once book child.book child.kind l.1 fault m f.0
line-once book (Err own) next fault m l f = l

one-last : (lines : List (List ℕ)) (n : ℕ) (first a b : Book) → Derives n lines first a → Derives n lines first b → a ≡ b
unfolding Derives
one-last [] n first a b d e = sym d ∙ e
one-last (line ∷ lines) n first a b d e =
    let same = one-left first (line_child n line first) e.0 d.0 e.1 d.1 in
    one-last lines (n + 1) d.0 a b d.2 (subst (λ (c : Book). Derives (n + 1) lines c b) same e.2)

not-both : (before : List (List ℕ)) (line : List ℕ) (after : List (List ℕ)) (n : ℕ) (first last so_far : Book) (fault : DeriveFault) → is_memory fault ≡ false → Derives n (before ++ line ∷ after) first last → Derives n before first so_far → IsLineFault so_far (line_child (n + length before) line so_far) fault → ⊥
unfolding Derives
not-both [] line after n first last so_far fault m d e f =
    let here : n + 0 ≡ n = omega arith in
    let refused : IsLineFault first (line_child n line first) fault = subst (λ (b : Book). IsLineFault b (line_child n line b) fault) (sym e) (subst (λ (k : ℕ). IsLineFault so_far (line_child k line so_far) fault) here f) in
    line-once first (line_child n line first) d.0 fault m d.1 refused
not-both (l ∷ before) line after n first last so_far fault m d e f =
    let same = one-left first (line_child n l first) e.0 d.0 e.1 d.1 in
    let place : n + length (l ∷ before) ≡ n + 1 + length before = omega arith in
    not-both before line after (n + 1) d.0 last so_far fault m d.2 (subst (λ (c : Book). Derives (n + 1) before c so_far) same e.2)
    (subst (λ (k : ℕ). IsLineFault so_far (line_child k line so_far) fault) place f)

pub one-book : (script : List ℕ) (first a b : Book) → IsDerivedBy script first a → IsDerivedBy script first b → a ≡ b
one-book script first a b d e = one-last (lines_of script) 1 first a b d.derives e.derives

pub no-fault : (script : List ℕ) (first last : Book) (fault : DeriveFault) → IsDerivedBy script first last → is_memory fault ≡ false → ¬ IsScriptFault script first fault
no-fault script first last fault d m f =
    ⊎_elim
    (λ line. not-both line.1.before line.1.line line.1.after 1 first last line.1.so_far fault m (subst (λ (ls : List (List ℕ)). Derives 1 ls first last) line.1.cut d.derives) line.1.fine line.1.refused)
    (λ bytes. both_ways _ bytes.0 d.utf8)
    f
