-- A child, and a script, has at most one first fault.
use Rattle.std.specs.Prelude.{◌≡◌, ℕ, ◌+◌, ◌<◌, false, List, [], ◌∷◌, ◌++◌, Option, Some, None, Result, Ok, Err, length}
use Rattle.std.proofs.Common.{◌∙◌, ⊎_elim, refl, sym, ap, subst, arith}
use Rattle.std.proofs.lemmas.Bool.{both_ways, cases_order}
use Rattle.reading.specs.Lines.{lines_of}
use Rattle.rule_language.specs.Writing.{name_at}
use Rattle.rule_language.specs.declared.book.Book.{Book}
use Rattle.rule_language.specs.declared.book.Rule.{Rule}
use Rattle.book_operations.specs.Aggregation.{IsAggregationFault, DiffersInRules, MergesTooFew, MakesTwo, ChangesRule, NamesApart, IsChanged, AreSame, MergedAreOneClass}
use Rattle.book_operations.specs.Derivation.{one_at}
use Rattle.book_operations.specs.First.{IsFirst, IsFirstPair}
use Rattle.book_operations.specs.Images.{IsNew, HasEqual}
use Rattle.book_operations.specs.Kinds.{IsOfKind, IsStepFault}
use Rattle.book_operations.specs.Scripts.{is_memory, line_child, Leaves, IsLineFault, Derives, IsFirstRefused, IsScriptFault}
use Rattle.book_operations.specs.Tests.{size_of, image, IsLost, IsNotLowest, NamesLost, NamesNotLowest, IsRefinementFault, IsAugmentationFault}
use Rattle.book_operations.specs.declared.fault.DeriveFault.{DeriveFault}
use Rattle.book_operations.specs.declared.fault.DeriveFault.TheVariants.{RulesDiffer, NotOneClass, NotASum, StrictLost, NotLowest, NoMemory}
use Rattle.book_operations.specs.declared.kind.Accepted.{Accepted}
use Rattle.book_operations.specs.declared.kind.Accepted.TheVariants.{Refinement, Aggregation, Augmentation}
use Rattle.book_operations.specs.declared.steps.Child.{Child}
use Rattle.book_operations.proofs.Chain.{one-left}
use Rattle.book_operations.proofs.Merged.{first-unique}
use Rattle.book_operations.proofs.Outcomes.{not-lost, rules-once, line-once}

pair-unique : (rows columns : ℕ) (P : ℕ → ℕ → Type 0) (a b c d : ℕ) → IsFirstPair rows columns P a b → IsFirstPair rows columns P c d → (a ≡ c) × (b ≡ d)
pair-unique rows columns P a b c d f g =
    let rows_same : a ≡ c =
    ⊎_elim (λ e. e)
    (λ apart. absurd (⊎_elim
    (λ less. g.before a b less f.column.inside f.column.holds)
    (λ more. f.before c d more g.column.inside g.column.holds) apart))
    (cases_order a c) in
    (rows_same, first-unique columns (P c) b d (subst (λ (k : ℕ). IsFirst columns (P k) b) rows_same f.column) g.column)

module _ (parent child : Book) where
  one-lost : (a b x y c d u v : List ℕ) → NamesLost parent child a b x y → NamesLost parent child c d u v → StrictLost a b x y ≡ StrictLost c d u v
  one-lost a b x y c d u v f g =
      let same = pair-unique (size_of parent) (size_of parent) (IsLost parent child) f.upper f.lower g.upper g.lower f.first g.first in
      let ea : a ≡ c = f.upper_name ∙ ap (name_at parent.rules) same.0 ∙ sym g.upper_name in
      let eb : b ≡ d = f.lower_name ∙ ap (name_at parent.rules) same.1 ∙ sym g.lower_name in
      let ex : x ≡ u = f.lower_alone ∙ ap (one_at (size_of parent)) same.1 ∙ sym g.lower_alone in
      let ey : y ≡ v = f.upper_alone ∙ ap (one_at (size_of parent)) same.0 ∙ sym g.upper_alone in
      rw (ea, eb, ex, ey) refl

  one-raised : (a b x y c d u v : List ℕ) → NamesNotLowest parent child a b x y → NamesNotLowest parent child c d u v → NotLowest a b x y ≡ NotLowest c d u v
  one-raised a b x y c d u v f g =
      let same = pair-unique (size_of child) (size_of parent) (IsNotLowest parent child) f.new f.old g.new g.old f.first g.first in
      let ea : a ≡ c = f.new_name ∙ ap (name_at child.rules) same.0 ∙ sym g.new_name in
      let eb : b ≡ d = f.old_name ∙ ap (name_at parent.rules) same.1 ∙ sym g.old_name in
      let ex : x ≡ u = f.new_alone ∙ ap (one_at (size_of child)) same.0 ∙ sym g.new_alone in
      let ey : y ≡ v = f.old_alone ∙ ap (λ (k : ℕ). one_at (size_of child) (image parent child k)) same.1 ∙ sym g.old_alone in
      rw (ea, eb, ex, ey) refl

-- the name of the first rule of some kind
one-name : (rules : List Rule) (P : ℕ → Type 0) (r s : ℕ) (a b : List ℕ) → IsFirst (length rules) P r → IsFirst (length rules) P s → a ≡ name_at rules r → b ≡ name_at rules s → a ≡ b
one-name rules P r s a b f g e h = e ∙ ap (name_at rules) (first-unique (length rules) P r s f g) ∙ sym h

differ : (a b : List ℕ) → a ≡ b → RulesDiffer a ≡ RulesDiffer b
differ a b e = ap (λ (n : List ℕ). RulesDiffer n) e

module _ (parent child : Book) where
  -- ---- refinement

  refinement-differs : (a : List ℕ) → IsRefinementFault parent child (RulesDiffer a) → (g : DeriveFault) → is_memory g ≡ false → IsRefinementFault parent child g → RulesDiffer a ≡ g
  refinement-differs a f (RulesDiffer b) n g = differ a b
      (⊎_elim
      (λ u. ⊎_elim
      (λ v. one-name parent.rules (λ k. ¬ HasEqual parent.rules child.rules k) u.0 v.0 a b u.1 v.1 u.2 v.2)
      (λ v. absurd (u.1.holds (v.0 u.0 u.1.inside))) g)
      (λ u. ⊎_elim
      (λ v. absurd (v.1.holds (u.0 v.0 v.1.inside)))
      (λ v. one-name child.rules (IsNew child.rules parent.rules) u.1.0 v.1.0 a b u.1.1 v.1.1 u.1.2 v.1.2) g)
      f)
  refinement-differs a f (StrictLost c d u v) n g = absurd (⊎_elim (λ w. w.1.holds (g.0 w.0 w.1.inside)) (λ w. g.1 w.1.0 w.1.1.inside w.1.1.holds) f)
  refinement-differs a f NoMemory n g = absurd cc
  refinement-differs a f _ n g = absurd g

  refinement-one : (f g : DeriveFault) → is_memory f ≡ false → is_memory g ≡ false → IsRefinementFault parent child f → IsRefinementFault parent child g → f ≡ g
  refinement-one (RulesDiffer a) g m n f h = refinement-differs a f g n h
  refinement-one (StrictLost a b x y) g m n f h = lost g n h where
    lost : (g : DeriveFault) → is_memory g ≡ false → IsRefinementFault parent child g → StrictLost a b x y ≡ g
    lost (RulesDiffer c) n h = absurd (⊎_elim (λ w. w.1.holds (f.0 w.0 w.1.inside)) (λ w. f.1 w.1.0 w.1.1.inside w.1.1.holds) h)
    lost (StrictLost c d u v) n h = one-lost parent child a b x y c d u v f.2 h.2
    lost NoMemory n h = absurd cc
    lost _ n h = absurd h
  refinement-one NoMemory g m n f h = absurd cc
  refinement-one _ g m n f h = absurd f

  -- ---- augmentation

  augmentation-one : (f g : DeriveFault) → is_memory f ≡ false → is_memory g ≡ false → IsAugmentationFault parent child f → IsAugmentationFault parent child g → f ≡ g
  augmentation-one (RulesDiffer a) g m n f h = differs g n h where
    differs : (g : DeriveFault) → is_memory g ≡ false → IsAugmentationFault parent child g → RulesDiffer a ≡ g
    differs (RulesDiffer b) n h = differ a b (one-name parent.rules (λ k. ¬ HasEqual parent.rules child.rules k) f.0 h.0 a b f.1 h.1 f.2 h.2)
    differs (StrictLost c d u v) n h = absurd (f.1.holds (h.0 f.0 f.1.inside))
    differs (NotLowest c d u v) n h = absurd (f.1.holds (h.0 f.0 f.1.inside))
    differs NoMemory n h = absurd cc
    differs _ n h = absurd h
  augmentation-one (StrictLost a b x y) g m n f h = lost g n h where
    lost : (g : DeriveFault) → is_memory g ≡ false → IsAugmentationFault parent child g → StrictLost a b x y ≡ g
    lost (RulesDiffer c) n h = absurd (h.1.holds (f.0 h.0 h.1.inside))
    lost (StrictLost c d u v) n h = one-lost parent child a b x y c d u v f.1 h.1
    lost (NotLowest c d u v) n h = absurd (not-lost parent child h.1 a b x y f.1)
    lost NoMemory n h = absurd cc
    lost _ n h = absurd h
  augmentation-one (NotLowest a b x y) g m n f h = raised g n h where
    raised : (g : DeriveFault) → is_memory g ≡ false → IsAugmentationFault parent child g → NotLowest a b x y ≡ g
    raised (RulesDiffer c) n h = absurd (h.1.holds (f.0 h.0 h.1.inside))
    raised (StrictLost c d u v) n h = absurd (not-lost parent child f.1 c d u v h.1)
    raised (NotLowest c d u v) n h = one-raised parent child a b x y c d u v f.2 h.2
    raised NoMemory n h = absurd cc
    raised _ n h = absurd h
  augmentation-one NoMemory g m n f h = absurd cc
  augmentation-one _ g m n f h = absurd f

-- ---- aggregation

module _ (rules others : List Rule) where
  too-few : (a : List ℕ) → MergesTooFew rules others a → (b : List ℕ) → MakesTwo rules others b → ⊥
  too-few a f b g = ⊎_elim (λ not_two. not_two g.0) (λ none. none g.1.0 g.1.2.inside g.1.2.holds) f.0

  few-not-changed : (a : List ℕ) → MergesTooFew rules others a → (b : List ℕ) → ChangesRule rules others b → ⊥
  few-not-changed a f b g = ⊎_elim (λ not_two. not_two g.0) (λ none. none g.1.new g.1.first.inside g.1.first.holds) f.0

  two-not-changed : (a : List ℕ) → MakesTwo rules others a → (b : List ℕ) → ChangesRule rules others b → ⊥
  two-not-changed a f b g =
      let same : f.1.0 ≡ g.1.new = first-unique (length others) (IsNew others rules) f.1.0 g.1.new f.1.2 g.1.first in
      g.1.alone f.1.1 (subst (λ (k : ℕ). k < f.1.1) same f.1.3.holds.0) f.1.3.inside f.1.3.holds.1

  one-few : (a b : List ℕ) → MergesTooFew rules others a → MergesTooFew rules others b → a ≡ b
  one-few a b f g =
      ⊎_elim
      (λ u. ⊎_elim (λ v. one-name rules (IsNew rules others) u.0 v.0 a b u.1 v.1 u.2 v.2) (λ v. absurd (v.0 u.0 u.1.inside u.1.holds)) g.1)
      (λ u. ⊎_elim (λ v. absurd (u.0 v.0 v.1.inside v.1.holds)) (λ v. u.1 ∙ sym v.1) g.1)
      f.1

  one-second : (a b : List ℕ) → MakesTwo rules others a → MakesTwo rules others b → a ≡ b
  one-second a b f g =
      let same : f.1.0 ≡ g.1.0 = first-unique (length others) (IsNew others rules) f.1.0 g.1.0 f.1.2 g.1.2 in
      one-name others (λ k. (g.1.0 < k) × IsNew others rules k) f.1.1 g.1.1 a b (subst (λ (j : ℕ). IsFirst (length others) (λ k. (j < k) × IsNew others rules k) f.1.1) same f.1.3) g.1.3 f.1.4 g.1.4

  one-differing : (a b : List ℕ) → DiffersInRules rules others (RulesDiffer a) → DiffersInRules rules others (RulesDiffer b) → a ≡ b
  one-differing a b f g =
      ⊎_elim
      (λ u. ⊎_elim (λ v. one-few a b u v) (λ w. ⊎_elim (λ v. absurd (too-few a u b v)) (λ v. absurd (few-not-changed a u b v)) w) g)
      (λ z. ⊎_elim
      (λ u. ⊎_elim (λ v. absurd (too-few b v a u)) (λ w. ⊎_elim (λ v. one-second a b u v) (λ v. absurd (two-not-changed a u b v)) w) g)
      (λ u. ⊎_elim (λ v. absurd (few-not-changed b v a u)) (λ w. ⊎_elim (λ v. absurd (two-not-changed b v a u)) (λ v. one-name rules (IsChanged rules others) u.2.0 v.2.0 a b u.2.1 v.2.1 u.2.2 v.2.2) w) g)
      z)
      f

module _ (parent child : Book) where
  one-apart : (a b c d : List ℕ) → NamesApart parent child a b → NamesApart parent child c d → NotOneClass a b ≡ NotOneClass c d
  one-apart a b c d f g =
      let P = λ (j k : ℕ). (j < k) × IsNew parent.rules child.rules k × ¬ AreSame parent.statements j k in
      let up : f.upper ≡ g.upper = first-unique (size_of parent) (IsNew parent.rules child.rules) f.upper g.upper f.first g.first in
      let down : f.lower ≡ g.lower = first-unique (size_of parent) (P g.upper) f.lower g.lower (subst (λ (j : ℕ). IsFirst (size_of parent) (P j) f.lower) up f.later) g.later in
      let ea : a ≡ c = f.upper_name ∙ ap (name_at parent.rules) up ∙ sym g.upper_name in
      let eb : b ≡ d = f.lower_name ∙ ap (name_at parent.rules) down ∙ sym g.lower_name in
      rw (ea, eb) refl

  one-class-or-apart : (a b : List ℕ) → NamesApart parent child a b → MergedAreOneClass parent child → ⊥
  one-class-or-apart a b f one_class =
      f.later.holds.2 (one_class f.upper f.lower f.first.inside f.later.inside f.first.holds f.later.holds.1, one_class f.lower f.upper f.later.inside f.first.inside f.later.holds.1 f.first.holds)

  aggregation-one : (f g : DeriveFault) → is_memory f ≡ false → is_memory g ≡ false → IsAggregationFault parent child f → IsAggregationFault parent child g → f ≡ g
  aggregation-one (RulesDiffer a) g m n f h = differs g n h where
    differs : (g : DeriveFault) → is_memory g ≡ false → IsAggregationFault parent child g → RulesDiffer a ≡ g
    differs (RulesDiffer b) n h = differ a b (one-differing parent.rules child.rules a b f h)
    differs (NotOneClass c d) n h = absurd (rules-once parent child parent.rules child.rules h.0 a f)
    differs (NotASum c) n h = absurd (rules-once parent child parent.rules child.rules h.0 a f)
    differs (StrictLost c d u v) n h = absurd (rules-once parent child parent.rules child.rules h.0 a f)
    differs NoMemory n h = absurd cc
    differs _ n h = absurd h
  aggregation-one (NotOneClass a b) g m n f h = apart g n h where
    apart : (g : DeriveFault) → is_memory g ≡ false → IsAggregationFault parent child g → NotOneClass a b ≡ g
    apart (RulesDiffer c) n h = absurd (rules-once parent child parent.rules child.rules f.0 c h)
    apart (NotOneClass c d) n h = one-apart a b c d f.1 h.1
    apart (NotASum c) n h = absurd (one-class-or-apart a b f.1 h.1)
    apart (StrictLost c d u v) n h = absurd (one-class-or-apart a b f.1 h.1)
    apart NoMemory n h = absurd cc
    apart _ n h = absurd h
  aggregation-one (NotASum a) g m n f h = none g n h where
    none : (g : DeriveFault) → is_memory g ≡ false → IsAggregationFault parent child g → NotASum a ≡ g
    none (RulesDiffer c) n h = absurd (rules-once parent child parent.rules child.rules f.0 c h)
    none (NotOneClass c d) n h = absurd (one-class-or-apart c d h.1 f.1)
    none (NotASum c) n h = ap (λ (name : List ℕ). NotASum name) (f.2.1 ∙ sym h.2.1)
    none (StrictLost c d u v) n h = absurd (f.2.0 h.2.0 h.2.1)
    none NoMemory n h = absurd cc
    none _ n h = absurd h
  aggregation-one (StrictLost a b x y) g m n f h = lost g n h where
    lost : (g : DeriveFault) → is_memory g ≡ false → IsAggregationFault parent child g → StrictLost a b x y ≡ g
    lost (RulesDiffer c) n h = absurd (rules-once parent child parent.rules child.rules f.0 c h)
    lost (NotOneClass c d) n h = absurd (one-class-or-apart c d h.1 f.1)
    lost (NotASum c) n h = absurd (h.2.0 f.2.0 f.2.1)
    lost (StrictLost c d u v) n h = one-lost parent child a b x y c d u v f.3 h.3
    lost NoMemory n h = absurd cc
    lost _ n h = absurd h
  aggregation-one NoMemory g m n f h = absurd cc
  aggregation-one _ g m n f h = absurd f

  pub step-fault-once : (kind : Accepted) (f g : DeriveFault) → is_memory f ≡ false → is_memory g ≡ false → IsStepFault parent child kind f → IsStepFault parent child kind g → f ≡ g
  step-fault-once Refinement f g m n h k = refinement-one parent child f g m n h k
  step-fault-once Aggregation f g m n h k = aggregation-one f g m n h k
  step-fault-once Augmentation f g m n h k = augmentation-one parent child f g m n h k

  pub one-kind : (k l : Accepted) → IsOfKind parent child k → IsOfKind parent child l → k ≡ l
  one-kind Refinement Refinement h j = refl
  one-kind Refinement Aggregation h j = absurd (j h.0)
  one-kind Refinement Augmentation h j = absurd (j.1 h.1)
  one-kind Aggregation Refinement h j = absurd (h j.0)
  one-kind Aggregation Aggregation h j = refl
  one-kind Aggregation Augmentation h j = absurd (h j.0)
  one-kind Augmentation Refinement h j = absurd (h.1 j.1)
  one-kind Augmentation Aggregation h j = absurd (j h.0)
  one-kind Augmentation Augmentation h j = refl

-- ---- scripts

line-fault-once : (book : Book) (made : Result (Option Child) DeriveFault) (f g : DeriveFault) → is_memory f ≡ false → is_memory g ≡ false → IsLineFault book made f → IsLineFault book made g → f ≡ g
line-fault-once book (Ok None) f g m n h k = absurd h
line-fault-once book (Ok (Some child)) f g m n h k = step-fault-once book child.book child.kind f g m n h.0 k.0
line-fault-once book (Err own) f g m n h k = sym h ∙ k

record Cut (n : ℕ) (lines : List (List ℕ)) (book : Book) (fault : DeriveFault) (before : List (List ℕ)) : Type 0 where
  line : List ℕ
  after : List (List ℕ)
  so_far : Book
  cut : lines ≡ before ++ line ∷ after
  fine : Derives n before book so_far
  refused : IsLineFault so_far (line_child (n + length before) line so_far) fault

heads : {X : Type 0} (x y : X) (xs ys : List X) → x ∷ xs ≡ y ∷ ys → (x ≡ y) × (xs ≡ ys)
heads x y xs ys e = (cc, cc)

-- at the first line: the line's own fault, or what it leaves and a fault of the others
refused-first : (n : ℕ) (line : List ℕ) (rest : List (List ℕ)) (book : Book) (fault : DeriveFault) → Cut n (line ∷ rest) book fault [] → IsLineFault book (line_child n line book) fault
unfolding Derives
refused-first n line rest book fault c =
    let at = heads line c.line rest c.after c.cut in
    let here : n + 0 ≡ n = omega arith in
    let refused = subst (λ (k : ℕ). IsLineFault c.so_far (line_child k c.line c.so_far) fault) here c.refused in
    subst (λ (l : List ℕ). IsLineFault book (line_child n l book) fault) (sym at.0) (subst (λ (b : Book). IsLineFault b (line_child n c.line b) fault) (sym c.fine) refused)

record Later (n : ℕ) (line : List ℕ) (rest : List (List ℕ)) (book : Book) (fault : DeriveFault) (before : List (List ℕ)) : Type 0 where
  next : Book
  left : Leaves book (line_child n line book) next
  later : Cut (n + 1) rest next fault before

refused-later : (n : ℕ) (line l : List ℕ) (rest before : List (List ℕ)) (book : Book) (fault : DeriveFault) → Cut n (line ∷ rest) book fault (l ∷ before) → Later n line rest book fault before
unfolding Derives
refused-later n line l rest before book fault c =
    let at = heads line l rest (before ++ c.line ∷ c.after) c.cut in
    let place : n + length (l ∷ before) ≡ n + 1 + length before = omega arith in
    record {
      next = c.fine.0;
      left = subst (λ (w : List ℕ). Leaves book (line_child n w book) c.fine.0) (sym at.0) c.fine.1;
      later = record { line = c.line; after = c.after; so_far = c.so_far; cut = at.1; fine = c.fine.2; refused = subst (λ (k : ℕ). IsLineFault c.so_far (line_child k c.line c.so_far) fault) place c.refused };
    }

empty-cut : {X : Type 0} (before after : List X) (x : X) → [] ≡ before ++ x ∷ after → ⊥
empty-cut [] after x e = absurd cc
empty-cut (b ∷ before) after x e = absurd cc

cuts-once : (lines : List (List ℕ)) (n : ℕ) (book : Book) (f g : DeriveFault) (before other : List (List ℕ)) → is_memory f ≡ false → is_memory g ≡ false → Cut n lines book f before → Cut n lines book g other → f ≡ g
cuts-once [] n book f g before other m k c d = absurd (empty-cut before c.after c.line c.cut)
cuts-once (line ∷ rest) n book f g [] [] m k c d = line-fault-once book (line_child n line book) f g m k (refused-first n line rest book f c) (refused-first n line rest book g d)
cuts-once (line ∷ rest) n book f g [] (l ∷ other) m k c d = absurd (let e = refused-later n line l rest other book g d in line-once book (line_child n line book) e.next f m e.left (refused-first n line rest book f c))
cuts-once (line ∷ rest) n book f g (l ∷ before) [] m k c d = absurd (let e = refused-later n line l rest before book f c in line-once book (line_child n line book) e.next g k e.left (refused-first n line rest book g d))
cuts-once (line ∷ rest) n book f g (l ∷ before) (o ∷ other) m k c d =
    let e = refused-later n line l rest before book f c in
    let h = refused-later n line o rest other book g d in
    let same = one-left book (line_child n line book) h.next e.next h.left e.left in
    cuts-once rest (n + 1) e.next f g before other m k e.later (subst (λ (b : Book). Cut (n + 1) rest b g other) same h.later)

cut-of : (n : ℕ) (lines : List (List ℕ)) (book : Book) (fault : DeriveFault) (r : IsFirstRefused n lines book fault) → Cut n lines book fault r.before
cut-of n lines book fault r = record { line = r.line; after = r.after; so_far = r.so_far; cut = r.cut; fine = r.fine; refused = r.refused }

pub script-fault-once : (script : List ℕ) (first : Book) (f g : DeriveFault) → is_memory f ≡ false → is_memory g ≡ false → IsScriptFault script first f → IsScriptFault script first g → f ≡ g
script-fault-once script first f g m n h k =
    ⊎_elim
    (λ u. ⊎_elim
    (λ v. cuts-once (lines_of script) 1 first f g u.1.before v.1.before m n (cut-of 1 (lines_of script) first f u.1) (cut-of 1 (lines_of script) first g v.1))
    (λ v. absurd (both_ways _ v.0 u.0)) k)
    (λ u. ⊎_elim (λ v. absurd (both_ways _ u.0 v.0)) (λ v. u.1 ∙ sym v.1) k)
    h
