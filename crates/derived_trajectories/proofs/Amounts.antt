-- The vector of a trajectory is what is measured of a book by a number for each part, in proportion to its weight.
use Rattle.std.specs.Prelude.{◌≡◌, ℕ, ◌+◌, ◌*◌, Bool, true, false, List, [], ◌∷◌, Option, Some, None, map}
use Rattle.std.specs.List.{sum_by, last_or}
use Rattle.std.proofs.Common.{cond, ◌∙◌, refl, sym, ap, subst, arith}
use Rattle.std.proofs.lemmas.List.Sums.{sum_by-cons}
use Rattle.reading.specs.Lines.{lines_of}
use Rattle.rule_language.specs.Books.{IsBook}
use Rattle.rule_language.specs.declared.book.Book.{Book}
use Rattle.rule_language.specs.declared.book.Rule.{Rule}
use Rattle.rule_language.specs.declared.part.Part.{Part}
use Rattle.book_operations.specs.Measures.{IsMeasure, rule_amount, measured}
use Rattle.book_operations.specs.Same.{scaled}
use Rattle.book_operations.specs.Scripts.{IsDerivedBy, CarriesThrough, KeepsThrough, BeatsIn}
use Rattle.book_operations.specs.Derivation.{Carries}
use Rattle.book_operations.specs.Kinds.{IsStep, KeepsAs, CarriesAs}
use Rattle.book_operations.specs.Measures.{CarriesMeasured}
use Rattle.book_operations.specs.Tests.{size_of, becomes, once, KeepsPreferencesOf}
use Rattle.book_operations.specs.declared.kind.Accepted.{Accepted}
use Rattle.book_operations.specs.declared.kind.Accepted.TheVariants.{Refinement, Aggregation, Augmentation}
use Rattle.book_operations.proofs.Carried.{derives-measured}
use Rattle.derived_trajectories.specs.Driven.{CarriesTrajectories, KeepsTrajectories, CarriesDriven}
use Rattle.violation_measures.specs.Amounts.{part_value, weighted}
use Rattle.violation_measures.specs.Sources.{Features, at_step}
use Rattle.violation_measures.specs.Steps.{finish}
use Rattle.violation_measures.specs.Values.{Valuation, value}
use Rattle.violation_measures.specs.Vectors.{value_at, end_after, trajectory_vector}
use Rattle.violation_measures.specs.declared.bound.Bound.{Bound}
use Rattle.violation_measures.specs.declared.step.Step.{Step}

-- ---- sums of sums

sum-none : {X : Type 0} (xs : List X) → sum_by (λ x. 0) xs ≡ 0
sum-none [] = refl
sum-none (x ∷ xs) = sum_by-cons (λ x. 0) x xs ∙ omega (arith, sum-none xs)

sum-both : {X : Type 0} (f g : X → ℕ) (xs : List X) → sum_by (λ x. f x + g x) xs ≡ sum_by f xs + sum_by g xs
sum-both f g [] = refl
sum-both f g (x ∷ xs) = omega (arith, sum_by-cons (λ x. f x + g x) x xs, sum_by-cons f x xs, sum_by-cons g x xs, sum-both f g xs)

sum-same : {X : Type 0} (f g : X → ℕ) (xs : List X) → ((x : X) → f x ≡ g x) → sum_by f xs ≡ sum_by g xs
sum-same f g [] h = refl
sum-same f g (x ∷ xs) h = omega (arith, sum_by-cons f x xs, sum_by-cons g x xs, h x, sum-same f g xs h)

sum-times : {X : Type 0} (times : ℕ) (f g : X → ℕ) (xs : List X) → ((x : X) → f x ≡ times * g x) → sum_by f xs ≡ times * sum_by g xs
sum-times times f g [] h = grind arith
sum-times times f g (x ∷ xs) h = together (f x) (sum_by f xs) times (g x) (sum_by g xs) (sum_by f (x ∷ xs)) (sum_by g (x ∷ xs)) (sum_by-cons f x xs) (sum_by-cons g x xs) (h x) (sum-times times f g xs h) where
  together : (a b t v w s u : ℕ) → s ≡ a + b → u ≡ v + w → a ≡ t * v → b ≡ t * w → s ≡ t * u
  together a b t v w s u e f g h = e ∙ grind (arith, g, h) ∙ ap (λ (z : ℕ). t * z) (sym f)

-- over steps and parts, in either order, with a number more for each part
exchanged : {X Y : Type 0} (f : X → Y → ℕ) (e : Y → ℕ) (xs : List X) (ys : List Y) → sum_by (λ x. sum_by (f x) ys) xs + sum_by e ys ≡ sum_by (λ y. sum_by (λ x. f x y) xs + e y) ys
exchanged f e xs [] = omega (arith, sum-none xs)
exchanged f e xs (y ∷ ys) =
    omega (
      arith,
      sum-same (λ x. sum_by (f x) (y ∷ ys)) (λ x. f x y + sum_by (f x) ys) xs (λ x. sum_by-cons (f x) y ys),
      sum-both (λ x. f x y) (λ x. sum_by (f x) ys) xs,
      sum_by-cons e y ys,
      sum_by-cons (λ y. sum_by (λ x. f x y) xs + e y) y ys,
      exchanged f e xs ys,
    )

-- ---- the number of a part along a trajectory

abbrev at_each : Features → Step → Part → ℕ
at_each f step part = cond part.at_end 0 (weighted (at_step f step) part)

abbrev at_last : Features → Option Step → Part → ℕ
at_last f None part = 0
at_last f (Some last) part = cond part.at_end (weighted (at_step f (finish last)) part) 0

abbrev along : Features → List Step → Part → ℕ
along f steps part = sum_by (λ step. at_each f step part) steps + at_last f (last_or None steps) part

weighted-scales : (v : Valuation) (times : ℕ) (part : Part) → weighted v (scaled times part) ≡ times * weighted v part
weighted-scales v times part = turned part.weight times (part_value (value v part.expr)) where
  turned : (w t a : ℕ) → w * t * a ≡ t * (w * a)
  turned w t a = grind arith

chosen-scales : (b : Bool) (times x y : ℕ) → x ≡ times * y → (cond b 0 x ≡ times * cond b 0 y) × (cond b x 0 ≡ times * cond b y 0)
chosen-scales true times x y e = (grind arith, e)
chosen-scales false times x y e = (e, grind arith)

last-scales : (f : Features) (last : Option Step) (times : ℕ) (part : Part) → at_last f last (scaled times part) ≡ times * at_last f last part
last-scales f None times part = grind arith
last-scales f (Some last) times part = (chosen-scales part.at_end times _ _ (weighted-scales (at_step f (finish last)) times part)).1

along-measures : (f : Features) (steps : List Step) → IsMeasure (along f steps)
along-measures f steps = record {
  scales = λ times part.
      both times _ _ _ _
      (sum-times times (λ step. at_each f step (scaled times part)) (λ step. at_each f step part) steps (λ step. (chosen-scales part.at_end times _ _ (weighted-scales (at_step f step) times part)).0))
      (last-scales f (last_or None steps) times part);
} where
  both : (t a b c d : ℕ) → a ≡ t * c → b ≡ t * d → a + b ≡ t * (c + d)
  both t a b c d e f = grind arith

end-is : (f : Features) (last : Option Step) (rule : Rule) → end_after f last rule ≡ sum_by (at_last f last) rule.parts
end-is f None rule = sym (sum-none rule.parts)
end-is f (Some last) rule = refl

rule-along : (f : Features) (steps : List Step) (rule : Rule) → sum_by (λ step. value_at f step rule) steps + end_after f (last_or None steps) rule ≡ rule_amount (along f steps) rule
rule-along f steps rule =
    ap (λ (e : ℕ). sum_by (λ step. value_at f step rule) steps + e) (end-is f (last_or None steps) rule)
    ∙ exchanged (at_each f) (at_last f (last_or None steps)) steps rule.parts

map-same : {X : Type 0} (f g : X → ℕ) (xs : List X) → ((x : X) → f x ≡ g x) → map f xs ≡ map g xs
map-same f g [] h = refl
map-same f g (x ∷ xs) h = ap (λ (y : ℕ). y ∷ map f xs) (h x) ∙ ap (λ (ys : List ℕ). g x ∷ ys) (map-same f g xs h)

vector-is : (f : Features) (bound : Bound) (steps : List Step) → trajectory_vector f bound steps ≡ measured (along f steps) bound.book
unfolding trajectory_vector
vector-is f bound steps = map-same (λ rule. sum_by (λ step. value_at f step rule) steps + end_after f (last_or None steps) rule) (rule_amount (along f steps)) bound.book.rules (rule-along f steps)

pub carried : (f : Features) (script : List ℕ) (first last : Bound) (steps : List Step) → IsBook first.book → IsDerivedBy script first.book last.book → CarriesThrough 1 (lines_of script) first.book (trajectory_vector f first steps) (trajectory_vector f last steps)
carried f script first last steps is derived =
    subst (λ (x : List ℕ). CarriesThrough 1 (lines_of script) first.book x (trajectory_vector f last steps)) (sym (vector-is f first steps))
    (subst (λ (y : List ℕ). CarriesThrough 1 (lines_of script) first.book (measured (along f steps) first.book) y) (sym (vector-is f last steps))
    (derives-measured (lines_of script) 1 first.book last.book is derived.derives (along f steps) (along-measures f steps)))

pub kept : (f : Features) (script : List ℕ) (first last : Bound) (steps others : List Step) → IsBook first.book → IsDerivedBy script first.book last.book → KeepsThrough 1 (lines_of script) first.book last.book
    → BeatsIn first.book (trajectory_vector f first steps) (trajectory_vector f first others) → BeatsIn last.book (trajectory_vector f last steps) (trajectory_vector f last others)
kept f script first last steps others is derived keeps beats =
    keeps (trajectory_vector f first steps) (trajectory_vector f first others) (trajectory_vector f last steps) (trajectory_vector f last others)
    (carried f script first last steps is derived) (carried f script first last others is derived) beats

-- ---- a child that a test accepts

module _ (parent child : Book) where
  one-carried : (times : List ℕ → ℕ) → CarriesMeasured parent child times → CarriesTrajectories parent child times
  one-carried times measures f bound child_bound steps e g =
      let Over = Carries (size_of parent) (size_of child) (becomes parent child times) in
      let x = vector-is f bound steps ∙ ap (measured (along f steps)) e in
      let y = vector-is f child_bound steps ∙ ap (measured (along f steps)) g in
      subst (λ (v : List ℕ). Over v (trajectory_vector f child_bound steps)) (sym x)
      (subst (λ (w : List ℕ). Over (measured (along f steps) parent) w) (sym y) (measures (along f steps) (along-measures f steps)))

  pub driven : (kind : Accepted) → CarriesAs parent child kind → CarriesDriven parent child kind
  driven Refinement h = one-carried once h
  driven Aggregation h = λ times sum. one-carried times (h times sum)
  driven Augmentation h = one-carried once h

  one-kept : (times : List ℕ → ℕ) → CarriesTrajectories parent child times → KeepsPreferencesOf parent child times → KeepsTrajectories parent child
  one-kept times carries keeps f bound child_bound steps others e g beats =
      keeps (trajectory_vector f bound steps) (trajectory_vector f bound others) (trajectory_vector f child_bound steps) (trajectory_vector f child_bound others)
      (carries f bound child_bound steps e g) (carries f bound child_bound others e g) beats

  pub driven-kept : (kind : Accepted) → IsStep parent child kind → CarriesAs parent child kind → KeepsAs parent child kind → KeepsTrajectories parent child
  driven-kept Refinement step carries keeps = one-kept once (one-carried once carries) keeps
  driven-kept Aggregation step carries keeps = one-kept step.times (one-carried step.times (carries step.times step.sum)) (keeps step.times step.sum)
  driven-kept Augmentation step carries keeps = one-kept once (one-carried once carries) keeps
