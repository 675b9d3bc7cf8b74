-- What the parts of a bound rule add is the rule's value, and its end value.
use Rattle.std.proofs.Common.{◌≡◌, ℕ, ◌+◌, ◌*◌, ◌<◌, ◌≤◌, arith, Bool, true, false, cond, ℤ, List, [], ◌∷◌, map, length, refl, sym, ap, subst, ◌∙◌}
use Rattle.std.specs.Prelude.{All}
use Rattle.std.specs.List.{sum_by}
use Rattle.std.proofs.lemmas.List.{length-map}
use Rattle.std.proofs.lemmas.List.Elements.{All-head, All-tail, All-map}
use Rattle.std.proofs.lemmas.List.Sums.{sum_by-cons}
use Rattle.expressions.specs.declared.tree.Expr.{Expr}
use Rattle.rule_language.specs.declared.book.Rule.{Rule}
use Rattle.rule_language.specs.declared.limits.TheConstants.{MAX_PARTS, MAX_WEIGHT}
use Rattle.rule_language.specs.declared.part.Part.{Part}
use Rattle.violation_measures.specs.Amounts.{weighted, rule_value, end_value, IsBoundPart}
use Rattle.violation_measures.specs.Binding.{IsBoundRule, IsBoundTo}
use Rattle.violation_measures.specs.Formulas.{formula_value, resolved}
use Rattle.violation_measures.specs.Measured.{measured_at, IsMeasured, used_by}
use Rattle.violation_measures.specs.Resolved.{resolved_part, resolved_rule, resolved_rules, counted, amount, step_amount, end_amount}
use Rattle.violation_measures.specs.Sources.{Features, AreSound, IsKnown, at_step, bounds_of}
use Rattle.violation_measures.specs.Steps.{IsStep, finish}
use Rattle.violation_measures.specs.Vectors.{value_at, end_at, step_vector, end_vector}
use Rattle.violation_measures.specs.declared.bound.Bound.{Bound}
use Rattle.violation_measures.specs.declared.bound.BoundPart.{BoundPart}
use Rattle.violation_measures.specs.declared.bound.BoundRule.{BoundRule}
use Rattle.violation_measures.specs.declared.step.Step.{Step}
use Rattle.violation_measures.specs.declared.used.TheConstants.{MAX_MEASURED}
use Rattle.violation_measures.proofs.Exact.{exact}
use Rattle.violation_measures.proofs.FormulaLaws.{resolved_value}
use Rattle.violation_measures.proofs.MeasuredLaws.{stands, used_known, used_few}
use Rattle.violation_measures.proofs.Within.{within_bounds}

sums_same : {X Y : Type 0} (g : X → Y) (p : Y → ℕ) (q : X → ℕ) (P : X → Type 0) → ((x : X) → P x → p (g x) ≡ q x) → (xs : List X) → All P xs → sum_by p (map g xs) ≡ sum_by q xs
sums_same g p q P same [] all = refl
sums_same g p q P same (x ∷ xs) all =
    sum_by-cons p (g x) (map g xs) ∙ (λ i. same x (All-head P x xs all) i + sums_same g p q P same xs (All-tail P x xs all) i) ∙ sym (sum_by-cons q x xs)

maps_same : {X Y Z : Type 0} (g : X → Y) (p : Y → Z) (q : X → Z) (P : X → Type 0) → ((x : X) → P x → p (g x) ≡ q x) → (xs : List X) → All P xs → map p (map g xs) ≡ map q xs
maps_same g p q P same [] all = refl
maps_same g p q P same (x ∷ xs) all = λ i. same x (All-head P x xs all) i ∷ maps_same g p q P same xs (All-tail P x xs all) i

module _ (f : Features) (sound : AreSound f) (step : Step) (good : IsStep step) (used : List ℕ) (values : List ℤ) (measured : IsMeasured f step used values) where
  -- what a formula over what is measured counts
  counts : Expr → ℕ
  counts e = counted (formula_value (measured_at values) (at_step f step) (resolved f.find used e))

  amount_same : (part : Part) → IsBoundPart f part → part.weight * counts part.expr ≡ weighted (at_step f step) part
  unfolding counts
  amount_same part h =
      let v = at_step f step in
      let e = resolved_value (measured_at values) v f.find used (stands f step used values measured) part.expr ∙ exact v (bounds_of f) (within_bounds f step sound good) part.expr h.well_formed h.keeps in
      ap (λ o. part.weight * counted o) e

  at_steps_same : (others : List ℕ) (part : Part) → IsBoundPart f part → (b : Bool)
      → cond b 0 (part.weight * counted (formula_value (measured_at values) (at_step f step) (resolved f.find (cond b others used) part.expr))) ≡ cond b 0 (weighted (at_step f step) part)
  unfolding counts
  at_steps_same others part h true = refl
  at_steps_same others part h false = amount_same part h

  at_end_same : (others : List ℕ) (part : Part) → IsBoundPart f part → (b : Bool)
      → cond b (part.weight * counted (formula_value (measured_at values) (at_step f step) (resolved f.find (cond b used others) part.expr))) 0 ≡ cond b (weighted (at_step f step) part) 0
  unfolding counts
  at_end_same others part h true = amount_same part h
  at_end_same others part h false = refl

  pub step_amount_same : (others : List ℕ) (rule : Rule) → IsBoundRule f rule → step_amount (measured_at values) (at_step f step) (resolved_rule f.find used others rule).parts ≡ rule_value (at_step f step) rule.parts
  step_amount_same others rule h =
      sums_same (resolved_part f.find used others) (λ part. cond part.at_end 0 (amount (measured_at values) (at_step f step) part)) (λ part. cond part.at_end 0 (weighted (at_step f step) part))
      (IsBoundPart f) (λ part p. at_steps_same others part p part.at_end) rule.parts h.parts

  pub end_amount_same : (others : List ℕ) (rule : Rule) → IsBoundRule f rule → end_amount (measured_at values) (at_step f step) (resolved_rule f.find others used rule).parts ≡ end_value (at_step f step) rule.parts
  end_amount_same others rule h =
      sums_same (resolved_part f.find others used) (λ part. cond part.at_end (amount (measured_at values) (at_step f step) part) 0) (λ part. cond part.at_end (weighted (at_step f step) part) 0)
      (IsBoundPart f) (λ part p. at_end_same others part p part.at_end) rule.parts h.parts

-- ---- of a book that is bound

at_steps_are : (f : Features) (bound : Bound) → IsBoundTo f bound → bound.at_steps ≡ used_by f.find false bound.book.rules
at_steps_are f bound h = ap (λ (b : Bound). b.at_steps) h.resolved

at_end_are : (f : Features) (bound : Bound) → IsBoundTo f bound → bound.at_end ≡ used_by f.find true bound.book.rules
at_end_are f bound h = ap (λ (b : Bound). b.at_end) h.resolved

rules_are : (f : Features) (bound : Bound) → IsBoundTo f bound → bound.rules ≡ resolved_rules f.find bound.at_steps bound.at_end bound.book.rules
rules_are f bound h = ap (λ (b : Bound). b.rules) h.resolved ∙ (λ i. resolved_rules f.find (sym (at_steps_are f bound h) i) (sym (at_end_are f bound h) i) bound.book.rules)

-- what is so of the numbers of features that are measured
pub record AreMeasurable (f : Features) (used : List ℕ) : Type 0 where
  pub known : All (IsKnown f) used
  pub few : length used ≤ MAX_MEASURED

measurable : (f : Features) (at_end : Bool) (rules : List Rule) → AreMeasurable f (used_by f.find at_end rules)
measurable f at_end rules = record { known = used_known f at_end rules; few = used_few f at_end rules }

pub steps_measurable : (f : Features) (bound : Bound) → IsBoundTo f bound → AreMeasurable f bound.at_steps
steps_measurable f bound h = subst (λ (used : List ℕ). AreMeasurable f used) (sym (at_steps_are f bound h)) (measurable f false bound.book.rules)

pub end_measurable : (f : Features) (bound : Bound) → IsBoundTo f bound → AreMeasurable f bound.at_end
end_measurable f bound h = subst (λ (used : List ℕ). AreMeasurable f used) (sym (at_end_are f bound h)) (measurable f true bound.book.rules)

pub as_many : (f : Features) (bound : Bound) → IsBoundTo f bound → length bound.rules ≡ length bound.book.rules
as_many f bound h = ap length (rules_are f bound h) ∙ length-map bound.book.rules (resolved_rule f.find bound.at_steps bound.at_end)

-- a place among the rules is one in a vector, and past the rules one past it
pub within_vector : (f : Features) (bound : Bound) (rules : List BoundRule) (vector : List ℕ) (i : ℕ) → IsBoundTo f bound → rules ≡ bound.rules → length vector ≡ length bound.book.rules → i < length rules → i < length vector
within_vector f bound rules vector i h same long within = omega (arith, within, ap (length {A = BoundRule}) same, as_many f bound h, long)

pub past_vector : (f : Features) (bound : Bound) (rules : List BoundRule) (vector : List ℕ) (i : ℕ) → IsBoundTo f bound → rules ≡ bound.rules → length vector ≡ length bound.book.rules → length rules ≤ i → length vector ≤ i
past_vector f bound rules vector i h same long past = omega (arith, past, ap (length {A = BoundRule}) same, as_many f bound h, long)

-- what is so of each bound rule
pub record IsFew (rule : BoundRule) : Type 0 where
  pub few : length rule.parts ≤ MAX_PARTS
  pub weights : All (λ (part : BoundPart). part.weight ≤ MAX_WEIGHT) rule.parts

pub each_few : (f : Features) (bound : Bound) → IsBoundTo f bound → All IsFew bound.rules
each_few f bound h =
    subst (λ (rules : List BoundRule). All IsFew rules) (sym (rules_are f bound h))
    (All-map IsFew (resolved_rule f.find bound.at_steps bound.at_end) bound.book.rules (λ i rule within.
    let r = h.rules i rule within in
    record {
      few = subst (λ (n : ℕ). n ≤ MAX_PARTS) (sym (length-map _ (resolved_part f.find bound.at_steps bound.at_end))) r.few;
      weights = All-map (λ (part : BoundPart). part.weight ≤ MAX_WEIGHT) (resolved_part f.find bound.at_steps bound.at_end) _ (λ j part here. (r.parts j part here).weight);
    }))

pub step_vector_is : (f : Features) (bound : Bound) (step : Step) (values : List ℤ) → AreSound f → IsBoundTo f bound → IsStep step → IsMeasured f step bound.at_steps values
    → map (λ (rule : BoundRule). step_amount (measured_at values) (at_step f step) rule.parts) bound.rules ≡ step_vector f bound step
unfolding step_vector
step_vector_is f bound step values sound h good measured =
    ap (λ (rules : List BoundRule). map (λ (rule : BoundRule). step_amount (measured_at values) (at_step f step) rule.parts) rules) (rules_are f bound h)
    ∙ maps_same (resolved_rule f.find bound.at_steps bound.at_end) (λ (rule : BoundRule). step_amount (measured_at values) (at_step f step) rule.parts) (value_at f step) (IsBoundRule f)
    (step_amount_same f sound step good bound.at_steps values measured bound.at_end) bound.book.rules h.rules

pub end_vector_is : (f : Features) (bound : Bound) (step : Step) (values : List ℤ) → AreSound f → IsBoundTo f bound → IsStep (finish step) → IsMeasured f (finish step) bound.at_end values
    → map (λ (rule : BoundRule). end_amount (measured_at values) (at_step f (finish step)) rule.parts) bound.rules ≡ end_vector f bound step
unfolding end_vector
end_vector_is f bound step values sound h good measured =
    ap (λ (rules : List BoundRule). map (λ (rule : BoundRule). end_amount (measured_at values) (at_step f (finish step)) rule.parts) rules) (rules_are f bound h)
    ∙ maps_same (resolved_rule f.find bound.at_steps bound.at_end) (λ (rule : BoundRule). end_amount (measured_at values) (at_step f (finish step)) rule.parts) (end_at f step) (IsBoundRule f)
    (end_amount_same f sound (finish step) good bound.at_end values measured bound.at_steps) bound.book.rules h.rules
