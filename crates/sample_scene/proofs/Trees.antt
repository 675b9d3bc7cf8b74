-- What folds make of the two kinds of expression in the sample book: a feature, and `max(a, b - feature)` for constants a and b.
use Rattle.std.proofs.Common.{◌≡◌, ℕ, Bool, List, sym, ap, ◌∙◌}
use Rattle.std.specs.Prelude.{ℤ, ◌&&◌, Option}
use Rattle.scenario_model.specs.declared.problem.Span.{Span}
use Rattle.expressions.specs.declared.tree.Argument.{Argument}
use Rattle.expressions.specs.declared.tree.Expr.{Expr}
use Rattle.expressions.specs.declared.tree.Expr.TheVariants as e
use Rattle.expressions.specs.declared.tree.Expr.TheOpen.{Expr-F}
use Rattle.expressions.specs.declared.tree.Expr.TheFolds.{fold-Expr, fold-roll-Expr, para-roll-Expr}
use Rattle.violation_measures.specs.Intervals.{Bounds, from_to, interval_step, keeps, keeps_step, all_keep}

pub at_constant : (A : Type 0) (step : Expr-F A → A) (n : ℤ) → fold-Expr A step (e.Const n) ≡ step (Expr-F.Const n)
at_constant A step n = ap (fold-Expr A step) (sym (e.rolls-Const n)) ∙ fold-roll-Expr A step (Expr-F.Const n)

pub at_feature : (A : Type 0) (step : Expr-F A → A) (name : List ℕ) (about : Option Argument) → fold-Expr A step (e.Feature name about) ≡ step (Expr-F.Feature name about)
at_feature A step name about = ap (fold-Expr A step) (sym (e.rolls-Feature name about)) ∙ fold-roll-Expr A step (Expr-F.Feature name about)

at_difference : (A : Type 0) (step : Expr-F A → A) (a b : Expr) → fold-Expr A step (e.Sub a b) ≡ step (Expr-F.Sub (fold-Expr A step a) (fold-Expr A step b))
at_difference A step a b = ap (fold-Expr A step) (sym (e.rolls-Sub a b)) ∙ fold-roll-Expr A step (Expr-F.Sub a b)

at_greater : (A : Type 0) (step : Expr-F A → A) (a b : Expr) → fold-Expr A step (e.Max a b) ≡ step (Expr-F.Max (fold-Expr A step a) (fold-Expr A step b))
at_greater A step a b = ap (fold-Expr A step) (sym (e.rolls-Max a b)) ∙ fold-roll-Expr A step (Expr-F.Max a b)

-- `b - feature`
abbrev pub rest : ℤ → List ℕ → Option Argument → Expr
rest b name about = e.Sub (e.Const b) (e.Feature name about)

-- `max(a, b - feature)`
abbrev pub excess : ℤ → ℤ → List ℕ → Option Argument → Expr
excess a b name about = e.Max (e.Const a) (rest b name about)

pub at_rest : (A : Type 0) (step : Expr-F A → A) (b : ℤ) (name : List ℕ) (about : Option Argument) → fold-Expr A step (rest b name about) ≡ step (Expr-F.Sub (step (Expr-F.Const b)) (step (Expr-F.Feature name about)))
at_rest A step b name about = at_difference A step (e.Const b) (e.Feature name about) ∙ (λ i. step (Expr-F.Sub (at_constant A step b i) (at_feature A step name about i)))

pub at_excess : (A : Type 0) (step : Expr-F A → A) (a b : ℤ) (name : List ℕ) (about : Option Argument) → fold-Expr A step (excess a b name about) ≡ step (Expr-F.Max (step (Expr-F.Const a)) (step (Expr-F.Sub (step (Expr-F.Const b)) (step (Expr-F.Feature name about)))))
at_excess A step a b name about = at_greater A step (e.Const a) (rest b name about) ∙ (λ i. step (Expr-F.Max (at_constant A step a i) (at_rest A step b name about i)))

-- ---- which intervals keep

keeps_at_constant : (bounds : Bounds) (n : ℤ) → all_keep bounds (e.Const n) ≡ keeps_step bounds (Expr-F.Const n)
keeps_at_constant bounds n = ap (all_keep bounds) (sym (e.rolls-Const n)) ∙ para-roll-Expr Bool (keeps_step bounds) (Expr-F.Const n)

pub keeps_at_feature : (bounds : Bounds) (name : List ℕ) (about : Option Argument) → all_keep bounds (e.Feature name about) ≡ keeps_step bounds (Expr-F.Feature name about)
keeps_at_feature bounds name about = ap (all_keep bounds) (sym (e.rolls-Feature name about)) ∙ para-roll-Expr Bool (keeps_step bounds) (Expr-F.Feature name about)

abbrev rest_interval : Bounds → ℤ → List ℕ → Option Argument → Span
rest_interval bounds b name about = interval_step bounds (Expr-F.Sub (from_to b b) (bounds name about))

abbrev pub rest_keeps : Bounds → ℤ → List ℕ → Option Argument → Bool
rest_keeps bounds b name about = keeps (rest_interval bounds b name about) && (keeps_step bounds (Expr-F.Const b) && keeps_step bounds (Expr-F.Feature name about))

keeps_at_rest : (bounds : Bounds) (b : ℤ) (name : List ℕ) (about : Option Argument) → all_keep bounds (rest b name about) ≡ rest_keeps bounds b name about
keeps_at_rest bounds b name about =
    ap (all_keep bounds) (sym (e.rolls-Sub (e.Const b) (e.Feature name about))) ∙ (para-roll-Expr Bool (keeps_step bounds) (Expr-F.Sub (e.Const b) (e.Feature name about))
    ∙ (λ i. keeps (interval_step bounds (Expr-F.Sub (at_constant Span (interval_step bounds) b i) (at_feature Span (interval_step bounds) name about i))) && (keeps_at_constant bounds b i && keeps_at_feature bounds name about i)))

abbrev pub excess_keeps : Bounds → ℤ → ℤ → List ℕ → Option Argument → Bool
excess_keeps bounds a b name about = keeps (interval_step bounds (Expr-F.Max (from_to a a) (rest_interval bounds b name about))) && (keeps_step bounds (Expr-F.Const a) && rest_keeps bounds b name about)

pub keeps_at_excess : (bounds : Bounds) (a b : ℤ) (name : List ℕ) (about : Option Argument) → all_keep bounds (excess a b name about) ≡ excess_keeps bounds a b name about
keeps_at_excess bounds a b name about =
    ap (all_keep bounds) (sym (e.rolls-Max (e.Const a) (rest b name about))) ∙ (para-roll-Expr Bool (keeps_step bounds) (Expr-F.Max (e.Const a) (rest b name about))
    ∙ (λ i. keeps (interval_step bounds (Expr-F.Max (at_constant Span (interval_step bounds) a i) (at_rest Span (interval_step bounds) b name about i))) && (keeps_at_constant bounds a i && keeps_at_rest bounds b name about i)))
