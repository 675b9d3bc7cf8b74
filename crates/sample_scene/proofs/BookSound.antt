-- The sample book is well formed. What is asked of each part is put as a test, which is worked out.
use Rattle.std.proofs.Common.{◌≡◌, ℕ, ◌+◌, ◌/◌, ◌%◌, ◌^◌, ◌<◌, ◌≤◌, Bool, true, false, List, [], ◌∷◌, ◌++◌, length, map, refl, ap, ◌∙◌, arith}
use Rattle.std.specs.Prelude.{pos, All, ◌&&◌, nat_le, nat_lt, Option, Some, None, codes}
use Rattle.std.specs.Fmt.{decimal}
use Rattle.std.specs.List.{list_all}
use Rattle.std.proofs.lemmas.Bool.{and_parts, ltb-true}
use Rattle.std.proofs.lemmas.Fmt.{decimal_digit, decimal_step}
use Rattle.std.proofs.lemmas.List.Elements.{All-nil, All-cons, All-map}
use Rattle.preorder.specs.Name.{is_name}
use Rattle.preorder.specs.Statements.{InRange}
use Rattle.reading.specs.Bytes.{space, minus_sign}
use Rattle.expressions.specs.Written.{call, listed, signed, written, written_step, nesting, nesting_step, is_well_formed, well_formed_step}
use Rattle.expressions.specs.declared.limits.TheConstants.{MAX_BRACKETS, MAX_LINE}
use Rattle.expressions.specs.declared.tree.Argument.{Argument}
use Rattle.expressions.specs.declared.tree.Argument.TheVariants.{Named}
use Rattle.expressions.specs.declared.tree.Expr.{Expr}
use Rattle.expressions.specs.declared.tree.Expr.TheVariants as e
use Rattle.expressions.specs.declared.tree.Expr.TheOpen.{Expr-F}
use Rattle.rule_language.specs.Books.{IsRule, IsBook}
use Rattle.rule_language.specs.Parts.{kind_of, part_fits, IsPart}
use Rattle.rule_language.specs.declared.book.Rule.{Rule}
use Rattle.rule_language.specs.declared.part.Part.{Part}
use Rattle.sample_scene.specs.Rules.{part, feature, driven, near, changing_names, turning_names, rule, rules, book}
use Rattle.sample_scene.proofs.Made.{each_passes}
use Rattle.sample_scene.proofs.Apart.{different_by_test}
use Rattle.sample_scene.proofs.Trees.{at_feature, at_excess}

-- the line of a part fits, by its weight in decimal, by the text of its expression and how deep its brackets stand
abbrev line_fits : List ℕ → List ℕ → List ℕ → ℕ → Bool
line_fits name weight text deep = nat_le (length (kind_of false ++ (space ∷ name ++ (space ∷ weight ++ (space ∷ text))))) MAX_LINE && nat_le deep MAX_BRACKETS

abbrev is_part : List ℕ → Bool → List ℕ → ℕ → Bool
is_part name good text deep = good && line_fits name (codes "1") text deep

part_by_test : (name : List ℕ) (expr : Expr) (good : Bool) (text : List ℕ) (deep : ℕ) → is_well_formed expr ≡ good → written expr ≡ text → nesting expr ≡ deep → is_part name good text deep ≡ true → IsPart name (part expr)
unfolding part_fits
part_by_test name expr good text deep g t d h =
    let one : decimal 1 ≡ codes "1" = decimal_digit 1 (omega arith) in
    let both = and_parts good (line_fits name (codes "1") text deep) h in
    record { weighs = omega arith; weight = omega arith; well_formed = g ∙ both.0; fits = (λ i. line_fits name (one i) (t i) (d i)) ∙ both.1 }

abbrev feature_is_part : List ℕ → List ℕ → Option Argument → Bool
feature_is_part rule name about = is_part rule (well_formed_step (Expr-F.Feature name about)) (written_step (Expr-F.Feature name about)) (nesting_step (Expr-F.Feature name about))

feature_part : (rule name : List ℕ) (about : Option Argument) → feature_is_part rule name about ≡ true → IsPart rule (part (e.Feature name about))
feature_part rule name about =
    part_by_test rule (e.Feature name about) (well_formed_step (Expr-F.Feature name about)) (written_step (Expr-F.Feature name about)) (nesting_step (Expr-F.Feature name about))
    (at_feature Bool well_formed_step name about) (at_feature (List ℕ) written_step name about) (at_feature ℕ nesting_step name about)

abbrev near_step : {A : Type 0} → (Expr-F A → A) → A
near_step step = step (Expr-F.Max (step (Expr-F.Const (pos 0))) (step (Expr-F.Sub (step (Expr-F.Const (pos 20000))) (step (Expr-F.Feature (codes "gap") None)))))

ten_times : (n m : ℕ) (text : List ℕ) → 10 ≤ n → n < 2 ^ 64 → n / 10 ≡ m → decimal m ≡ text → decimal n ≡ text ++ (48 + n % 10) ∷ []
ten_times n m text low high tenth e = decimal_step n low high ∙ ap (λ ds. ds ++ (48 + n % 10) ∷ []) (ap decimal tenth ∙ e)

twenty_thousand : decimal 20000 ≡ codes "20000"
twenty_thousand =
    ten_times 20000 2000 (codes "2000") (omega arith) (omega arith) refl
    (ten_times 2000 200 (codes "200") (omega arith) (omega arith) refl
    (ten_times 200 20 (codes "20") (omega arith) (omega arith) refl
    (ten_times 20 2 (codes "2") (omega arith) (omega arith) refl (decimal_digit 2 (omega arith)))))

abbrev near_text : List ℕ → List ℕ → List ℕ
near_text none least = call (codes "max") (listed none (call [] (signed minus_sign least (codes "gap"))))

near_written : written near ≡ near_text (codes "0") (codes "20000")
near_written =
    let none : decimal 0 ≡ codes "0" = decimal_digit 0 (omega arith) in
    at_excess (List ℕ) written_step (pos 0) (pos 20000) (codes "gap") None ∙ (λ i. near_text (none i) (twenty_thousand i))

near_part : IsPart (codes "gap") (part near)
unfolding is_name
near_part =
    part_by_test (codes "gap") near (near_step well_formed_step) (near_text (codes "0") (codes "20000")) (near_step nesting_step)
    (at_excess Bool well_formed_step (pos 0) (pos 20000) (codes "gap") None) near_written (at_excess ℕ nesting_step (pos 0) (pos 20000) (codes "gap") None)
    refl

one_part : (name : List ℕ) (p : Part) → is_name name ≡ true → IsPart name p → IsRule (rule name (p ∷ []))
one_part name p named sound = record { name = named; few = omega arith; parts = All-cons (IsPart name) p [] sound (All-nil (IsPart name)) }

abbrev driven_is_part : List ℕ → List ℕ → Bool
driven_is_part rule name = feature_is_part rule (codes "maneuver") (Some (Named name))

driven_parts : (rule : List ℕ) (names : List (List ℕ)) → list_all (driven_is_part rule) names ≡ true → All (IsPart rule) (map driven names)
driven_parts rule names h =
    All-map (IsPart rule) driven names (each_passes (driven_is_part rule) (λ name. IsPart rule (driven name)) (λ name. feature_part rule (codes "maneuver") (Some (Named name))) names h)

smooth_is_sound : IsRule (rule (codes "smooth") (map driven changing_names))
unfolding is_name
smooth_is_sound = record { name = refl; few = omega arith; parts = driven_parts (codes "smooth") changing_names refl }

lane_is_sound : IsRule (rule (codes "lane") (map driven turning_names))
unfolding is_name
lane_is_sound = record { name = refl; few = omega arith; parts = driven_parts (codes "lane") turning_names refl }

rules_are_sound : All IsRule rules
unfolding is_name
rules_are_sound =
    let collision = rule (codes "collision") (part (feature (codes "overlaps")) ∷ []) in
    let road = rule (codes "road") (part (feature (codes "off_road")) ∷ []) in
    let gap = rule (codes "gap") (part near ∷ []) in
    let smooth = rule (codes "smooth") (map driven changing_names) in
    let lane = rule (codes "lane") (map driven turning_names) in
    All-cons IsRule collision (road ∷ gap ∷ smooth ∷ lane ∷ []) (one_part (codes "collision") (part (feature (codes "overlaps"))) refl (feature_part (codes "collision") (codes "overlaps") None refl))
    (All-cons IsRule road (gap ∷ smooth ∷ lane ∷ []) (one_part (codes "road") (part (feature (codes "off_road"))) refl (feature_part (codes "road") (codes "off_road") None refl))
    (All-cons IsRule gap (smooth ∷ lane ∷ []) (one_part (codes "gap") (part near) refl near_part)
    (All-cons IsRule smooth (lane ∷ []) smooth_is_sound
    (All-cons IsRule lane [] lane_is_sound (All-nil IsRule)))))

abbrev is_in_range : ℕ → ℕ × ℕ → Bool
is_in_range size pair = nat_lt pair.0 size && nat_lt pair.1 size

in_range_by_test : (size : ℕ) (pair : ℕ × ℕ) → is_in_range size pair ≡ true → InRange size pair
in_range_by_test size pair h =
    let a = and_parts (nat_lt pair.0 size) (nat_lt pair.1 size) h in
    (ltb-true _ _ a.0, ltb-true _ _ a.1)

pub book_is_sound : IsBook book
unfolding book
book_is_sound = record {
  some = omega arith;
  few = omega arith;
  rules = rules_are_sound;
  different = different_by_test (λ (r : Rule). r.name) rules refl;
  statements = each_passes (is_in_range 5) (InRange 5) (in_range_by_test 5) book.statements refl;
}
