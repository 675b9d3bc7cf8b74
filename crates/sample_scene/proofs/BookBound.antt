-- The sample book may be bound to any scene with the lattice's maneuvers. What is asked of each part is put as a test, which is worked out.
use Rattle.std.proofs.Common.{◌≡◌, ℕ, ◌≤◌, Bool, true, List, [], ◌∷◌, length, map, refl, ◌∙◌, arith}
use Rattle.std.specs.Prelude.{ℤ, pos, All, ◌&&◌, Option, Some, None, codes}
use Rattle.std.specs.List.{list_all}
use Rattle.std.proofs.lemmas.Bool.{and_parts}
use Rattle.std.proofs.lemmas.List.Elements.{All-nil, All-cons, All-map}
use Rattle.expressions.specs.declared.tree.Argument.{Argument}
use Rattle.expressions.specs.declared.tree.Argument.TheVariants.{Named}
use Rattle.expressions.specs.declared.tree.Expr.TheVariants as e
use Rattle.expressions.specs.declared.tree.Expr.TheOpen.{Expr-F}
use Rattle.lanelet_network.specs.Lanes.{Lane}
use Rattle.scenario_model.specs.declared.obstacle.Obstacle.{Obstacle}
use Rattle.rule_language.specs.declared.part.Part.{Part}
use Rattle.violation_measures.specs.Binding.{MayBind, RuleMayBind}
use Rattle.violation_measures.specs.Intervals.{all_known_step, keeps_step}
use Rattle.violation_measures.specs.Scenes.{scene_among, features_of, plain, maneuver, numbered}
use Rattle.violation_measures.specs.Sources.{Features, bounds_of}
use Rattle.maneuver_lattice.specs.declared.lattice.Maneuver.{Maneuver}
use Rattle.sample_scene.specs.Maneuvers.{maneuvers, lattice}
use Rattle.sample_scene.specs.Rules.{part, feature, driven, near, changing_names, turning_names, rule, rules, book}
use Rattle.sample_scene.proofs.Made.{each_passes}
use Rattle.sample_scene.proofs.Trees.{at_feature, at_excess, keeps_at_feature, excess_keeps, keeps_at_excess}

abbrev feature_may_bind : Features → List ℕ → Option Argument → Bool
feature_may_bind f name about = all_known_step f.find (Expr-F.Feature name about) && keeps_step (bounds_of f) (Expr-F.Feature name about)

feature_bound : (f : Features) (name : List ℕ) (about : Option Argument) → feature_may_bind f name about ≡ true → MayBind f (part (e.Feature name about))
feature_bound f name about h =
    let both = and_parts (all_known_step f.find (Expr-F.Feature name about)) (keeps_step (bounds_of f) (Expr-F.Feature name about)) h in
    record { known = at_feature Bool (all_known_step f.find) name about ∙ both.0; keeps = keeps_at_feature (bounds_of f) name about ∙ both.1 }

abbrev near_known : Features → Bool
near_known f =
    let step = all_known_step f.find in
    step (Expr-F.Max (step (Expr-F.Const (pos 0))) (step (Expr-F.Sub (step (Expr-F.Const (pos 20000))) (step (Expr-F.Feature (codes "gap") None)))))

near_bound : (f : Features) → near_known f ≡ true → excess_keeps (bounds_of f) (pos 0) (pos 20000) (codes "gap") None ≡ true → MayBind f (part near)
near_bound f g h = record {
  known = at_excess Bool (all_known_step f.find) (pos 0) (pos 20000) (codes "gap") None ∙ g;
  keeps = keeps_at_excess (bounds_of f) (pos 0) (pos 20000) (codes "gap") None ∙ h;
}

one_bound : (f : Features) (name : List ℕ) (p : Part) → MayBind f p → RuleMayBind f (rule name (p ∷ []))
one_bound f name p h = record { some = omega arith; parts = All-cons (MayBind f) p [] h (All-nil (MayBind f)) }

abbrev driven_may_bind : Features → List ℕ → Bool
driven_may_bind f name = feature_may_bind f (codes "maneuver") (Some (Named name))

driven_bound : (f : Features) (rule_name : List ℕ) (names : List (List ℕ)) → 1 ≤ length (map driven names) → list_all (driven_may_bind f) names ≡ true → RuleMayBind f (rule rule_name (map driven names))
driven_bound f rule_name names some h = record {
  some = some;
  parts = All-map (MayBind f) driven names (each_passes (driven_may_bind f) (λ name. MayBind f (driven name)) (λ name. feature_bound f (codes "maneuver") (Some (Named name))) names h);
}

-- what is asked of the features of a scene
abbrev plain_may_bind : Features → Bool
plain_may_bind f = feature_may_bind f (codes "overlaps") None && (feature_may_bind f (codes "off_road") None && (near_known f && excess_keeps (bounds_of f) (pos 0) (pos 20000) (codes "gap") None))

abbrev all_may_bind : Features → Bool
all_may_bind f = plain_may_bind f && (list_all (driven_may_bind f) changing_names && list_all (driven_may_bind f) turning_names)

rules_bound : (f : Features) → all_may_bind f ≡ true → All (RuleMayBind f) rules
rules_bound f h =
    let a = and_parts (plain_may_bind f) (list_all (driven_may_bind f) changing_names && list_all (driven_may_bind f) turning_names) h in
    let b = and_parts (list_all (driven_may_bind f) changing_names) (list_all (driven_may_bind f) turning_names) a.1 in
    let c = and_parts (feature_may_bind f (codes "overlaps") None) (feature_may_bind f (codes "off_road") None && (near_known f && excess_keeps (bounds_of f) (pos 0) (pos 20000) (codes "gap") None)) a.0 in
    let d = and_parts (feature_may_bind f (codes "off_road") None) (near_known f && excess_keeps (bounds_of f) (pos 0) (pos 20000) (codes "gap") None) c.1 in
    let g = and_parts (near_known f) (excess_keeps (bounds_of f) (pos 0) (pos 20000) (codes "gap") None) d.1 in
    let collision = rule (codes "collision") (part (feature (codes "overlaps")) ∷ []) in
    let road = rule (codes "road") (part (feature (codes "off_road")) ∷ []) in
    let gap = rule (codes "gap") (part near ∷ []) in
    let smooth = rule (codes "smooth") (map driven changing_names) in
    let lane = rule (codes "lane") (map driven turning_names) in
    All-cons (RuleMayBind f) collision (road ∷ gap ∷ smooth ∷ lane ∷ []) (one_bound f (codes "collision") (part (feature (codes "overlaps"))) (feature_bound f (codes "overlaps") None c.0))
    (All-cons (RuleMayBind f) road (gap ∷ smooth ∷ lane ∷ []) (one_bound f (codes "road") (part (feature (codes "off_road"))) (feature_bound f (codes "off_road") None d.0))
    (All-cons (RuleMayBind f) gap (smooth ∷ lane ∷ []) (one_bound f (codes "gap") (part near) (near_bound f g.0 g.1))
    (All-cons (RuleMayBind f) smooth (lane ∷ []) (driven_bound f (codes "smooth") changing_names (omega arith) b.0)
    (All-cons (RuleMayBind f) lane [] (driven_bound f (codes "lane") turning_names (omega arith) b.1) (All-nil (RuleMayBind f))))))

pub book_may_be_bound : (lanes : List Lane) (obstacles : List Obstacle) (long wide : ℤ) → All (RuleMayBind (features_of (scene_among lanes obstacles long wide (map (λ (m : Maneuver). m.name) lattice.maneuvers)))) book.rules
unfolding book lattice maneuvers plain maneuver numbered
book_may_be_bound lanes obstacles long wide = rules_bound (features_of (scene_among lanes obstacles long wide (map (λ (m : Maneuver). m.name) maneuvers))) refl
