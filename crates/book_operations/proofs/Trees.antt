-- Two trees are the same by the test where they are equal.
use Rattle.std.specs.Prelude.{◌≡◌, ◌↔◌, Bool, ◌&&◌, Option, Some, None, IsTrue}
use Rattle.std.specs.Ordering.{int_eq}
use Rattle.std.specs.Str.{bytes_eq}
use Rattle.std.proofs.Common.{◌∙◌, refl, sym, ap, subst}
use Rattle.std.proofs.lemmas.Bool.{and_parts, and_from, false≢true, eqb-true, eq-eqb}
use Rattle.std.proofs.lemmas.Bool.Decides.{Decides-int_eq}
use Rattle.std.proofs.lemmas.Slice.Eq.{bytes_eq-Decides}
use Rattle.expressions.specs.declared.tree.Argument.{Argument}
use Rattle.expressions.specs.declared.tree.Argument.TheVariants.{Named, Number}
use Rattle.expressions.specs.declared.tree.Expr.{Expr}
use Rattle.expressions.specs.declared.tree.Expr.TheViews.{roll-Expr, out-Expr, out-roll-Expr, roll-out-Expr}
use Rattle.expressions.specs.declared.tree.Expr.TheOpen.{Expr-F}
use Rattle.expressions.specs.declared.tree.Expr.TheFolds.{fold-roll-Expr, ind-Expr, map-Expr}
use Rattle.book_operations.specs.Same.{same_argument, same_arguments, same_layer, same_step, same_tree}

argument-from : (a b : Argument) → IsTrue (same_argument a b) → a ≡ b
argument-from (Named a) (Named b) h = ap Named ((bytes_eq-Decides a b).0 h)
argument-from (Number a) (Number b) h = ap Number (eqb-true a b h)
argument-from (Named a) (Number b) h = absurd (false≢true h)
argument-from (Number a) (Named b) h = absurd (false≢true h)

argument-to : (a : Argument) → IsTrue (same_argument a a)
argument-to (Named a) = (bytes_eq-Decides a a).1 refl
argument-to (Number a) = eq-eqb a a refl

arguments-from : (a b : Option Argument) → IsTrue (same_arguments a b) → a ≡ b
arguments-from None None h = refl
arguments-from (Some a) (Some b) h = ap Some (argument-from a b h)
arguments-from None (Some b) h = absurd (false≢true h)
arguments-from (Some a) None h = absurd (false≢true h)

arguments-to : (a : Option Argument) → IsTrue (same_arguments a a)
arguments-to None = refl
arguments-to (Some a) = argument-to a

Holds : Expr → Type 0
Holds a = (b : Expr) → IsTrue (same_tree a b) ↔ (a ≡ b)

abbrev Child : Type 0
Child = (a : Expr) × Holds a

abbrev trees : Expr-F Child → Expr-F Expr
trees = map-Expr Child Expr (λ p. p.0)

abbrev tests : Expr-F Expr → Expr-F (Expr → Bool)
tests = map-Expr Expr (Expr → Bool) same_tree

layer-from : (x : Expr-F Child) (w : Expr-F Expr) → IsTrue (same_layer (tests (trees x)) w) → trees x ≡ w
unfolding Holds
layer-from (Expr-F.Const a) (Expr-F.Const b) h = ap Expr-F.Const ((Decides-int_eq a b).0 h)
layer-from (Expr-F.Feature a c) (Expr-F.Feature b d) h = let g = and_parts (bytes_eq a b) (same_arguments c d) h in ap (λ z. Expr-F.Feature z c) ((bytes_eq-Decides a b).0 g.0) ∙ ap (λ z. Expr-F.Feature b z) (arguments-from c d g.1)
layer-from (Expr-F.Neg a) (Expr-F.Neg b) h = ap (λ z. Expr-F.Neg z) ((a.1 b).0 h)
layer-from (Expr-F.Abs a) (Expr-F.Abs b) h = ap (λ z. Expr-F.Abs z) ((a.1 b).0 h)
layer-from (Expr-F.Add a c) (Expr-F.Add b d) h = let g = and_parts (same_tree a.0 b) (same_tree c.0 d) h in ap (λ z. Expr-F.Add z c.0) ((a.1 b).0 g.0) ∙ ap (λ z. Expr-F.Add b z) ((c.1 d).0 g.1)
layer-from (Expr-F.Sub a c) (Expr-F.Sub b d) h = let g = and_parts (same_tree a.0 b) (same_tree c.0 d) h in ap (λ z. Expr-F.Sub z c.0) ((a.1 b).0 g.0) ∙ ap (λ z. Expr-F.Sub b z) ((c.1 d).0 g.1)
layer-from (Expr-F.Mul a c) (Expr-F.Mul b d) h = let g = and_parts (same_tree a.0 b) (same_tree c.0 d) h in ap (λ z. Expr-F.Mul z c.0) ((a.1 b).0 g.0) ∙ ap (λ z. Expr-F.Mul b z) ((c.1 d).0 g.1)
layer-from (Expr-F.Min a c) (Expr-F.Min b d) h = let g = and_parts (same_tree a.0 b) (same_tree c.0 d) h in ap (λ z. Expr-F.Min z c.0) ((a.1 b).0 g.0) ∙ ap (λ z. Expr-F.Min b z) ((c.1 d).0 g.1)
layer-from (Expr-F.Max a c) (Expr-F.Max b d) h = let g = and_parts (same_tree a.0 b) (same_tree c.0 d) h in ap (λ z. Expr-F.Max z c.0) ((a.1 b).0 g.0) ∙ ap (λ z. Expr-F.Max b z) ((c.1 d).0 g.1)
layer-from (Expr-F.If a c e) (Expr-F.If b d f) h =
    let g = and_parts (same_tree a.0 b && same_tree c.0 d) (same_tree e.0 f) h in
    let k = and_parts (same_tree a.0 b) (same_tree c.0 d) g.0 in
    ap (λ z. Expr-F.If z c.0 e.0) ((a.1 b).0 k.0) ∙ ap (λ z. Expr-F.If b z e.0) ((c.1 d).0 k.1) ∙ ap (λ z. Expr-F.If b d z) ((e.1 f).0 g.1)
layer-from (Expr-F.Div a c) (Expr-F.Div b d) h = let g = and_parts (same_tree a.0 b) (int_eq c d) h in ap (λ z. Expr-F.Div z c) ((a.1 b).0 g.0) ∙ ap (λ z. Expr-F.Div b z) ((Decides-int_eq c d).0 g.1)
layer-from _ _ h = absurd (false≢true h)

layer-to : (x : Expr-F Child) → IsTrue (same_layer (tests (trees x)) (trees x))
unfolding Holds
layer-to (Expr-F.Const a) = (Decides-int_eq a a).1 refl
layer-to (Expr-F.Feature a c) = and_from _ _ ((bytes_eq-Decides a a).1 refl) (arguments-to c)
layer-to (Expr-F.Neg a) = (a.1 a.0).1 refl
layer-to (Expr-F.Abs a) = (a.1 a.0).1 refl
layer-to (Expr-F.Add a c) = and_from _ _ ((a.1 a.0).1 refl) ((c.1 c.0).1 refl)
layer-to (Expr-F.Sub a c) = and_from _ _ ((a.1 a.0).1 refl) ((c.1 c.0).1 refl)
layer-to (Expr-F.Mul a c) = and_from _ _ ((a.1 a.0).1 refl) ((c.1 c.0).1 refl)
layer-to (Expr-F.Min a c) = and_from _ _ ((a.1 a.0).1 refl) ((c.1 c.0).1 refl)
layer-to (Expr-F.Max a c) = and_from _ _ ((a.1 a.0).1 refl) ((c.1 c.0).1 refl)
layer-to (Expr-F.If a c e) = and_from (same_tree a.0 a.0 && same_tree c.0 c.0) (same_tree e.0 e.0) (and_from (same_tree a.0 a.0) (same_tree c.0 c.0) ((a.1 a.0).1 refl) ((c.1 c.0).1 refl)) ((e.1 e.0).1 refl)
layer-to (Expr-F.Div a c) = and_from _ _ ((a.1 a.0).1 refl) ((Decides-int_eq c c).1 refl)

settled : (z : Expr-F Expr) → ((w : Expr-F Expr) → IsTrue (same_layer (tests z) w) → z ≡ w) → IsTrue (same_layer (tests z) z) → Holds (roll-Expr z)
unfolding Holds
settled z from to b =
    let is : same_tree (roll-Expr z) b ≡ same_layer (tests z) (out-Expr b) = ap (λ (f : Expr → Bool). f b) (fold-roll-Expr (Expr → Bool) same_step z) in (
      λ h. ap roll-Expr (from (out-Expr b) (sym is ∙ h)) ∙ roll-out-Expr b,
      λ e. is ∙ subst (λ w. IsTrue (same_layer (tests z) w)) (sym (out-roll-Expr z) ∙ ap out-Expr e) to,
    )

pub same_tree-Decides : (a b : Expr) → IsTrue (same_tree a b) ↔ (a ≡ b)
unfolding Holds
same_tree-Decides = ind-Expr Holds (λ x y is. subst (λ (z : Expr-F Expr). Holds (roll-Expr z)) is (settled (trees y) (layer-from y) (layer-to y)))
