-- Parts and rules are the same by the tests where they are equal.
use Rattle.std.specs.Prelude.{◌≡◌, ◌↔◌, ◌<◌, ◌&&◌, ◌==◌, ◌*◌, ℕ, Bool, List, [], ◌∷◌, IsTrue, map, length}
use Rattle.std.proofs.Common.{◌∙◌, refl, sym, ap, subst, arith}
use Rattle.std.proofs.Math.Bool.{beq}
use Rattle.std.proofs.lemmas.Bool.{and_parts, and_from, false≢true, eqb-true, eq-eqb}
use Rattle.std.proofs.lemmas.Slice.Eq.{bytes_eq-Decides}
use Rattle.std.proofs.lemmas.List.Folds.{Any-from_list_any, list_any_at}
use Rattle.std.proofs.lemmas.List.{get_or_default}
use Rattle.std.specs.Cmp.{booleans_Decides}
use Rattle.std.specs.Str.{bytes_eq}
use Rattle.expressions.specs.declared.tree.Expr.{Expr}
use Rattle.rule_language.specs.Books.{nameless}
use Rattle.rule_language.specs.declared.book.Rule.{Rule}
use Rattle.rule_language.specs.declared.part.Part.{Part}
use Rattle.book_operations.specs.Images.{rule_at}
use Rattle.book_operations.specs.Same.{same_tree, scaled, is_times, are_times, same_rule, has_equal}
use Rattle.book_operations.proofs.Trees.{same_tree-Decides}

part-is : (a b : Part) → a.weight ≡ b.weight → a.expr ≡ b.expr → a.at_end ≡ b.at_end → a ≡ b
part-is a b e f g = ap (λ (w : ℕ). record { weight = w; expr = a.expr; at_end = a.at_end }) e
    ∙ ap (λ (x : Expr). record { weight = b.weight; expr = x; at_end = a.at_end }) f
    ∙ ap (λ (t : Bool). record { weight = b.weight; expr = b.expr; at_end = t }) g

module _ (times : ℕ) where
  pub is_times-Decides : (part other : Part) → IsTrue (is_times times part other) ↔ (scaled times part ≡ other)
  is_times-Decides part other = (
    λ h.
        let g = and_parts (part.weight * times == other.weight && same_tree part.expr other.expr) (beq part.at_end other.at_end) h in
        let k = and_parts (part.weight * times == other.weight) (same_tree part.expr other.expr) g.0 in
        part-is (scaled times part) other (eqb-true (part.weight * times) other.weight k.0) ((same_tree-Decides part.expr other.expr).0 k.1) ((booleans_Decides part.at_end other.at_end).0 g.1),
    λ e. subst (λ (q : Part). IsTrue (is_times times part q)) e (and_from (part.weight * times == part.weight * times && same_tree part.expr part.expr) (beq part.at_end part.at_end)
        (and_from (part.weight * times == part.weight * times) (same_tree part.expr part.expr) (eq-eqb (part.weight * times) (part.weight * times) refl) ((same_tree-Decides part.expr part.expr).1 refl))
        ((booleans_Decides part.at_end part.at_end).1 refl)),
  )

  pub are_times-from : (parts others : List Part) → IsTrue (are_times times parts others) → map (scaled times) parts ≡ others
  are_times-from [] [] h = refl
  are_times-from [] (q ∷ qs) h = absurd (false≢true h)
  are_times-from (p ∷ ps) [] h = absurd (false≢true h)
  are_times-from (p ∷ ps) (q ∷ qs) h =
      let g = and_parts (is_times times p q) (are_times times ps qs) h in
      ap (λ (x : Part). x ∷ map (scaled times) ps) ((is_times-Decides p q).0 g.0) ∙ ap (λ (xs : List Part). q ∷ xs) (are_times-from ps qs g.1)

  pub are_times-to : (parts : List Part) → IsTrue (are_times times parts (map (scaled times) parts))
  are_times-to [] = refl
  are_times-to (p ∷ ps) = and_from (is_times times p (scaled times p)) (are_times times ps (map (scaled times) ps)) ((is_times-Decides p (scaled times p)).1 refl) (are_times-to ps)

scaled-once : (parts : List Part) → map (scaled 1) parts ≡ parts
scaled-once [] = refl
scaled-once (p ∷ ps) = ap (λ (x : Part). x ∷ map (scaled 1) ps) (part-is (scaled 1 p) p (omega arith) refl refl) ∙ ap (λ (xs : List Part). p ∷ xs) (scaled-once ps)

pub same_rule-Decides : (a b : Rule) → IsTrue (same_rule a b) ↔ (a ≡ b)
same_rule-Decides a b = (
  λ h.
      let g = and_parts (bytes_eq a.name b.name) (are_times 1 a.parts b.parts) h in
      ap (λ (n : List ℕ). record { name = n; parts = a.parts }) ((bytes_eq-Decides a.name b.name).0 g.0)
      ∙ ap (λ (ps : List Part). record { name = b.name; parts = ps }) (sym (scaled-once a.parts) ∙ are_times-from 1 a.parts b.parts g.1),
  λ e. subst (λ (q : Rule). IsTrue (same_rule a q)) e (and_from (bytes_eq a.name a.name) (are_times 1 a.parts a.parts) ((bytes_eq-Decides a.name a.name).1 refl)
      (subst (λ ps. IsTrue (are_times 1 a.parts ps)) (scaled-once a.parts) (are_times-to 1 a.parts))),
)

pub has_equal-from : (others : List Rule) (rule : Rule) → IsTrue (has_equal others rule) → (i : ℕ) × (i < length others) × (rule_at others i ≡ rule)
has_equal-from others rule h =
    let any = Any-from_list_any (λ other. same_rule rule other) others h in
    (any.0, any.2, get_or_default others any.0 nameless any.1 any.2 ∙ any.3 ∙ sym ((same_rule-Decides rule any.1).0 any.4))

pub has_equal-to : (others : List Rule) (rule : Rule) (i : ℕ) → i < length others → rule_at others i ≡ rule → IsTrue (has_equal others rule)
has_equal-to others rule i h e = list_any_at (λ other. same_rule rule other) others i nameless h ((same_rule-Decides rule (rule_at others i)).1 (sym e))
