-- Lost pairs of pre-orders are those of the books' statements.
use Rattle.std.specs.Prelude.{◌≡◌, ℕ, ◌<◌, ◌↔◌, not, List, IsTrue, length, slice_index, slice_index_or}
use Rattle.std.proofs.Common.{◌∙◌, ⊎_elim, ap, subst, arith}
use Rattle.std.proofs.lemmas.List.{get_or_default}
use Rattle.std.proofs.lemmas.Bool.{and_parts, and_from, not-true, not_from_false, false_from_ne_true, both_ways, cases_Bool}
use Rattle.std.proofs.lemmas.List.Elements.{All-get_or}
use Rattle.preorder.specs.Preorder.{rules_of, at_least, above}
use Rattle.preorder.specs.Statements.{IsClosure}
use Rattle.preorder.specs.declared.order.Preorder.{Preorder}
use Rattle.rule_language.specs.Books.{nameless}
use Rattle.rule_language.specs.Writing.{name_at}
use Rattle.rule_language.specs.declared.book.Book.{Book}
use Rattle.rule_language.specs.declared.book.Rule.{Rule}
use Rattle.rulebook_order.specs.NoWorseUnder.{IsAbove}
use Rattle.rulebook_order.proofs.Agree.{above-statements}
use Rattle.book_operations.specs.First.{IsFirstPair}
use Rattle.book_operations.specs.Images.{rule_at, AreImages, is_lost}
use Rattle.book_operations.specs.Tests.{size_of, image, IsLost, KeepsStrictPairs}

module _ (parent child : Book) (images : List ℕ) (are : AreImages parent.rules child.rules images) (order child_order : Preorder) (is_size : rules_of order ≡ size_of parent) (is_child_size : rules_of child_order ≡ size_of child) (closure : IsClosure parent.statements (size_of parent) (at_least order)) (child_closure : IsClosure child.statements (size_of child) (at_least child_order)) where
  listed-inside : (r : ℕ) → r < size_of parent → slice_index images r < size_of child
  listed-inside r h = All-get_or (λ i. i < size_of child) images r 0 (omega (arith, h, are.width)) are.inside

  -- above in the child, by its statements
  child-above : (a b : ℕ) → a < size_of parent → b < size_of parent → IsTrue (above child_order (slice_index images a) (slice_index images b)) ↔ IsAbove child.statements (image parent child a) (image parent child b)
  child-above a b ha hb =
      subst (λ i. IsTrue (above child_order (slice_index images a) (slice_index images b)) ↔ IsAbove child.statements i (image parent child b)) (are.places a ha)
      (subst (λ j. IsTrue (above child_order (slice_index images a) (slice_index images b)) ↔ IsAbove child.statements (slice_index images a) j) (are.places b hb)
      (above-statements child_order child.statements (size_of child) is_child_size child_closure (slice_index images a) (slice_index images b) (listed-inside a ha) (listed-inside b hb)))

  is_lost-words : (a b : ℕ) → a < size_of parent → b < size_of parent → IsTrue (is_lost order child_order images a b) ↔ IsLost parent child a b
  is_lost-words a b ha hb =
      let up = above-statements order parent.statements (size_of parent) is_size closure a b ha hb in
      let down = child-above a b ha hb in (
        λ h.
            let parts = and_parts (above order a b) (not (above child_order (slice_index images a) (slice_index images b))) h in
            (up.0 parts.0, λ k. both_ways _ (not-true _ parts.1) (down.1 k)),
        λ l. and_from _ _ (up.1 l.0) (not_from_false _ (false_from_ne_true _ (λ k. l.1 (down.0 k)))),
      )

  -- no lost pair: each strict pair is kept
  pub pairs-kept : ((a b : ℕ) → a < rules_of order → b < rules_of order → ¬ IsTrue (is_lost order child_order images a b)) → KeepsStrictPairs parent child
  pairs-kept none a b ha hb h =
      ⊎_elim (λ k. (child-above a b ha hb).0 k)
      (λ k. absurd (none a b (omega (arith, ha, is_size)) (omega (arith, hb, is_size)) (and_from _ _ ((above-statements order parent.statements (size_of parent) is_size closure a b ha hb).1 h) (not_from_false _ k))))
      (cases_Bool (above child_order (slice_index images a) (slice_index images b)))

  -- the first lost pair of the pre-orders is the first of the books
  pub first-lost : (a b : ℕ) → IsFirstPair (rules_of order) (rules_of order) (λ a b. IsTrue (is_lost order child_order images a b)) a b → IsFirstPair (size_of parent) (size_of parent) (IsLost parent child) a b
  first-lost a b f =
      let ha : a < size_of parent = omega (arith, f.row, is_size) in
      let hb : b < size_of parent = omega (arith, f.column.inside, is_size) in
      record {
        row = ha;
        column = record {
          inside = hb;
          holds = (is_lost-words a b ha hb).0 f.column.holds;
          before = λ k h l. f.column.before k h ((is_lost-words a k ha (omega (arith, h, hb))).1 l);
        };
        before = λ c d h k l. f.before c d h (omega (arith, k, is_size)) ((is_lost-words c d (omega (arith, h, ha)) k).1 l);
      }

-- the name of a rule that is there
pub read-name : (read rules : List Rule) (i : ℕ) (d : Rule) → read ≡ rules → i < length rules → (slice_index_or read i d).name ≡ name_at rules i
read-name read rules i d e h = ap (λ (rs : List Rule). (slice_index_or rs i d).name) e ∙ ap (λ (r : Rule). r.name) (get_or_default rules i d nameless h)

pub read-rule : (read rules : List Rule) (i : ℕ) (d : Rule) → read ≡ rules → i < length rules → slice_index_or read i d ≡ rule_at rules i
read-rule read rules i d e h = ap (λ (rs : List Rule). slice_index_or rs i d) e ∙ get_or_default rules i d nameless h
