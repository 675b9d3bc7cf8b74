-- The two vectors of a refusal show that a preference is lost.
use Rattle.std.specs.Prelude.{◌≡◌, ◌≢◌, ℕ, ◌<◌, List, IsTrue}
use Rattle.std.proofs.Common.{◌∙◌, sym, subst, arith}
use Rattle.preorder.specs.Preorder.{rules_of, at_least, above}
use Rattle.preorder.specs.Statements.{IsClosure}
use Rattle.preorder.specs.declared.order.Preorder.{Preorder}
use Rattle.rule_language.specs.Books.{IsBook}
use Rattle.rule_language.specs.declared.book.Book.{Book}
use Rattle.rulebook_order.specs.NoWorse.{Beats}
use Rattle.rulebook_order.specs.NoWorseBy.{NoWorseBy}
use Rattle.rulebook_order.specs.NoWorseUnder.{NoWorseUnder}
use Rattle.rulebook_order.proofs.Agree.{Beats-agree, NoWorseBy-statements, above-statements}
use Rattle.book_operations.specs.Derivation.{Carries, one_at}
use Rattle.book_operations.specs.Tests.{size_of, image, becomes, IsCounted, MergesClasses, IsLost, LosesPreference}
use Rattle.book_operations.proofs.Placed.{image-inside}
use Rattle.book_operations.proofs.Shares.{carried, Carries-carried, carried-added}
use Rattle.book_operations.proofs.Statements.{carries}
use Rattle.book_operations.proofs.Witnesses.{one_at-width, one_at-beats, strict-lost}

-- what beats by a pre-order beats by the statements of which it is the closure
pub beats-statements : (order : Preorder) (statements : List (ℕ × ℕ)) (size : ℕ) → rules_of order ≡ size → IsClosure statements size (at_least order) → (x y : List ℕ) → Beats (NoWorseBy order) x y → Beats (NoWorseUnder statements size) x y
beats-statements order statements size is_size closure x y beats =
    let words = NoWorseBy-statements order statements size is_size closure in
    (Beats-agree (NoWorseBy order) (NoWorseUnder statements size) x y (words x y) (words y x)).0 beats

module _ (parent child : Book) (child_book : IsBook child) (classes : MergesClasses parent child) (order child_order : Preorder) (is_size : rules_of order ≡ size_of parent) (is_child_size : rules_of child_order ≡ size_of child) (closure : IsClosure parent.statements (size_of parent) (at_least order)) (child_closure : IsClosure child.statements (size_of child) (at_least child_order)) where
  module _ (a b : ℕ) (ha : a < size_of parent) (hb : b < size_of parent) (is_lost : IsLost parent child a b) where
    apart : image parent child a ≢ image parent child b
    apart e = is_lost.0.1 (classes b a hb ha (sym e))

    in-parent : Beats (NoWorseUnder parent.statements (size_of parent)) (one_at (size_of parent) b) (one_at (size_of parent) a)
    in-parent =
        let up = (above-statements order parent.statements (size_of parent) is_size closure a b ha hb).1 is_lost.0 in
        let by = subst (λ n. Beats (NoWorseBy order) (one_at n b) (one_at n a)) is_size (one_at-beats order a b up) in
        beats-statements order parent.statements (size_of parent) is_size closure (one_at (size_of parent) b) (one_at (size_of parent) a) by

    pub shows-lost : (times : List ℕ → ℕ) → IsCounted parent child times → LosesPreference parent child times (one_at (size_of parent) b) (one_at (size_of parent) a)
    shows-lost times counted = record {
      in_parent = in-parent;
      carried = (
        carried (size_of parent) (size_of child) (becomes parent child times) (one_at (size_of parent) b),
        carried (size_of parent) (size_of child) (becomes parent child times) (one_at (size_of parent) a),
        Carries-carried (size_of parent) (size_of child) (becomes parent child times) (one_at (size_of parent) b) (one_at-width (size_of parent) b) (λ r h. image-inside parent.rules child.rules child_book.some r),
        Carries-carried (size_of parent) (size_of child) (becomes parent child times) (one_at (size_of parent) a) (one_at-width (size_of parent) a) (λ r h. image-inside parent.rules child.rules child_book.some r),
        λ c h added. carried-added (size_of parent) (size_of child) (becomes parent child times) (one_at (size_of parent) b) c h added ∙ sym (carried-added (size_of parent) (size_of child) (becomes parent child times) (one_at (size_of parent) a) c h added),
      );
      not_in_child = λ child_x child_y carries_x carries_y alike no_worse.
          let to = carries order child_order parent.statements child.statements (size_of parent) (size_of child) is_size is_child_size (becomes parent child times) in
          let cx = subst (λ n. Carries (rules_of order) (rules_of child_order) (becomes parent child times) (one_at n b) child_x) (sym is_size) (to (one_at (size_of parent) b) child_x carries_x) in
          let cy = subst (λ n. Carries (rules_of order) (rules_of child_order) (becomes parent child times) (one_at n a) child_y) (sym is_size) (to (one_at (size_of parent) a) child_y carries_y) in
          let inside = image-inside parent.rules child.rules child_book.some in
          let not_above : ¬ IsTrue (above child_order (image parent child a) (image parent child b)) = λ h. is_lost.1 ((above-statements child_order child.statements (size_of child) is_child_size child_closure (image parent child a) (image parent child b) (inside a) (inside b)).0 h) in
          strict-lost order child_order (becomes parent child times) a b (omega (arith, hb, is_size)) (omega (arith, is_child_size, inside b)) (counted b hb) apart not_above child_x child_y cx cy
          (λ c h added. alike c (omega (arith, h, is_child_size)) (λ k hk e. added k (omega (arith, hk, is_size)) e))
          ((NoWorseBy-statements child_order child.statements (size_of child) is_child_size child_closure child_x child_y).1 no_worse);
    }
