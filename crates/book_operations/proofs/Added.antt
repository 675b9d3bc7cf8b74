-- New rules that are not lowest by a pre-order are those by the books' statements; the two vectors of one show that a preference is lost.
use Rattle.std.specs.Prelude.{◌≡◌, ◌≢◌, ℕ, ◌<◌, ◌↔◌, Bool, true, false, List, IsTrue, length, slice_index, if◌then◌else◌}
use Rattle.std.proofs.Common.{◌∙◌, ⊎_elim, refl, sym, ap, subst, arith}
use Rattle.std.proofs.lemmas.Bool.{both_ways, cases_Bool, cases_eq}
use Rattle.std.proofs.lemmas.List.{length-replicate, get_or-replicate}
use Rattle.std.proofs.lemmas.List.Elements.{All-get_or}
use Rattle.preorder.specs.Preorder.{rules_of, at_least, above}
use Rattle.preorder.specs.Statements.{IsClosure}
use Rattle.preorder.specs.declared.order.Preorder.{Preorder}
use Rattle.rule_language.specs.Books.{IsBook}
use Rattle.rule_language.specs.Writing.{name_at}
use Rattle.rule_language.specs.declared.book.Book.{Book}
use Rattle.rule_language.specs.declared.book.Rule.{Rule}
use Rattle.rulebook_order.specs.NoWorseBy.{NoWorseBy}
use Rattle.rulebook_order.specs.NoWorseUnder.{IsAbove}
use Rattle.rulebook_order.proofs.Agree.{NoWorseBy-statements, above-statements}
use Rattle.book_operations.specs.Derivation.{Carries, one_at, none_violated}
use Rattle.book_operations.specs.First.{IsFirstPair}
use Rattle.book_operations.specs.Images.{rule_at, is_new, AreImages, IsRaised}
use Rattle.book_operations.specs.Tests.{size_of, image, becomes, once, HasRulesOf, IsNotLowest, AddedAreLowest, LosesCarried}
use Rattle.book_operations.proofs.Kept.{names-kept}
use Rattle.book_operations.proofs.Placed.{image-named, equal-named, one_rule}
use Rattle.book_operations.proofs.Shares.{Carries-from_kept}
use Rattle.book_operations.proofs.Witnesses.{one_at-width, one_at-there, one_at-elsewhere, one_at-unexcused, none-beats}

module _ (parent child : Book) (images : List ℕ) (are : AreImages parent.rules child.rules images) (order : Preorder) (is_size : rules_of order ≡ size_of child) (closure : IsClosure child.statements (size_of child) (at_least order)) where
  above-added : (new old : ℕ) → new < size_of child → old < size_of parent → IsTrue (above order (slice_index images old) new) ↔ IsAbove child.statements (image parent child old) new
  above-added new old hn ho =
      subst (λ i. IsTrue (above order (slice_index images old) new) ↔ IsAbove child.statements i new) (are.places old ho)
      (above-statements order child.statements (size_of child) is_size closure (slice_index images old) new (All-get_or (λ i. i < size_of child) images old 0 (omega (arith, ho, are.width)) are.inside) hn)

  -- none is raised: all are lowest
  pub added-lowest : ((new old : ℕ) → new < size_of child → old < length images → ¬ IsRaised child.rules parent.rules order images new old) → AddedAreLowest parent child
  added-lowest none new old hn ho is_new =
      ⊎_elim (λ k. (above-added new old hn ho).0 k)
      (λ k. absurd (none new old hn (omega (arith, ho, are.width)) (is_new, λ h. both_ways _ k h)))
      (cases_Bool (above order (slice_index images old) new))

  -- the first that is raised is the first that is not lowest
  pub first-not_lowest : (new old : ℕ) → IsFirstPair (size_of child) (length images) (IsRaised child.rules parent.rules order images) new old → IsFirstPair (size_of child) (size_of parent) (IsNotLowest parent child) new old
  first-not_lowest new old f =
      let ho : old < size_of parent = omega (arith, f.column.inside, are.width) in
      record {
        row = f.row;
        column = record {
          inside = ho;
          holds = (f.column.holds.0, λ k. f.column.holds.1 ((above-added new old f.row ho).1 k));
          before = λ k h n. f.column.before k h (n.0, λ up. n.1 ((above-added new k f.row (omega (arith, h, ho))).0 up));
        };
        before = λ c d h k n. f.before c d h (omega (arith, k, are.width)) (n.0, λ up. n.1 ((above-added c d (omega (arith, h, f.row)) k).0 up));
      }

times-once : (b : Bool) → ◌≡◌ {A = ℕ} (if b then 1 else 1) 1
times-once true = refl
times-once false = refl

-- the new rule violated alone, and the old one: they carry nothing violated, and the old rule violated alone
module _ (parent child : Book) (book : IsBook parent) (child_book : IsBook child) (kept : HasRulesOf child parent) (order : Preorder) (is_size : rules_of order ≡ size_of child) (closure : IsClosure child.statements (size_of child) (at_least order)) (new old : ℕ) (hn : new < size_of child) (ho : old < size_of parent) (not_lowest : IsNotLowest parent child new old) where
  at : (r : ℕ) → r < size_of parent → (image parent child r < size_of child) × (name_at child.rules (image parent child r) ≡ name_at parent.rules r)
  at r h = image-named parent.rules child.rules r (names-kept parent child kept r h)

  -- no rule of the parent becomes the new one
  apart : (r : ℕ) → r < size_of parent → image parent child r ≢ new
  apart r h e = equal-named child.rules parent.rules new (r, h, sym (kept r h).2 ∙ same_place) not_lowest.0 where
    same_place : rule_at child.rules (kept r h).0 ≡ rule_at child.rules new
    same_place = ap (rule_at child.rules) (one_rule child.rules child_book.different (kept r h).0 new (kept r h).1 hn (ap (λ (q : Rule). q.name) (kept r h).2 ∙ sym (at r h).1 ∙ ap (name_at child.rules) e))

  alone : (k r : ℕ) → k < size_of parent → r < size_of parent → image parent child k ≡ image parent child r → k ≡ r
  alone k r hk hr e = one_rule parent.rules book.different k r hk hr (sym (at k hk).1 ∙ ap (name_at child.rules) e ∙ (at r hr).1)

  carry : (x child_x : List ℕ) → length x ≡ size_of parent → length child_x ≡ size_of child → ((r : ℕ) → r < size_of parent → slice_index child_x (image parent child r) ≡ slice_index x r) → Carries (size_of parent) (size_of child) (becomes parent child once) x child_x
  carry x child_x w cw same_value = Carries-from_kept (size_of parent) (size_of child) (becomes parent child once) x child_x w cw alone (λ r. times-once (is_new child.rules (rule_at parent.rules r))) same_value

  old-value : (r : ℕ) → r < size_of parent → slice_index (one_at (size_of child) (image parent child old)) (image parent child r) ≡ slice_index (one_at (size_of parent) old) r
  old-value r h =
      ⊎_elim
      (λ (e : r ≡ old). ap (λ i. slice_index (one_at (size_of child) (image parent child old)) (image parent child i)) e ∙ one_at-there (size_of child) (image parent child old) (at old ho).0 ∙ sym (one_at-there (size_of parent) old ho) ∙ ap (slice_index (one_at (size_of parent) old)) (sym e))
      (λ ne. one_at-elsewhere (size_of child) (image parent child old) (image parent child r) (at r h).0 (λ e. ne (alone r old h ho e)) ∙ sym (one_at-elsewhere (size_of parent) old r h ne))
      (cases_eq r old)

  pub shows-not_lowest : LosesCarried parent child (one_at (size_of child) new) (one_at (size_of child) (image parent child old))
  shows-not_lowest = record {
    x = none_violated (size_of parent);
    y = one_at (size_of parent) old;
    carries_x = carry (none_violated (size_of parent)) (one_at (size_of child) new) (length-replicate {A = ℕ} (size_of parent) 0) (one_at-width (size_of child) new)
        (λ r h. one_at-elsewhere (size_of child) new (image parent child r) (at r h).0 (apart r h) ∙ sym (get_or-replicate {A = ℕ} (size_of parent) r 0 0 h));
    carries_y = carry (one_at (size_of parent) old) (one_at (size_of child) (image parent child old)) (one_at-width (size_of parent) old) (one_at-width (size_of child) (image parent child old)) old-value;
    in_parent = none-beats (size_of parent) (IsAbove parent.statements) old ho;
    not_in_child = λ no_worse.
        let words = NoWorseBy-statements order child.statements (size_of child) is_size closure in
        let by = (words (one_at (size_of child) new) (one_at (size_of child) (image parent child old))).1 no_worse in
        let up = above-statements order child.statements (size_of child) is_size closure (image parent child old) new (at old ho).0 hn in
        one_at-unexcused order (image parent child old) new (omega (arith, hn, is_size)) (apart old ho) (λ h. not_lowest.1 (up.0 h))
        (subst (λ n. NoWorseBy order (one_at n new) (one_at n (image parent child old))) (sym is_size) by);
  }
