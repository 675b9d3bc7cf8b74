-- A book with each strict pair of its parent, whose merged rules are of one class and whose added rules are below the others, keeps the parent's preferences.
use Rattle.std.specs.Prelude.{◌≡◌, ℕ, ◌<◌, ◌≤◌, Bool, true, false, List, if◌then◌else◌}
use Rattle.std.proofs.Common.{◌∙◌, ⊎_elim, sym, ap, subst, arith}
use Rattle.std.proofs.lemmas.Bool.{and_from, both_ways, cases_Bool}
use Rattle.preorder.specs.Preorder.{rules_of, at_least}
use Rattle.preorder.specs.Statements.{Leads, IsClosure}
use Rattle.preorder.specs.declared.order.Preorder.{Preorder}
use Rattle.rule_language.specs.Books.{IsBook}
use Rattle.rule_language.specs.Writing.{name_at}
use Rattle.rule_language.specs.declared.book.Book.{Book}
use Rattle.rulebook_order.specs.laws.Strict.{strict_part}
use Rattle.rulebook_order.proofs.Agree.{above-statements}
use Rattle.book_operations.specs.Derivation.{IsAdded, KeepsRanks}
use Rattle.book_operations.specs.Images.{rule_at, is_new, IsNew}
use Rattle.book_operations.specs.Tests.{size_of, HasRulesOf, HasNamesOf, image, becomes, once, IsCounted, KeepsStrictPairs, MergesClasses, OthersAreLowest, AddedAreLowest, KeepsPreferencesOf}
use Rattle.book_operations.proofs.Placed.{image-inside, image-named, equal-named, one_rule}
use Rattle.book_operations.proofs.Preferences.{KeepsPreferencesBy-from_ranks}
use Rattle.book_operations.proofs.Statements.{KeepsPreferences-statements}

pub names-kept : (parent child : Book) → HasRulesOf child parent → HasNamesOf child parent
names-kept parent child kept r h = equal-named parent.rules child.rules r (kept r h)

-- where each rule is kept, no two become the same
pub one-class : (parent child : Book) → IsBook parent → HasNamesOf child parent → MergesClasses parent child
one-class parent child book kept a b ha hb e =
    let na = image-named parent.rules child.rules a (kept a ha) in
    let nb = image-named parent.rules child.rules b (kept b hb) in
    subst (λ q. Leads parent.statements a q) (one_rule parent.rules book.different a b ha hb (sym na.1 ∙ ap (name_at child.rules) e ∙ nb.1)) (Leads.here a)

-- an added rule has a new name
pub added-new : (parent child : Book) → IsBook child → HasNamesOf child parent → (c : ℕ) → c < size_of child → IsAdded (size_of parent) (becomes parent child once) c → IsNew child.rules parent.rules c
added-new parent child book kept c h added =
    ⊎_elim (λ new. new)
    (λ old.
    let back = image-named child.rules parent.rules c (λ new. both_ways _ old new) in
    let there = image-named parent.rules child.rules (image child parent c) (kept (image child parent c) back.0) in
    absurd (added (image child parent c) back.0 (one_rule child.rules book.different (image parent child (image child parent c)) c there.0 h (there.1 ∙ back.1))))
    (cases_Bool (is_new parent.rules (rule_at child.rules c)))

pub others-lowest : (parent child : Book) → IsBook child → HasNamesOf child parent → AddedAreLowest parent child → OthersAreLowest parent child
others-lowest parent child book kept lowest new old hn ho added = lowest new old hn ho (added-new parent child book kept new hn added)

-- where the parent has each name of the child, no rule is added
pub none-added : (parent child : Book) → IsBook child → HasNamesOf child parent → HasNamesOf parent child → OthersAreLowest parent child
none-added parent child book kept no_others new old hn ho added = absurd (no_others new hn (added-new parent child book kept new hn added))

choice-counted : (b : Bool) (n : ℕ) → 1 ≤ n → 1 ≤ (if b then n else 1)
choice-counted true n h = h
choice-counted false n h = omega arith

pub once-counted : (parent child : Book) → IsCounted parent child once
once-counted parent child r h = choice-counted (is_new child.rules (rule_at parent.rules r)) 1 (omega arith)

module _ (parent child : Book) (book : IsBook parent) (child_book : IsBook child) (classes : MergesClasses parent child) (strict : KeepsStrictPairs parent child) (lowest : OthersAreLowest parent child) (times : List ℕ → ℕ) (counted : IsCounted parent child times) where
  module _ (order child_order : Preorder) (is_size : rules_of order ≡ size_of parent) (is_child_size : rules_of child_order ≡ size_of child) (closure : IsClosure parent.statements (size_of parent) (at_least order)) (child_closure : IsClosure child.statements (size_of child) (at_least child_order)) where
    image_at-inside : (r : ℕ) → image parent child r < size_of child
    image_at-inside = image-inside parent.rules child.rules child_book.some

    keeps-ranks : KeepsRanks order child_order (becomes parent child times)
    keeps-ranks = record {
      inside = λ r h. omega (arith, is_child_size, image_at-inside r);
      counted = λ r h. counted r (omega (arith, h, is_size));
      strict = λ a b h.
          let inside = (strict_part _ _ order.closed).within a b h in
          let ha : a < size_of parent = omega (arith, inside.0, is_size) in
          let hb : b < size_of parent = omega (arith, inside.1, is_size) in
          let up = (above-statements order parent.statements (size_of parent) is_size closure a b ha hb).0 h in
          (above-statements child_order child.statements (size_of child) is_child_size child_closure (image parent child a) (image parent child b) (image_at-inside a) (image_at-inside b)).1 (strict a b ha hb up);
      one_class = λ a b ha hb e.
          let pa : a < size_of parent = omega (arith, ha, is_size) in
          let pb : b < size_of parent = omega (arith, hb, is_size) in
          and_from (at_least order a b) (at_least order b a) ((closure a b pa pb).1 (classes a b pa pb e)) ((closure b a pb pa).1 (classes b a pb pa (sym e)));
      lowest = λ r c hr hc added.
          let h : r < size_of parent = omega (arith, hr, is_size) in
          let hc : c < size_of child = omega (arith, hc, is_child_size) in
          (above-statements child_order child.statements (size_of child) is_child_size child_closure (image parent child r) c (image_at-inside r) hc).1 (lowest c r hc h (λ k hk e. added k (omega (arith, hk, is_size)) e));
    }

    pub preferences-kept : KeepsPreferencesOf parent child times
    preferences-kept = KeepsPreferences-statements order child_order parent.statements child.statements (size_of parent) (size_of child) is_size is_child_size closure child_closure (becomes parent child times) (KeepsPreferencesBy-from_ranks order child_order (becomes parent child times) keeps-ranks)
