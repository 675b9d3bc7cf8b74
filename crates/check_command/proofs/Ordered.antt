-- The order of vectors by a book, in the two ways of saying it.
use Rattle.std.proofs.Common.{◌≡◌, ◌↔◌, ℕ, List, length, sym, subst}
use Rattle.preorder.specs.Preorder.{rules_of, at_least}
use Rattle.preorder.specs.Statements.{IsClosure}
use Rattle.preorder.specs.declared.order.Preorder.{Preorder}
use Rattle.rule_language.specs.declared.book.Book.{Book}
use Rattle.rulebook_order.specs.Answer.{AreUndominated, HasMoreUndominated, IsUndominated, SomeUndominated}
use Rattle.rulebook_order.specs.Graph.{Graph, IsReached}
use Rattle.rulebook_order.specs.NoWorseBy.{no_worse_by}
use Rattle.rulebook_order.specs.NoWorseUnder.{NoWorseUnder}
use Rattle.rulebook_order.specs.VectorOrder.{Holds}
use Rattle.rulebook_order.specs.laws.PairLaws.{no_worse_by-words}
use Rattle.rulebook_order.proofs.Agree.{IsInFront-agree, NoWorseBy-statements}
use Rattle.check_command.specs.Certificates.{IsOrderOf}

-- the closure of a book's statements compares by them
pub order_is : (book : Book) (closure order : Preorder) → order ≡ closure → rules_of closure ≡ length book.rules → IsClosure book.statements (length book.rules) (at_least closure) → IsOrderOf book order
order_is book closure order same size closed =
    subst (IsOrderOf book) (sym same) (record { rules = size; words = NoWorseBy-statements closure book.statements (length book.rules) size closed })

-- the test of the order is the words
pub test_is : (book : Book) (order : Preorder) → IsOrderOf book order → (x y : List ℕ) → Holds (no_worse_by order) x y ↔ NoWorseUnder book.statements (length book.rules) x y
test_is book order is x y = (λ h. (is.words x y).0 ((no_worse_by-words order x y).0 h), λ h. (no_worse_by-words order x y).1 ((is.words x y).1 h))

-- two relations that agree have the same undominated pairs
module _ {S : Type 0} (g : Graph S) (P Q : List ℕ → List ℕ → Type 0) (agree : (x y : List ℕ) → P x y ↔ Q x y) where
  pub undominated_agree : (s : S) (v : List ℕ) → IsUndominated g P s v ↔ IsUndominated g Q s v
  undominated_agree s v = IsInFront-agree P Q (IsReached g s) (λ x y h k. agree x y) v

  pub all_agree : (pairs : List (S × List ℕ)) → AreUndominated g P pairs → AreUndominated g Q pairs
  all_agree pairs are = record {
    exact = λ s v. (λ listed. (undominated_agree s v).0 ((are.exact s v).0 listed), λ u. (are.exact s v).1 ((undominated_agree s v).1 u));
    once = are.once;
  }

  pub some_agree : (pairs : List (S × List ℕ)) → SomeUndominated g P pairs → SomeUndominated g Q pairs
  some_agree pairs are = record { sound = λ k d inside. (undominated_agree _ _).0 (are.sound k d inside); once = are.once }

  pub more_agree : (limit : ℕ) → HasMoreUndominated g P limit → HasMoreUndominated g Q limit
  more_agree limit h = record { pairs = h.pairs; undominated = some_agree h.pairs h.undominated; more = h.more }
