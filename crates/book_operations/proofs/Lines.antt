-- What a line of a script is refused for.
use Rattle.std.specs.Prelude.{◌≡◌, ℕ, List, Err, IsTrue}
use Rattle.std.proofs.Common.{refl}
use Rattle.std.proofs.lemmas.Bool.{false_from_ne_true}
use Rattle.preorder.specs.Name.{is_name}
use Rattle.rule_language.specs.Books.{part_of}
use Rattle.rule_language.specs.declared.book.Book.{Book}
use Rattle.book_operations.specs.Scripts.{augment_line}
use Rattle.book_operations.specs.declared.fault.DeriveFault.TheVariants.{Syntax}

-- a new rule must have a name
pub augment-nameless : (n : ℕ) (name weight : List ℕ) (expr : List (List ℕ)) (book : Book) → ¬ IsTrue (is_name name) → augment_line n name weight expr book ≡ Err (Syntax n)
unfolding augment_line part_of
augment-nameless n name weight expr book h = rw (false_from_ne_true (is_name name) h) refl
