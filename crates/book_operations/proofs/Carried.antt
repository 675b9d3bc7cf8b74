-- What is measured of a book is carried through the lines of a script by what is measured of the book that they derive.
use Rattle.std.specs.Prelude.{◌≡◌, ℕ, ◌+◌, List, [], ◌∷◌, Option, Some, None, Result, Ok, Err, IfOk}
use Rattle.std.proofs.Common.{refl, ap, subst}
use Rattle.std.proofs.lemmas.Result.{IfOk-weaker}
use Rattle.rule_language.specs.Books.{IsBook}
use Rattle.rule_language.specs.declared.book.Book.{Book}
use Rattle.rule_language.specs.declared.part.Part.{Part}
use Rattle.book_operations.specs.Measures.{IsMeasure, measured}
use Rattle.book_operations.specs.Scripts.{line_child, line_multiplier, Leaves, CarriesOver, CarriesThrough, Derives}
use Rattle.book_operations.specs.declared.fault.DeriveFault.{DeriveFault}
use Rattle.book_operations.specs.declared.steps.Child.{Child}
use Rattle.book_operations.proofs.Children.{child-of_line}

record IsLeft (book next : Book) (times : List ℕ → ℕ) (made : Result (Option Child) DeriveFault) : Type 0 where
  is_book : IsBook next
  carries : (amount : Part → ℕ) → IsMeasure amount → CarriesOver book times made (measured amount book) (measured amount next)

left : (n : ℕ) (line : List ℕ) (book next : Book) (made : Result (Option Child) DeriveFault) → IsBook book → line_child n line book ≡ made → Leaves book made next → IsLeft book next (line_multiplier line) made
left n line book next (Ok None) is e l = record { is_book = subst IsBook l is; carries = λ amount measure. ap (measured amount) l }
left n line book next (Ok (Some child)) is e l =
    let made = child-of_line n line book child is e in
    subst (λ (b : Book). IsLeft book b (line_multiplier line) (Ok (Some child))) l.0 (record { is_book = made.is_book; carries = made.measures l.1 })
left n line book next (Err fault) is e l = absurd l

pub derives-measured : (lines : List (List ℕ)) (n : ℕ) (first last : Book) → IsBook first → Derives n lines first last → (amount : Part → ℕ) → IsMeasure amount → CarriesThrough n lines first (measured amount first) (measured amount last)
unfolding Derives CarriesThrough
derives-measured [] n first last is d amount measure = ap (measured amount) d
derives-measured (line ∷ lines) n first last is d amount measure =
    let l = left n line first d.0 (line_child n line first) is refl d.1 in
    (d.0, measured amount d.0, d.1, l.carries amount measure, derives-measured lines (n + 1) d.0 last l.is_book d.2 amount measure)

pub each-derived : (derived : Result Book DeriveFault) (lines : List (List ℕ)) (first : Book) → IsBook first → IfOk derived (Derives 1 lines first) → IfOk derived (λ last. (amount : Part → ℕ) → IsMeasure amount → CarriesThrough 1 lines first (measured amount first) (measured amount last))
each-derived derived lines first is h = IfOk-weaker derived (Derives 1 lines first) (λ last. (amount : Part → ℕ) → IsMeasure amount → CarriesThrough 1 lines first (measured amount first) (measured amount last)) (λ last d. derives-measured lines 1 first last is d) h
