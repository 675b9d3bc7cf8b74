use Rattle.std.specs.Prelude.{◌≡◌, ℕ, Option, Some, None}
use Rattle.std.specs.List.{position}
use Rattle.std.proofs.Common.{refl, sym}
use Rattle.std.proofs.lemmas.Bool.{false≢true}
use Rattle.book_operations.specs.Images.{is_new}
use Rattle.book_operations.proofs.Placed.{none-new, position-first}
use Rattle.book_operations.proofs.Refusals.{of_read}
use Rattle.book_operations.proofs.kind.has_names.Goals as goal

pub returns-in-Some : goal.returns-in-Some
returns-in-Some c =
    let book = c.args.book.now in
    let other = c.args.other.now in
    let exact = of_read (λ rs os. ◌≡◌ {A = Option ℕ} (Some c.in-Some._place) (position (is_new os) rs)) _ _ book.rules other.rules c.as_slice.ensures c.as_slice-2.ensures c.in-Some.ensures.exact in
    let first = position-first (is_new other.rules) book.rules c.in-Some._place (sym exact) in
    (λ h. absurd (false≢true h), λ all. absurd (all c.in-Some._place first.inside first.holds))

pub returns-in-None : goal.returns-in-None
returns-in-None c =
    let book = c.args.book.now in
    let other = c.args.other.now in
    let exact = of_read (λ rs os. ◌≡◌ {A = Option ℕ} None (position (is_new os) rs)) _ _ book.rules other.rules c.as_slice.ensures c.as_slice-2.ensures c.in-None.ensures.exact in
    (λ _. none-new book.rules other.rules (sym exact), λ _. refl)
