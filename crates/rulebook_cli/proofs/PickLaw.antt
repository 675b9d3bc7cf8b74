-- What due outcomes of `pick` have in common.
use Rattle.std.proofs.Common.{◌≡◌, ℕ, List, length, sym, ◌∙◌, ap}
use Rattle.outside_io.specs.Outside.{Files}
use Rattle.preorder.specs.declared.row.Row.{Row}
use Rattle.rule_language.specs.declared.book.Book.{Book}
use Rattle.rule_language.specs.declared.table.Table.{Table}
use Rattle.rulebook_order.specs.NoWorseUnder.{NoWorseUnder}
use Rattle.rulebook_order.specs.Front.{vectors_of}
use Rattle.rulebook_order.proofs.Unique.{IsFront-unique}
use Rattle.command_outcome.specs.Outcome.{Outcome}
use Rattle.command_outcome.proofs.DueOutcomes.{IsLawful, lawful_text, same_outcome}
use Rattle.rulebook_cli.specs.Pick.{PickMakes, IsPickText, kept_lines, pick_task}

one_pick_text : (book : Book) (rows : List Row) (s t : List ℕ) → IsPickText book rows s → IsPickText book rows t → s ≡ t
one_pick_text book rows s t h k = h.2 ∙ ap (kept_lines rows) (IsFront-unique (NoWorseUnder book.statements (length book.rules)) (vectors_of rows) h.0 k.0 h.1 k.1) ∙ sym k.2

one_pick : (files : Files) (x : Book × Table) (o p : Outcome) → PickMakes files x o → PickMakes files x p → o ≡ p
one_pick files x o p h k = same_outcome o p (h.done ∙ sym k.done) (one_pick_text x.0 x.1.rows o.text p.text h.says k.says) (h.stays ∙ sym k.stays)

pub pick_lawful : (book table : List ℕ) → IsLawful (pick_task book table)
pick_lawful book table = lawful_text (pick_task book table) one_pick (λ files x o h. h.stays)
