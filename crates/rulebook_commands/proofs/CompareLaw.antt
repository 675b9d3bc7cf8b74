-- What due outcomes of `compare` have in common.
use Rattle.std.proofs.Common.{◌≡◌, ℕ, List, length, sym, ◌∙◌}
use Rattle.outside_io.specs.Outside.{Files}
use Rattle.preorder.specs.declared.row.Row.{Row}
use Rattle.rule_language.specs.declared.book.Book.{Book}
use Rattle.rule_language.specs.declared.table.Table.{Table}
use Rattle.rulebook_order.specs.NoWorseUnder.{IsVerdictUnder}
use Rattle.rulebook_order.specs.Pairs.{later_pairs}
use Rattle.command_outcome.specs.Outcome.{Outcome}
use Rattle.command_outcome.proofs.DueOutcomes.{IsLawful, lawful_text, same_outcome}
use Rattle.rulebook_commands.specs.Compare.{CompareMakes, IsCompareText, IsPairLine, compare_task}
use Rattle.rulebook_commands.proofs.Lines.{lines_unique, one_pair_line}

one_compare_text : (book : Book) (rows : List Row) (s t : List ℕ) → IsCompareText book rows s → IsCompareText book rows t → s ≡ t
one_compare_text book rows = lines_unique (IsPairLine (IsVerdictUnder book.statements (length book.rules)) book.rules) (one_pair_line book) (later_pairs rows)

one_compare : (files : Files) (x : Book × Table) (o p : Outcome) → CompareMakes files x o → CompareMakes files x p → o ≡ p
one_compare files x o p h k = same_outcome o p (h.done ∙ sym k.done) (one_compare_text x.0 x.1.rows o.text p.text h.says k.says) (h.stays ∙ sym k.stays)

pub compare_lawful : (book table : List ℕ) → IsLawful (compare_task book table)
compare_lawful book table = lawful_text (compare_task book table) one_compare (λ files x o h. h.stays)
