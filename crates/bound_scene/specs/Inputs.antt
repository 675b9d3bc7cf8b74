-- A book and a table as inputs, with the text of each fault. This project's own.
use Rattle.std.specs.Prelude.{ℕ, List, [], length, Option, None, Some, Result, codes, slice_index_or}
use Rattle.rule_language.specs.declared.book.Book.{Book}
use Rattle.rule_language.specs.declared.book.Rule.{Rule}
use Rattle.rule_language.specs.declared.book.BookFault.{BookFault}
use Rattle.rule_language.specs.declared.book.BookFault.TheVariants as book
use Rattle.rule_language.specs.declared.table.Table.{Table}
use Rattle.rule_language.specs.declared.table.TableFault.{TableFault}
use Rattle.rule_language.specs.declared.table.TableFault.TheVariants as table
use Rattle.rule_language.specs.Books.{book_of}
use Rattle.rule_language.specs.Tables.{table_of}
use Rattle.command_outcome.specs.declared.outcome.Role.{Role}
use Rattle.command_outcome.specs.declared.outcome.Role.TheVariants as role
use Rattle.command_outcome.specs.Outcome.{fault_at}
use Rattle.command_outcome.specs.Inputs.{Inputs, file, given, told, ◌>>=◌}

-- a fault's name in lower case with dashes between its words, and the number of the line; want of
-- memory has none
abbrev pub book_fault_text : BookFault → Option (List ℕ)
book_fault_text book.NotUtf8 = Some (codes "not-utf8")
book_fault_text (book.Syntax n) = Some (fault_at (codes "syntax") n)
book_fault_text (book.UnknownName n) = Some (fault_at (codes "unknown-name") n)
book_fault_text (book.DuplicateName n) = Some (fault_at (codes "duplicate-name") n)
book_fault_text (book.BadWeight n) = Some (fault_at (codes "bad-weight") n)
book_fault_text (book.TooManyRules n) = Some (fault_at (codes "too-many-rules") n)
book_fault_text (book.TooManyParts n) = Some (fault_at (codes "too-many-parts") n)
book_fault_text book.NoRules = Some (codes "no-rules")
book_fault_text book.NoMemory = None

abbrev pub table_fault_text : TableFault → Option (List ℕ)
table_fault_text table.NotUtf8 = Some (codes "not-utf8")
table_fault_text (table.Syntax n) = Some (fault_at (codes "syntax") n)
table_fault_text (table.WrongWidth n) = Some (fault_at (codes "wrong-width") n)
table_fault_text (table.BadNumber n) = Some (fault_at (codes "bad-number") n)
table_fault_text (table.DuplicateName n) = Some (fault_at (codes "duplicate-name") n)
table_fault_text (table.TooManyRows n) = Some (fault_at (codes "too-many-rows") n)
table_fault_text table.NoMemory = None

abbrev pub book_read : List ℕ → Result Book (Option (List ℕ))
book_read bytes = told book_fault_text (book_of bytes)

-- a table of a book has a number for each of its rules
abbrev pub table_read : Book → List ℕ → Result Table (Option (List ℕ))
table_read b bytes = told table_fault_text (table_of (length b.rules) bytes)

-- a book in any role
abbrev pub book_input : Role → List ℕ → Inputs Book
book_input r name = file r book_read name

abbrev pub table_input : Book → List ℕ → Inputs Table
table_input b name = file role.Table (table_read b) name

-- both files, in their order
abbrev pub with_table : List ℕ → Book → Inputs (Book × Table)
with_table name b = do
  t ← table_input b name
  given (b, t)

abbrev pub book_and_table : List ℕ → List ℕ → Inputs (Book × Table)
book_and_table book_name table_name = do
  b ← book_input role.Book book_name
  with_table table_name b

abbrev pub no_rule : Rule
no_rule = record { name = []; parts = [] }

-- the name of rule r, counted from 0
abbrev pub rule_name : List Rule → ℕ → List ℕ
rule_name rules r = (slice_index_or rules r no_rule).name
