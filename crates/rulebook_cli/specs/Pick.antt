-- `pick BOOK TABLE`: the rows that no row beats, of equal ones the first.
use Rattle.std.specs.Prelude.{◌≡◌, ℕ, List, [], ◌∷◌, length, slice_index_or, None, codes}
use Rattle.std.specs.List.{flat_map}
use Rattle.outside_io.specs.Outside.{Files}
use Rattle.preorder.specs.declared.row.Row.{Row}
use Rattle.text_lines.specs.Lines.{row_line}
use Rattle.rule_language.specs.declared.book.Book.{Book}
use Rattle.rule_language.specs.declared.table.Table.{Table}
use Rattle.rulebook_order.specs.NoWorseUnder.{NoWorseUnder}
use Rattle.rulebook_order.specs.Front.{vectors_of, IsFront}
use Rattle.command_outcome.specs.declared.outcome.Status.TheVariants as status
use Rattle.command_outcome.specs.Outcome.{Outcome}
use Rattle.command_outcome.specs.Tasks.{Task}
use Rattle.bound_scene.specs.Inputs.{book_and_table}

abbrev pub no_row : Row
no_row = record { name = []; values = [] }

-- the line of row i, counted from 0
abbrev pub line_at : List Row → ℕ → List ℕ
line_at rows i = let row = slice_index_or rows i no_row in row_line row.name row.values

-- the lines of the rows at these places, or `none`
abbrev pub kept_lines : List Row → List ℕ → List ℕ
kept_lines rows [] = codes "none\n"
kept_lines rows (i ∷ places) = flat_map (line_at rows) (i ∷ places)

-- the vectors of the rows are compared over pairs of rules, by the book's statements
abbrev pub IsPickText : Book → List Row → List ℕ → Type 0
IsPickText book rows text =
    (places : List ℕ) × IsFront (NoWorseUnder book.statements (length book.rules))
    (vectors_of rows) places × (text ≡ kept_lines rows places)

-- what is made of the inputs: the files stay
pub record PickMakes (files : Files) (inputs : Book × Table) (outcome : Outcome) : Type 0 where
  pub done : outcome.status ≡ status.Done
  pub stays : outcome.files ≡ files
  pub says : IsPickText inputs.0 inputs.1.rows outcome.text

abbrev pub pick_task : List ℕ → List ℕ → Task
pick_task book table =
    record {
      Input = Book × Table;
      inputs = book_and_table book table;
      Makes = PickMakes;
      saves = None;
    }
