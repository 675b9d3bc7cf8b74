-- The text that a book is written as. This project's own.
use Rattle.std.specs.Prelude.{ℕ, List, [], ◌∷◌, ◌++◌, codes, slice_index_or}
use Rattle.std.specs.List.{flat_map}
use Rattle.std.specs.Fmt.{decimal}
use Rattle.reading.specs.Bytes.{space, line_feed}
use Rattle.rule_language.specs.Books.{nameless}
use Rattle.rule_language.specs.Parts.{part_text}
use Rattle.rule_language.specs.declared.book.Book.{Book}
use Rattle.rule_language.specs.declared.book.Rule.{Rule}
use Rattle.rule_language.specs.declared.part.Part.{Part}

-- a line and its end
abbrev pub line : List ℕ → List ℕ
line text = text ++ line_feed ∷ []

abbrev pub part_line_text : List ℕ → Part → List ℕ
part_line_text name part = line (part_text part.at_end name (decimal part.weight) part.expr)

-- `rule NAME`, and the lines of its parts
abbrev pub rule_text : Rule → List ℕ
rule_text rule = line (codes "rule " ++ rule.name) ++ flat_map (part_line_text rule.name) rule.parts

abbrev pub name_at : List Rule → ℕ → List ℕ
name_at rules i = (slice_index_or rules i nameless).name

-- `above A B`
abbrev pub statement_text : List Rule → ℕ × ℕ → List ℕ
statement_text rules pair =
    line (codes "above " ++ (name_at rules pair.0 ++ (space ∷ name_at rules pair.1)))

-- the rules with their parts, and then the statements
abbrev pub book_text : Book → List ℕ
book_text book =
    flat_map rule_text book.rules ++ flat_map (statement_text book.rules) book.statements
