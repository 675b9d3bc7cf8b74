-- `compare BOOK TABLE`: how each row stands to each later one.
use Rattle.std.specs.Prelude.{◌≡◌, ℕ, ◌<◌, ⊤, List, [], ◌∷◌, ◌++◌, length, map}
use Rattle.std.specs.Prelude.{None, codes}
use Rattle.outside_io.specs.Outside.{Files}
use Rattle.preorder.specs.declared.row.Row.{Row}
use Rattle.reading.specs.Bytes.{line_feed}
use Rattle.text_lines.specs.Lines.{word}
use Rattle.rule_language.specs.declared.book.Book.{Book}
use Rattle.rule_language.specs.declared.book.Rule.{Rule}
use Rattle.rule_language.specs.declared.table.Table.{Table}
use Rattle.rulebook_order.specs.Pairs.{later_pairs}
use Rattle.rulebook_order.specs.NoWorseUnder.{IsVerdictUnder}
use Rattle.rulebook_order.specs.declared.verdict.Verdict.{Verdict}
use Rattle.rulebook_order.specs.declared.verdict.Verdict.TheVariants.{Equal, First, Second, Neither}
use Rattle.command_outcome.specs.declared.outcome.Status.TheVariants as status
use Rattle.command_outcome.specs.Outcome.{Outcome}
use Rattle.command_outcome.specs.Tasks.{Task}
use Rattle.bound_scene.specs.Inputs.{book_and_table, rule_name}

-- the text is the lines of the items, in their order
abbrev pub AreLines : {X : Type 0} → (X → List ℕ → Type 0) → List X → List ℕ → Type 0
AreLines IsLine [] text = text ≡ []
AreLines IsLine (x ∷ xs) text =
    (line : List ℕ) × (rest : List ℕ) × IsLine x line × AreLines IsLine xs rest
    × (text ≡ line ++ rest)

-- lines of the items were added at the end
pub record AddsLines {X : Type 0} (IsLine : X → List ℕ → Type 0) (items : List X)
    (old new : List ℕ) : Type 0 where
  pub added : List ℕ
  pub lines : AreLines IsLine items added
  pub appended : new ≡ old ++ added

-- a verdict's rules are among so many
abbrev pub AreNamed : ℕ → Verdict → Type 0
AreNamed size Equal = ⊤
AreNamed size (First r) = r < size
AreNamed size (Second r) = r < size
AreNamed size (Neither r q) = (r < size) × (q < size)

-- a verdict with the names of its rules, behind a space
abbrev pub verdict_text : List Rule → Verdict → List ℕ
verdict_text rules Equal = word (codes "equal")
verdict_text rules (First r) = word (codes "first") ++ word (rule_name rules r)
verdict_text rules (Second r) = word (codes "second") ++ word (rule_name rules r)
verdict_text rules (Neither r q) =
    word (codes "neither") ++ (word (rule_name rules r) ++ word (rule_name rules q))

-- `NAME NAME VERDICT` and a line feed
abbrev pub pair_line : List Rule → Row × Row → Verdict → List ℕ
pair_line rules pair verdict =
    pair.0.name ++ (word pair.1.name ++ (verdict_text rules verdict ++ line_feed ∷ []))

-- the line of a pair has the verdict on its vectors
abbrev pub IsPairLine : (List ℕ → List ℕ → Verdict → Type 0) → List Rule → Row × Row → List ℕ
    → Type 0
IsPairLine IsVerdictOn rules pair line =
    (verdict : Verdict) × IsVerdictOn pair.0.values pair.1.values verdict
    × (line ≡ pair_line rules pair verdict)

-- the vectors of the rows are compared over pairs of rules, by the book's statements
abbrev pub IsCompareText : Book → List Row → List ℕ → Type 0
IsCompareText book rows text =
    AreLines (IsPairLine (IsVerdictUnder book.statements (length book.rules)) book.rules)
    (later_pairs rows) text

-- what is made of the inputs: the files stay
pub record CompareMakes (files : Files) (inputs : Book × Table) (outcome : Outcome) : Type 0 where
  pub done : outcome.status ≡ status.Done
  pub stays : outcome.files ≡ files
  pub says : IsCompareText inputs.0 inputs.1.rows outcome.text

abbrev pub compare_task : List ℕ → List ℕ → Task
compare_task book table =
    record {
      Input = Book × Table;
      inputs = book_and_table book table;
      Makes = CompareMakes;
      saves = None;
    }
