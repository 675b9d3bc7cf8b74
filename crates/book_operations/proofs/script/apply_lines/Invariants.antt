use Rattle.std.proofs.Common.{◌+◌, ◌≤◌, length}
use Rattle.reading.specs.Lines.{lines_of}
use Rattle.rule_language.specs.Books.{IsBook}
use Rattle.rule_language.specs.declared.book.Book.{Book}
use Rattle.book_operations.specs.Scripts.{Derives, IsFirstRefused, KeepsThrough}
use Rattle.book_operations.specs.declared.fault.DeriveFault.{DeriveFault}
use Rattle.book_operations.proofs.script.apply_lines.Given as goal

-- what is so from the next line on is so of the whole script
abbrev pub invariant-loop-text : goal.invariant-loop-text
invariant-loop-text l = record {
  sound : IsBook l.book;
  few : l.number + length l.rest ≤ length l.script;
  derives : (last : Book) → Derives (l.number + 1) (lines_of l.rest) l.book last → Derives 1 (lines_of l.script) l.parent last;
  keeps : (last : Book) → KeepsThrough (l.number + 1) (lines_of l.rest) l.book last → KeepsThrough 1 (lines_of l.script) l.parent last;
  refuses : (fault : DeriveFault) → IsFirstRefused (l.number + 1) (lines_of l.rest) l.book fault → IsFirstRefused 1 (lines_of l.script) l.parent fault;
}

abbrev pub decreases-loop-text : goal.decreases-loop-text
decreases-loop-text l = length l.rest
