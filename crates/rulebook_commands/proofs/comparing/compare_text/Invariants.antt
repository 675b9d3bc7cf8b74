use Rattle.std.proofs.Common.{length}
use Rattle.rulebook_order.specs.NoWorseBy.{IsVerdictBy}
use Rattle.rulebook_commands.specs.Compare.{IsPairLine}
use Rattle.rulebook_commands.proofs.Lines.{IsComparedTo}
use Rattle.rulebook_commands.proofs.comparing.compare_text.Given as goal

abbrev pub invariant-loop-rest : goal.invariant-loop-rest
invariant-loop-rest l = IsComparedTo (IsPairLine (IsVerdictBy l.order) l.book.rules) (length l.book.rules) l.rows l.rest l.text.items

abbrev pub decreases-loop-rest : goal.decreases-loop-rest
decreases-loop-rest l = length l.rest
