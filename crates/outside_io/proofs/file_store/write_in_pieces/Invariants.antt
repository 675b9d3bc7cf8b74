use Rattle.std.proofs.Common.{length}
use Rattle.outside_io.proofs.Pieces.{IsWrittenTo}
use Rattle.outside_io.proofs.file_store.write_in_pieces.Given as goal

abbrev pub invariant-loop-rest : goal.invariant-loop-rest
invariant-loop-rest g l = IsWrittenTo (g.W.Write.contents l.initial.file) (g.W.Write.contents l.file) l.bytes l.rest

abbrev pub decreases-loop-rest : goal.decreases-loop-rest
decreases-loop-rest g l = length l.rest
