use Rattle.std.specs.Prelude.{◌≡◌, take}
use Rattle.std.specs.List.{flat_map}
use Rattle.book_operations.specs.Merging.{restated}
use Rattle.book_operations.proofs.merging.restated.Given as goal

abbrev pub invariant-loop-statement : goal.invariant-loop-statement
invariant-loop-statement l = l.all ≡ flat_map (restated l.rules l.others) (take l.statement-index l.statements)
