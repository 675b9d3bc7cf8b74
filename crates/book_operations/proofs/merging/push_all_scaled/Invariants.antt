use Rattle.std.specs.Prelude.{◌≡◌, ◌++◌, map, take}
use Rattle.book_operations.specs.Same.{scaled}
use Rattle.book_operations.proofs.merging.push_all_scaled.Given as goal

abbrev pub invariant-loop-part : goal.invariant-loop-part
invariant-loop-part l = l.parts ≡ l.initial.parts ++ map (scaled l.times) (take l.part-index l.all)
