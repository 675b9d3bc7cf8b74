use Rattle.std.specs.Prelude.{◌≡◌, map, take}
use Rattle.std.specs.List.{flat_map}
use Rattle.book_operations.specs.Merging.{given_parts}
use Rattle.book_operations.proofs.merging.merged_parts.Given as goal

abbrev pub invariant-loop-rule : goal.invariant-loop-rule
invariant-loop-rule l = l.parts ≡ flat_map (given_parts (map (λ w. w.now) l.words)) (take l.rule-index l.rules)
