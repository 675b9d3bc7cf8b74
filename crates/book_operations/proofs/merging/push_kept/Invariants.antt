use Rattle.std.specs.Prelude.{◌≡◌, ◌++◌, map, take}
use Rattle.book_operations.specs.Merging.{kept_rules}
use Rattle.book_operations.proofs.merging.push_kept.Given as goal

abbrev pub invariant-loop-rule : goal.invariant-loop-rule
invariant-loop-rule l = l.kept ≡ l.initial.kept ++ kept_rules (map (λ w. w.now) l.words) (take l.rule-index l.rules)
