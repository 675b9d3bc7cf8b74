use Rattle.std.proofs.Common.{◌≡◌, ◌≤◌}
use Rattle.preorder.specs.Preorder.{above}
use Rattle.rulebook_order.specs.laws.Count.{count_below}
use Rattle.rulebook_order.proofs.chain.count_above.Given as goal

abbrev pub invariant-loop-other : goal.invariant-loop-other
invariant-loop-other l = record {
  value : l.count ≡ count_below (λ q. above l.order q l.rule) l.other;
  fits : l.count ≤ l.other;
}
