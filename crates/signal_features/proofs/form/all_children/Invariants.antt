use Rattle.std.proofs.Common.{◌≡◌, ◌<◌, ◌-◌, ◌++◌, length}
use Rattle.std.specs.Prelude.{All, IfSome}
use Rattle.std.specs.Option.{option_map_or}
use Rattle.element_tree.specs.Trees.{children, from}
use Rattle.signal_features.proofs.form.all_children.Given as goal

abbrev pub invariant-loop-next : goal.invariant-loop-next
invariant-loop-next l = record {
  same : l.nodes ++ from l.tree l.next ≡ children l.tree l.node;
  inside : All (λ k. k < length l.tree.nodes) l.nodes;
  within : IfSome l.next (λ k. k < length l.tree.nodes);
}

abbrev pub decreases-loop-next : goal.decreases-loop-next
decreases-loop-next l = option_map_or (λ k. length l.tree.nodes - k) l.next 0
