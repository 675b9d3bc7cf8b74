use Rattle.std.proofs.Common.{◌≡◌, ◌<◌, ◌-◌, length}
use Rattle.std.specs.Prelude.{find, IfSome}
use Rattle.std.specs.Option.{option_map_or}
use Rattle.std.specs.Str.{bytes_eq}
use Rattle.element_tree.specs.Trees.{name_of, children, from}
use Rattle.scenario_xml.proofs.element.child.Given as goal

abbrev pub invariant-loop-next : goal.invariant-loop-next
invariant-loop-next l = record {
  same : find (λ k. bytes_eq (name_of l.tree k) l.name) (from l.tree l.next) ≡ find (λ k. bytes_eq (name_of l.tree k) l.name) (children l.tree l.node);
  within : IfSome l.next (λ k. k < length l.tree.nodes);
}

abbrev pub decreases-loop-next : goal.decreases-loop-next
decreases-loop-next l = option_map_or (λ k. length l.tree.nodes - k) l.next 0
