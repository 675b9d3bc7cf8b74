use Rattle.std.proofs.Common.{◌≡◌, ◌<◌, ◌-◌, length}
use Rattle.std.specs.Prelude.{IfSome}
use Rattle.std.specs.Option.{option_map_or}
use Rattle.element_tree.specs.Trees.{children, from}
use Rattle.reading.specs.Reading.{read_all}
use Rattle.scenario_xml.proofs.children.each_child.Given as goal

abbrev pub invariant-loop-next : goal.invariant-loop-next
invariant-loop-next g l = record {
  same : read_all (g.R.ChildReader.step l.tree) (from l.tree l.next) l.reader ≡ read_all (g.R.ChildReader.step l.tree) (children l.tree l.node) l.fn.reader;
  within : IfSome l.next (λ k. k < length l.tree.nodes);
  sound : g.R.ChildReader.is_sound l.reader;
}

abbrev pub decreases-loop-next : goal.decreases-loop-next
decreases-loop-next g l = option_map_or (λ k. length l.tree.nodes - k) l.next 0
