use Rattle.std.proofs.Common.{◌≡◌, ◌+◌, length}
use Rattle.element_tree.specs.Documents.{read_on}
use Rattle.element_tree.specs.Views.{state}
use Rattle.element_tree.specs.Within.{AreWithin}
use Rattle.element_tree.proofs.reader.read_on.Given as goal

abbrev pub invariant-loop-kind : goal.invariant-loop-kind
invariant-loop-kind l = record {
  same : read_on l.rest (state l.reader) ≡ read_on l.bytes (state l.fn.reader);
  places : l.reader.at + length l.rest ≡ l.fn.reader.at + length l.bytes;
  within : AreWithin l.reader.at l.reader.nodes.items;
}

abbrev pub decreases-loop-kind : goal.decreases-loop-kind
decreases-loop-kind l = length l.rest
