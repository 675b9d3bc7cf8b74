use Rattle.std.proofs.Common.{◌≡◌, length}
use Rattle.element_tree.specs.Pieces.{pieces}
use Rattle.element_tree.specs.Tags.{attribute_at, value_of}
use Rattle.element_tree.proofs.tag.value_of.Given as goal

abbrev pub invariant-loop-found : goal.invariant-loop-found
invariant-loop-found l = value_of l.name (pieces attribute_at l.rest).0 ≡ value_of l.name (pieces attribute_at l.bytes).0

abbrev pub decreases-loop-found : goal.decreases-loop-found
decreases-loop-found l = length l.rest
