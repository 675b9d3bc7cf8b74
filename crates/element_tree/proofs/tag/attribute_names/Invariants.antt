use Rattle.std.proofs.Common.{◌≡◌, ◌++◌, length, map}
use Rattle.element_tree.specs.Pieces.{pieces}
use Rattle.element_tree.specs.Tags.{attribute_at}
use Rattle.element_tree.proofs.tag.attribute_names.Given as goal

abbrev pub invariant-loop-name : goal.invariant-loop-name
invariant-loop-name l = record {
  names : map (λ n. n.now) l.names.items ++ map (λ a. a.0) (pieces attribute_at l.rest).0 ≡ map (λ a. a.0) (pieces attribute_at l.bytes).0;
  rest : (pieces attribute_at l.rest).1 ≡ (pieces attribute_at l.bytes).1;
}

abbrev pub decreases-loop-name : goal.decreases-loop-name
decreases-loop-name l = length l.rest
