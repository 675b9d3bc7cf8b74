use Rattle.std.proofs.Common.{◌≡◌, take}
use Rattle.std.specs.List.{filter_map}
use Rattle.signal_features.specs.Forms.{reference_at}
use Rattle.signal_features.proofs.uses.all_references.Given as goal

abbrev pub invariant-loop-node : goal.invariant-loop-node
invariant-loop-node l = l.ids ≡ filter_map (reference_at l.tree l.name) (take l.node-index l.nodes)
