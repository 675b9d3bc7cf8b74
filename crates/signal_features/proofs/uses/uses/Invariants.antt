use Rattle.std.proofs.Common.{◌≡◌, take}
use Rattle.std.specs.List.{filter_map}
use Rattle.signal_features.specs.Signals.{use_at, sign_ids, light_ids}
use Rattle.signal_features.proofs.uses.uses.Given as goal

abbrev pub invariant-loop-node : goal.invariant-loop-node
invariant-loop-node l =
    l.uses ≡ filter_map (use_at l.tree (sign_ids l.found.signs) (light_ids l.found.lights)) (take l.node-index l.nodes)
