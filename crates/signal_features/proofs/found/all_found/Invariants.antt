use Rattle.std.proofs.Common.{◌≡◌, drop}
use Rattle.std.specs.Prelude.{[]}
use Rattle.reading.specs.Reading.{read_all}
use Rattle.signal_features.specs.Signals.{signal_step}
use Rattle.signal_features.specs.Sound.{AreFound}
use Rattle.signal_features.proofs.found.all_found.Given as goal

abbrev pub invariant-loop-node : goal.invariant-loop-node
invariant-loop-node l = record {
  same : read_all (signal_step l.tree) (drop l.node-index l.nodes) l.found ≡ read_all (signal_step l.tree) l.nodes (record { signs = []; lights = [] });
  sound : AreFound l.found;
}
