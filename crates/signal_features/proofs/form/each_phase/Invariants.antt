use Rattle.std.proofs.Common.{◌≡◌, drop}
use Rattle.std.specs.Prelude.{All}
use Rattle.signal_features.proofs.Loops.{with_front}
use Rattle.signal_features.specs.Forms.{phase, each_of}
use Rattle.signal_features.specs.Sound.{IsPhase}
use Rattle.signal_features.proofs.form.each_phase.Given as goal

abbrev pub invariant-loop-node : goal.invariant-loop-node
invariant-loop-node l = record {
  same : with_front l.phases (each_of (phase l.tree) (drop l.node-index l.nodes)) ≡ each_of (phase l.tree) l.nodes;
  sound : All IsPhase l.phases;
}
