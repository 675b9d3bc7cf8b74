use Rattle.std.proofs.Common.{◌≡◌, ◌<◌, length, take}
use Rattle.std.specs.Prelude.{All}
use Rattle.std.specs.List.{filter}
use Rattle.signal_features.specs.Forms.{is_named}
use Rattle.signal_features.proofs.form.only_named.Given as goal

abbrev pub invariant-loop-node : goal.invariant-loop-node
invariant-loop-node l =
    (l.named ≡ filter (is_named l.tree l.name) (take l.node-index l.nodes)) × All (λ k. k < length l.tree.nodes) l.named
