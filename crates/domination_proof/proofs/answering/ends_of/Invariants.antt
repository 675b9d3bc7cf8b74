use Rattle.std.proofs.Common.{◌≡◌, take}
use Rattle.std.specs.Prelude.{map}
use Rattle.rulebook_order.specs.Graph.{finished}
use Rattle.domination_proof.proofs.answering.ends_of.Given as goal

abbrev pub invariant-loop-label : goal.invariant-loop-label
invariant-loop-label g l = l.ends.items ≡ map (λ label. finished (g.G.StepGraph.graph l.graph) label.state label.vector) (take l.label-index l.labels)
