use Rattle.std.proofs.Common.{◌+◌, ◌≤◌, take}
use Rattle.rulebook_order.specs.VectorOrder.{Holds}
use Rattle.certificate_checker.specs.GoodCertificate.{HasLinks, Everywhere, links_of}
use Rattle.certificate_checker.proofs.labels.unlinked_label.Given as goal

abbrev pub invariant-loop-k : goal.invariant-loop-k
invariant-loop-k g l =
    record {
      linked : Everywhere l.k (HasLinks (g.G.StepGraph.graph l.graph) (Holds (g.O.VectorOrder.no_worse l.order)) l.pairs l.labels);
      steps : l.steps ≤ l.fn.steps + links_of (take l.k l.labels);
    }
