use Rattle.std.proofs.Common.{ℕ, ◌+◌, ◌<◌, ◌≤◌, length}
use Rattle.rulebook_order.specs.Sums.{sums}
use Rattle.rulebook_order.specs.Certified.{IsLinkedTo}
use Rattle.rulebook_order.specs.VectorOrder.{Holds}
use Rattle.certificate_checker.proofs.labels.is_linked.Given as goal

abbrev pub invariant-loop-choice : goal.invariant-loop-choice
invariant-loop-choice g l =
    let graph = g.G.StepGraph.graph l.graph in
    record {
      linked : (c : ℕ) → c < l.choice → IsLinkedTo (Holds (g.O.VectorOrder.no_worse l.order)) l.pairs l.links c (graph.next l.state c) (sums l.vector (graph.cost l.state c));
      within : l.choice ≤ length l.links;
      steps : l.steps ≤ l.fn.steps + l.choice;
    }
