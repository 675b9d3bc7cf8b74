use Rattle.std.proofs.Common.{◌≡◌, take}
use Rattle.rulebook_order.specs.Certified.{goals_in, HasGoalLink}
use Rattle.rulebook_order.specs.VectorOrder.{Holds}
use Rattle.certificate_checker.specs.GoodCertificate.{Everywhere}
use Rattle.certificate_checker.proofs.finals.unanswered_goal.Given as goal

abbrev pub invariant-loop-k : goal.invariant-loop-k
invariant-loop-k g l =
    let graph = g.G.StepGraph.graph l.graph in
    record {
      answered : Everywhere l.k (HasGoalLink graph (Holds (g.O.VectorOrder.no_worse l.order)) l.pairs l.finals l.goal_links);
      count : l.j ≡ goals_in graph (take l.k l.pairs);
    }
