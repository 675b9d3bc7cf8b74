use Rattle.rulebook_order.specs.VectorOrder.{Holds}
use Rattle.rulebook_order.proofs.Counting.{not_both}
use Rattle.label_search.proofs.laws.limit_is_exact.Goals as goal

pub returns : goal.returns
returns g c = λ pairs limit. not_both (g.G.StepGraph.graph c.args.graph.now) (Holds (g.O.VectorOrder.no_worse c.args.order.now)) pairs limit
