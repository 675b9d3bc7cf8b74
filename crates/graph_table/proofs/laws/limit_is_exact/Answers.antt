use Rattle.graph_table.proofs.AlikePairs.{not_both}
use Rattle.graph_table.proofs.laws.limit_is_exact.Goals as goal

pub returns : goal.returns
returns g c = λ states limit. not_both (g.G.StepGraph.graph c.args.graph.now) states limit
