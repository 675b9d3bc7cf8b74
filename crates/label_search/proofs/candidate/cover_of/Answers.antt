use Rattle.label_search.proofs.Puts.{number_at}
use Rattle.label_search.proofs.candidate.cover_of.Goals as goal

pub returns : goal.returns
returns g c = number_at (g.O.VectorOrder.no_worse c.args.order.now) c.args.candidates.now c.args.vector.now c.first_cover.result c.first_cover.ensures c.index-candidates-first_cover.result
