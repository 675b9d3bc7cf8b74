use Rattle.rulebook_order.specs.VectorOrder.{IsVectorOrder}
use Rattle.certificate_checker.proofs.Sound.{IsAnswerList-good}
use Rattle.certificate_checker.proofs.laws.good_shows_the_answer.Goals as goal

pub returns : goal.returns
returns g c =
    let graph = g.G.StepGraph.graph c.args.graph.now in
    let no_worse = g.O.VectorOrder.no_worse c.args.order.now in
    let order : IsVectorOrder graph.width no_worse = rw c.requires.order (g.met.O.VectorOrder.laws c.args.order.now) in
    IsAnswerList-good graph no_worse (g.met.G.StepGraph.laws c.args.graph.now) order c.args.cert.now c.requires.good
