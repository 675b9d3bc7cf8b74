use Rattle.rulebook_order.specs.NoWorseBy.{NoWorseBy}
use Rattle.rulebook_order.specs.PairOrder.{order_of}
use Rattle.certificate_checker.proofs.OneFinding.{Fails-once, Fails-not_good, answers_once}
use Rattle.certificate_checker.proofs.laws.one_finding.Goals as goal

pub returns : goal.returns
returns g c =
    let graph = g.G.StepGraph.graph c.args.graph.now in
    record {
      good_or_failing = λ number label good. Fails-not_good graph (NoWorseBy (order_of c.args.pairs.now)) c.args.cert.now good number label;
      one_condition = Fails-once graph (NoWorseBy (order_of c.args.pairs.now)) c.args.cert.now;
      one_list = answers_once graph c.args.cert.now;
    }
