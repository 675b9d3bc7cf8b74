use Rattle.rulebook_order.specs.PairOrder.{order_of}
use Rattle.certificate_checker.proofs.AgreeGood.{OnOk-words, IfErr-words}
use Rattle.certificate_checker.proofs.checking.check.Goals as goal

pub returns-clause-good : goal.returns-clause-good
returns-clause-good g c = OnOk-words (g.G.StepGraph.graph c.args.graph.now) (order_of c.args.pairs.now) c.args.cert.now c.check_by_test.result c.check_by_test.ensures.good

pub returns-clause-rejected : goal.returns-clause-rejected
returns-clause-rejected g c = IfErr-words (g.G.StepGraph.graph c.args.graph.now) (order_of c.args.pairs.now) c.args.cert.now c.check_by_test.result c.check_by_test.ensures.rejected
