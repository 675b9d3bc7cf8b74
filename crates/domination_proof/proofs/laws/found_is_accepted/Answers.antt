use Rattle.rulebook_order.proofs.Agree.{IsAnswerList-words}
use Rattle.rulebook_order.specs.NoWorseBy.{NoWorseBy, no_worse_by}
use Rattle.rulebook_order.specs.PairOrder.{order_of}
use Rattle.rulebook_order.specs.VectorOrder.{IsVectorOrder}
use Rattle.rulebook_order.specs.laws.PairLaws.{no_worse_by-laws}
use Rattle.certificate_checker.proofs.AgreeGood.{IsGood-words}
use Rattle.certificate_checker.proofs.OneFinding.{Fails-not_good}
use Rattle.certificate_checker.proofs.Sound.{IsAnswerList-good}
use Rattle.certificate_checker.specs.GoodCertificate.{answers_of}
use Rattle.domination_proof.specs.Copies.{cert_of}
use Rattle.domination_proof.proofs.Copied.{IsGood-found}
use Rattle.domination_proof.proofs.laws.found_is_accepted.Goals as goal

pub returns : goal.returns
returns g c =
    let graph = g.G.StepGraph.graph c.args.graph.now in
    let order = order_of c.args.pairs.now in
    let cert = cert_of c.args.found.now in
    let laws : IsVectorOrder graph.width (no_worse_by order) = rw c.requires.order (no_worse_by-laws order) in
    let by_test = IsGood-found graph (g.met.G.StepGraph.laws c.args.graph.now) (no_worse_by order) laws c.args.found.now c.requires.shown in
    let good = (IsGood-words graph order cert).0 by_test in
    record {
      good = good;
      never_rejected = Fails-not_good graph (NoWorseBy order) cert good;
      answer = IsAnswerList-words graph order (answers_of graph cert) (IsAnswerList-good graph (no_worse_by order) (g.met.G.StepGraph.laws c.args.graph.now) laws cert by_test);
    }
