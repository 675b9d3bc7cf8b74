use Rattle.std.proofs.Common.{sym, ◌∙◌, subst}
use Rattle.rulebook_order.specs.Answer.{IsAnswerList}
use Rattle.rulebook_order.specs.NoWorseBy.{no_worse_by}
use Rattle.rulebook_order.specs.laws.PairLaws.{no_worse_by-laws}
use Rattle.rulebook_order.specs.PairOrder.{order_of}
use Rattle.rulebook_order.specs.VectorOrder.{Holds, IsVectorOrder}
use Rattle.rulebook_order.proofs.Agree.{IsAnswerList-words}
use Rattle.certificate_checker.specs.Answers.{vectors_of}
use Rattle.certificate_checker.proofs.Paths.{attained_by}
use Rattle.certificate_checker.proofs.Sound.{IsAnswerList-good}
use Rattle.certificate_checker.proofs.checking.check_by_test.Goals as goal

pub check_rest-requires : goal.check_rest-requires
check_rest-requires g c =
    let made = c.in_ok-labels.ensures {u = tt} in
    record {
      order = c.requires.order;
      count = c.requires.count;
      linked = made.linked;
      pairs = c.as_slice.ensures.value ∙ made.pairs;
    }

pub returns : goal.returns
returns g c =
    let graph = g.G.StepGraph.graph c.args.graph.now in
    let no_worse = no_worse_by (order_of c.args.pairs.now) in
    let order : IsVectorOrder graph.width no_worse = rw c.requires.order (no_worse_by-laws (order_of c.args.pairs.now)) in
    let rest = c.in_ok-checked.ensures {u = tt} in
    record {
      good = rest.good;
      vectors = rest.vectors;
      choices = rest.choices;
      attained = attained_by graph (Holds no_worse) c.args.cert.now rest.good c.in_ok-checked.checked.answers rest.vectors rest.choices;
      answer = IsAnswerList-words graph (order_of c.args.pairs.now) (vectors_of c.in_ok-checked.checked.answers) (subst (IsAnswerList graph (Holds no_worse)) (sym rest.vectors) (IsAnswerList-good graph no_worse (g.met.G.StepGraph.laws c.args.graph.now) order c.args.cert.now rest.good));
      rejected = tt;
      steps = (c.in_ok-labels.ensures {u = tt}).steps;
    }
