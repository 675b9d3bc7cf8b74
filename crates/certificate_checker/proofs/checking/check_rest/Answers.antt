use Rattle.std.proofs.Common.{◌≡◌, [], length, ap, ◌∙◌, arith}
use Rattle.std.specs.Prelude.{map, slice_index_or}
use Rattle.rulebook_order.specs.VectorOrder.{Holds}
use Rattle.certificate_checker.specs.Answers.{vectors_of}
use Rattle.certificate_checker.specs.Labels.{ends_of}
use Rattle.certificate_checker.proofs.Conditions.{reached_of, finals_within}
use Rattle.certificate_checker.proofs.Ends.{length-ends}
use Rattle.certificate_checker.proofs.Pairs.{length-pairs_of}
use Rattle.certificate_checker.proofs.Paths.{final_ends}
use Rattle.certificate_checker.specs.GoodCertificate.{pairs_of}
use Rattle.certificate_checker.proofs.checking.check_rest.Goals as goal

pub ends-requires : goal.ends-requires
ends-requires g c =
    let graph = g.G.StepGraph.graph c.args.graph.now in
    record { reached = rw c.requires.pairs (reached_of graph (Holds (g.O.VectorOrder.no_worse c.args.order.now)) c.args.cert.now.labels c.requires.linked) }

pub check_finals-requires : goal.check_finals-requires
check_finals-requires g c = record {
  order = c.requires.order;
  count = c.requires.count;
  linked = c.requires.linked;
  pairs = c.requires.pairs;
  ends = c.as_slice.ensures.value ∙ c.in_ok-ends.ensures {u = tt};
}

pub final_answers-requires : goal.final_answers-requires
final_answers-requires g c =
    let graph = g.G.StepGraph.graph c.args.graph.now in
    let labels = c.args.cert.now.labels in
    let finals = c.args.cert.now.finals in
    let good = (c.in_ok-check_surplus.ensures {u = tt}).good in
    let size = length-pairs_of graph labels in
    let ends : c.as_slice-3.result.now ≡ ends_of graph c.args.pairs.now = c.as_slice-3.ensures.value ∙ c.in_ok-ends.ensures {u = tt} in
    let within = finals_within graph (pairs_of graph labels) finals good.finals in
    record {
      length = omega (arith, ap length ends, length-ends graph c.args.pairs.now, ap length c.requires.pairs, size, ap length c.as_slice-2.ensures);
      finals = rw (c.as_slice-2.ensures, c.as_slice-4.ensures) (λ k d inside. (let h = within k d inside in omega (arith, size)));
      parents = rw c.as_slice-2.ensures good.parents;
    }

pub returns : goal.returns
returns g c =
    let graph = g.G.StepGraph.graph c.args.graph.now in
    let labels = c.args.cert.now.labels in
    let finals = c.args.cert.now.finals in
    let good = (c.in_ok-check_surplus.ensures {u = tt}).good in
    let made = c.in_ok-answers.ensures {u = tt} in
    let ends : c.as_slice-3.result.now ≡ ends_of graph (pairs_of graph labels) = c.as_slice-3.ensures.value ∙ (c.in_ok-ends.ensures {u = tt} ∙ ap (ends_of graph) c.requires.pairs) in
    let vectors : vectors_of c.in_ok-answers.answers ≡ map (λ f. slice_index_or (ends_of graph (pairs_of graph labels)) f []) finals = rw (c.as_slice-4.ensures, ends) at made.vectors in
    record {
      good = good;
      vectors = vectors ∙ final_ends graph (pairs_of graph labels) finals (finals_within graph (pairs_of graph labels) finals good.finals);
      choices = rw (c.as_slice-2.ensures, c.as_slice-4.ensures) at made.choices;
      rejected = tt;
    }
