use Rattle.std.proofs.Common.{◌≡◌, [], length, ap, sym, subst, ◌∙◌, arith}
use Rattle.std.specs.Prelude.{map, slice_index_or}
use Rattle.std.proofs.lemmas.List.{length-map}
use Rattle.rulebook_order.specs.Graph.{finished}
use Rattle.rulebook_order.specs.VectorOrder.{Holds, IsVectorOrder}
use Rattle.label_search.specs.declared.label.Label.{Label}
use Rattle.certificate_checker.specs.Answers.{vectors_of}
use Rattle.certificate_checker.specs.GoodCertificate.{IsGood, pairs_of}
use Rattle.certificate_checker.specs.Labels.{ends_of}
use Rattle.certificate_checker.proofs.Conditions.{finals_within}
use Rattle.certificate_checker.proofs.Pairs.{length-pairs_of}
use Rattle.certificate_checker.proofs.Paths.{attained_by, final_ends}
use Rattle.certificate_text.specs.declared.certificate.Certificate.{Certificate}
use Rattle.domination_proof.specs.Copies.{cert_label}
use Rattle.domination_proof.proofs.Copied.{IsGood-found}
use Rattle.domination_proof.proofs.Shows.{ends_are, labels_reached}
use Rattle.domination_proof.proofs.answering.answers_found.Goals as goal

pub ends_of-requires : goal.ends_of-requires
ends_of-requires g c =
    let graph = g.G.StepGraph.graph c.args.graph.now in
    rw c.as_slice.ensures (labels_reached graph c.args.found.now.labels (Holds (g.O.VectorOrder.no_worse c.args.order.now)) c.requires.shown.labels)

pub final_answers-requires : goal.final_answers-requires
final_answers-requires g c =
    let graph = g.G.StepGraph.graph c.args.graph.now in
    let no_worse = g.O.VectorOrder.no_worse c.args.order.now in
    let laws = g.met.G.StepGraph.laws c.args.graph.now in
    let order : IsVectorOrder graph.width no_worse = rw c.requires.order (g.met.O.VectorOrder.laws c.args.order.now) in
    let certificate = c.args.certificate.now in
    let found = c.args.found.now in
    let good = subst (IsGood graph (Holds no_worse)) (sym c.requires.copied) (IsGood-found graph laws no_worse order found c.requires.shown) in
    let copies : certificate.labels ≡ map cert_label found.labels = ap (λ (x : Certificate). x.labels) c.requires.copied in
    let ends : c.as_slice-3.result.now ≡ map (λ (label : Label g.row.G-State.Denot). finished graph label.state label.vector) found.labels = rw c.as_slice.ensures at (c.as_slice-3.ensures.value ∙ c.in_ok-ends.ensures) in
    let within = finals_within graph (pairs_of graph certificate.labels) certificate.finals good.finals in
    record {
      length = rw c.as_slice-2.ensures (ap length ends ∙ (length-map found.labels (λ (label : Label g.row.G-State.Denot). finished graph label.state label.vector) ∙ (sym (length-map found.labels cert_label) ∙ sym (ap length copies))));
      finals = rw (c.as_slice-2.ensures, c.as_slice-4.ensures) (λ k d inside. (let h = within k d inside in omega (arith, length-pairs_of graph certificate.labels)));
      parents = rw c.as_slice-2.ensures good.parents;
    }

pub returns : goal.returns
returns g c =
    let graph = g.G.StepGraph.graph c.args.graph.now in
    let no_worse = g.O.VectorOrder.no_worse c.args.order.now in
    let laws = g.met.G.StepGraph.laws c.args.graph.now in
    let order : IsVectorOrder graph.width no_worse = rw c.requires.order (g.met.O.VectorOrder.laws c.args.order.now) in
    let certificate = c.args.certificate.now in
    let found = c.args.found.now in
    let good = subst (IsGood graph (Holds no_worse)) (sym c.requires.copied) (IsGood-found graph laws no_worse order found c.requires.shown) in
    let copies : certificate.labels ≡ map cert_label found.labels = ap (λ (x : Certificate). x.labels) c.requires.copied in
    let reached = rw c.as_slice.ensures at (c.as_slice-3.ensures.value ∙ c.in_ok-ends.ensures) in
    let ends : c.as_slice-3.result.now ≡ ends_of graph (pairs_of graph certificate.labels) = reached ∙ ends_are graph found.labels certificate.labels copies c.requires.shown.parents in
    let made = c.in_ok-answers.ensures in
    let answers = c.in_ok-answers.answers in
    let at_ends : vectors_of answers ≡ map (λ f. slice_index_or (ends_of graph (pairs_of graph certificate.labels)) f []) certificate.finals = rw (c.as_slice-4.ensures, ends) at made.vectors in
    let vectors = at_ends ∙ final_ends graph (pairs_of graph certificate.labels) certificate.finals (finals_within graph (pairs_of graph certificate.labels) certificate.finals good.finals) in
    let choices = rw (c.as_slice-2.ensures, c.as_slice-4.ensures) at made.choices in
    record {
      vectors = vectors;
      choices = choices;
      attained = attained_by graph (Holds no_worse) certificate good answers vectors choices;
    }
