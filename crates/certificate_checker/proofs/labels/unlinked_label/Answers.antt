use Rattle.std.proofs.Common.{◌≡◌, ◌+◌, [], ◌∷◌, ◌++◌, length, take, drop, arith, below_more, refl, ap, ◌∙◌, sym}
use Rattle.std.proofs.lemmas.List.{take_more, take-append-drop}
use Rattle.std.proofs.lemmas.List.Sums.{sum_by_push, sum_by-append}
use Rattle.std.proofs.lemmas.Bool.{iff_false}
use Rattle.std.proofs.lemmas.Option.{slice_get_read}
use Rattle.rulebook_order.proofs.Reached.{width_reached}
use Rattle.certificate_checker.specs.GoodCertificate.{links_of}
use Rattle.rulebook_order.specs.VectorOrder.{Holds}
use Rattle.certificate_checker.proofs.Pairs.{HasLinks-here}
use Rattle.certificate_checker.proofs.labels.unlinked_label.Goals as goal

pub is_linked-requires-clause-widths : goal.is_linked-requires-clause-widths
is_linked-requires-clause-widths g c = λ k s v at. width_reached (g.G.StepGraph.graph c.args.graph.now) (g.met.G.StepGraph.laws c.args.graph.now) s v (c.requires.reached k s v at) ∙ c.requires.order

pub returns-then-not-branch-clause-failing : goal.returns-then-not-branch-clause-failing
returns-then-not-branch-clause-failing g c =
    let label_at = slice_get_read c.args.labels.now (length c.args.labels.now) c.loop-k.k c.index-labels-k.result refl c.loop-k-test.true c.index-labels-k.is in
    let pair_at = slice_get_read c.args.pairs.now (length c.args.pairs.now) c.loop-k.k c.index-pairs-k.result refl (omega arith) c.index-pairs-k.is in
    let linked = rw (c.as_slice-links.ensures, sym c.index-labels-k.is) at c.in_ok-is_linked.ensures.linked in
    record {
      below = c.loop-k-test.true;
      fails = λ h. iff_false linked c.if-not-branch.true (h c.index-labels-k.result c.index-pairs-k.result.0 c.index-pairs-k.result.1 label_at pair_at);
      before = c.loop-k.invariant.linked;
    }

pub returns-then-not-branch-clause-steps : goal.returns-then-not-branch-clause-steps
returns-then-not-branch-clause-steps g c =
    let label = c.index-labels-k.result in
    let k = c.loop-k.k in
    let labels = c.args.labels.now in
    let more : take (k + 1) labels ≡ take k labels ++ label ∷ [] = take_more labels k label c.loop-k-test.true ∙ ap (λ x. take k labels ++ x ∷ []) (sym c.index-labels-k.is) in
    let sum = sum_by_push (λ l. length l.links) (take k labels) label in
    let first : links_of (take (k + 1) labels) ≡ links_of (take k labels) + length label.links = rw (more, sum) refl in
    let both = sum_by-append (λ l. length l.links) (take (k + 1) labels) (drop (k + 1) labels) in
    let all : links_of labels ≡ links_of (take (k + 1) labels) + links_of (drop (k + 1) labels) = ap links_of (sym (take-append-drop (k + 1) labels)) ∙ both in
    let taken = rw (c.as_slice-links.ensures, sym c.index-labels-k.is) at c.is_linked.ensures.steps in
    omega (arith, taken, first, all)

pub returns-in_err-is_linked-clause-steps : goal.returns-in_err-is_linked-clause-steps
returns-in_err-is_linked-clause-steps g c =
    let label = c.index-labels-k.result in
    let k = c.loop-k.k in
    let labels = c.args.labels.now in
    let more : take (k + 1) labels ≡ take k labels ++ label ∷ [] = take_more labels k label c.loop-k-test.true ∙ ap (λ x. take k labels ++ x ∷ []) (sym c.index-labels-k.is) in
    let sum = sum_by_push (λ l. length l.links) (take k labels) label in
    let first : links_of (take (k + 1) labels) ≡ links_of (take k labels) + length label.links = rw (more, sum) refl in
    let both = sum_by-append (λ l. length l.links) (take (k + 1) labels) (drop (k + 1) labels) in
    let all : links_of labels ≡ links_of (take (k + 1) labels) + links_of (drop (k + 1) labels) = ap links_of (sym (take-append-drop (k + 1) labels)) ∙ both in
    let taken = rw (c.as_slice-links.ensures, sym c.index-labels-k.is) at c.is_linked.ensures.steps in
    omega (arith, taken, first, all)

pub loop-k-preserved : goal.loop-k-preserved
loop-k-preserved g c =
    let graph = g.G.StepGraph.graph c.args.graph.now in
    let no_worse = Holds (g.O.VectorOrder.no_worse c.args.order.now) in
    let label = c.index-labels-k.result in
    let k = c.loop-k.k in
    let label_at = slice_get_read c.args.labels.now (length c.args.labels.now) k label refl c.loop-k-test.true c.index-labels-k.is in
    let pair_at = slice_get_read c.args.pairs.now (length c.args.pairs.now) k c.index-pairs-k.result refl (omega arith) c.index-pairs-k.is in
    let linked = rw (c.as_slice-links.ensures, sym c.index-labels-k.is) at c.in_ok-is_linked.ensures.linked in
    let more : take (k + 1) c.args.labels.now ≡ take k c.args.labels.now ++ label ∷ [] = take_more c.args.labels.now k label c.loop-k-test.true ∙ ap (λ x. take k c.args.labels.now ++ x ∷ []) (sym c.index-labels-k.is) in
    let sum = sum_by_push (λ l. length l.links) (take k c.args.labels.now) label in
    let taken = rw (c.as_slice-links.ensures, sym c.index-labels-k.is) at c.is_linked.ensures.steps in
    record {
      linked = below_more _ _ c.loop-k.invariant.linked (HasLinks-here graph no_worse c.args.pairs.now c.args.labels.now k label c.index-pairs-k.result label_at pair_at (linked.0 c.if-not-branch.false));
      steps = rw (more, sum) (omega (arith, taken));
    }
