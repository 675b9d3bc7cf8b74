use Rattle.std.proofs.Common.{arith}
use Rattle.rulebook_order.proofs.Counting.{not_both}
use Rattle.label_search.specs.Found.{pairs_of}
use Rattle.rulebook_order.specs.VectorOrder.{Holds}
use Rattle.label_search.proofs.Whole.{length-pairs, steps_each}
use Rattle.label_search.proofs.searching.search.Goals as goal

pub returns-in-None-clause-steps_each : goal.returns-in-None-clause-steps_each
returns-in-None-clause-steps_each g c = steps_each (g.G.StepGraph.graph c.args.graph.now) (Holds (g.O.VectorOrder.no_worse c.args.order.now)) c.args.limit c.args.steps.now c.search_labels.new.steps (c.in_ok-search_labels.ensures {u = tt}).steps

pub returns-in_ok-linked-in-Some-clause-steps_each : goal.returns-in_ok-linked-in-Some-clause-steps_each
returns-in_ok-linked-in-Some-clause-steps_each g c = steps_each (g.G.StepGraph.graph c.args.graph.now) (Holds (g.O.VectorOrder.no_worse c.args.order.now)) c.args.limit c.args.steps.now c.search_labels.new.steps (c.in_ok-search_labels.ensures {u = tt}).steps

pub returns-in_ok-linked-in-Some-clause-not_too_many : goal.returns-in_ok-linked-in-Some-clause-not_too_many
returns-in_ok-linked-in-Some-clause-not_too_many g c =
    let made = c.in_ok-linked-in-Some.ensures {u = tt} in
    let found = c.in_ok-linked-in-Some.field-0 in
    let within = rw c.in-Some.is at (c.in_ok-search_labels.ensures {u = tt}).within in
    not_both (g.G.StepGraph.graph c.args.graph.now) (Holds (g.O.VectorOrder.no_worse c.args.order.now)) (pairs_of found.labels) c.args.limit made.labels (omega (arith, made.count, within, length-pairs found.labels))
