use Rattle.std.proofs.Common.{length, ap, arith}
use Rattle.rulebook_order.specs.VectorOrder.{Holds}
use Rattle.certificate_checker.specs.Failing.{surplus_links, surplus_goal_links}
use Rattle.certificate_checker.proofs.Conditions.{reached_of}
use Rattle.certificate_checker.proofs.Pairs.{length-pairs_of}
use Rattle.certificate_checker.proofs.checking.check_surplus.Goals as goal

pub surplus_label-requires : goal.surplus_label-requires
surplus_label-requires g c =
    let graph = g.G.StepGraph.graph c.args.graph.now in
    record {
      count = rw c.as_slice-labels.ensures c.requires.count;
      length = rw (c.as_slice-labels.ensures, c.requires.pairs) (length-pairs_of graph c.args.cert.now.labels);
      reached = rw c.requires.pairs (reached_of graph (Holds (g.O.VectorOrder.no_worse c.args.order.now)) c.args.cert.now.labels c.requires.linked);
    }

pub goals-requires : goal.goals-requires
goals-requires g c =
    let graph = g.G.StepGraph.graph c.args.graph.now in
    record {
      count = omega (arith, ap length c.requires.pairs, length-pairs_of graph c.args.cert.now.labels, c.requires.count);
      reached = rw c.requires.pairs (reached_of graph (Holds (g.O.VectorOrder.no_worse c.args.order.now)) c.args.cert.now.labels c.requires.linked);
    }

pub returns-in-Some-clause-rejected : goal.returns-in-Some-clause-rejected
returns-in-Some-clause-rejected g c =
    let failing = rw (c.as_slice-labels.ensures, c.requires.pairs) at c.in-Some.ensures in
    surplus_links c.in-Some.label c.requires.linked c.requires.answered failing

pub returns-then-as_slice-goals-clause-rejected : goal.returns-then-as_slice-goals-clause-rejected
returns-then-as_slice-goals-clause-rejected g c =
    let none = rw (c.as_slice-labels.ensures, c.requires.pairs) at c.in_default.ensures in
    let count = rw c.requires.pairs at c.goals.ensures in
    rw c.as_slice-labels.ensures (surplus_goal_links c.requires.linked c.requires.answered none (λ few. omega (arith, count, ap length c.as_slice.ensures)))
