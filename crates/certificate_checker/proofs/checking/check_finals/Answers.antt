use Rattle.std.proofs.Common.{◌≡◌, length, ap, ◌∙◌, arith}
use Rattle.std.specs.Prelude.{slice_index_or}
use Rattle.std.proofs.lemmas.Option.{slice_get-get_or}
use Rattle.rulebook_order.specs.VectorOrder.{Holds}
use Rattle.certificate_checker.specs.Failing.{stray_final, no_goal_link, crowded_final}
use Rattle.certificate_checker.specs.Labels.{AreReached}
use Rattle.certificate_checker.proofs.Conditions.{reached_of, ends_wide, finals_within}
use Rattle.certificate_checker.proofs.Ends.{length-ends}
use Rattle.certificate_checker.proofs.Pairs.{length-pairs_of}
use Rattle.certificate_checker.proofs.checking.check_finals.Goals as goal

pub stray_final-requires : goal.stray_final-requires
stray_final-requires g c =
    let graph = g.G.StepGraph.graph c.args.graph.now in
    record { reached = rw c.requires.pairs (reached_of graph (Holds (g.O.VectorOrder.no_worse c.args.order.now)) c.args.cert.now.labels c.requires.linked) }

pub marks-requires : goal.marks-requires
marks-requires g c = λ k d inside.
    let graph = g.G.StepGraph.graph c.args.graph.now in
    let size : length c.args.ends.now ≡ length c.args.pairs.now = ap length c.requires.ends ∙ length-ends graph c.args.pairs.now in
    let within = finals_within graph c.args.pairs.now c.as_slice-finals.result.now c.in_default.ensures k d inside in
    omega (arith, size, within)

pub unanswered_goal-requires : goal.unanswered_goal-requires
unanswered_goal-requires g c =
    let graph = g.G.StepGraph.graph c.args.graph.now in
    let pairs = c.args.pairs.now in
    let size : length c.args.ends.now ≡ length pairs = ap length c.requires.ends ∙ length-ends graph pairs in
    let reached : AreReached graph pairs = rw c.requires.pairs (reached_of graph (Holds (g.O.VectorOrder.no_worse c.args.order.now)) c.args.cert.now.labels c.requires.linked) in
    let wide = ends_wide graph (g.met.G.StepGraph.laws c.args.graph.now) pairs reached in
    let marks = c.in_ok-marks.ensures {u = tt} in
    record {
      count = omega (arith, ap length c.requires.pairs, length-pairs_of graph c.args.cert.now.labels, c.requires.count);
      reached = reached;
      ends = c.requires.ends;
      widths = rw (c.requires.ends, ← c.requires.order) wide;
      labels = λ k d inside. (let within = finals_within graph pairs c.as_slice-finals.result.now c.in_default.ensures k d inside in omega (arith, size, within));
      marks = rw c.as_slice.ensures.value marks.marks;
      length = rw c.as_slice.ensures.value marks.length;
    }

pub crowded_final-requires : goal.crowded_final-requires
crowded_final-requires g c =
    let graph = g.G.StepGraph.graph c.args.graph.now in
    let pairs = c.args.pairs.now in
    let size : length c.args.ends.now ≡ length pairs = ap length c.requires.ends ∙ length-ends graph pairs in
    let reached : AreReached graph pairs = rw c.requires.pairs (reached_of graph (Holds (g.O.VectorOrder.no_worse c.args.order.now)) c.args.cert.now.labels c.requires.linked) in
    let wide = ends_wide graph (g.met.G.StepGraph.laws c.args.graph.now) pairs reached in
    record {
      ends = c.requires.ends;
      widths = rw (c.requires.ends, ← c.requires.order) wide;
      labels = λ k d inside. (let within = finals_within graph pairs c.as_slice-finals.result.now c.in_default.ensures k d inside in omega (arith, size, within));
    }

pub returns-in-Some-clause-rejected : goal.returns-in-Some-clause-rejected
returns-in-Some-clause-rejected g c =
    let failing = rw (c.requires.pairs, c.as_slice-finals.ensures) at c.in-Some.ensures in
    let finals = c.args.cert.now.finals in
    let j = c.in-Some.j in
    rw c.as_slice-finals.ensures (stray_final j (slice_index_or finals j 0) c.requires.linked failing (slice_get-get_or finals j 0 failing.below))

pub returns-in-Some-unanswered_goal-clause-rejected : goal.returns-in-Some-unanswered_goal-clause-rejected
returns-in-Some-unanswered_goal-clause-rejected g c =
    let graph = g.G.StepGraph.graph c.args.graph.now in
    let none = rw (c.requires.pairs, c.as_slice-finals.ensures) at c.in_default.ensures in
    let failing = rw (c.requires.pairs, c.as_slice-finals.ensures, c.as_slice-goal_links.ensures, length-pairs_of graph c.args.cert.now.labels) at c.in-Some-unanswered_goal.ensures in
    no_goal_link c.in-Some-unanswered_goal.label c.requires.linked none failing

pub returns-in-Some-crowded_final-clause-rejected : goal.returns-in-Some-crowded_final-clause-rejected
returns-in-Some-crowded_final-clause-rejected g c =
    let graph = g.G.StepGraph.graph c.args.graph.now in
    let none = rw (c.requires.pairs, c.as_slice-finals.ensures) at c.in_default.ensures in
    let linked = rw (c.requires.pairs, c.as_slice-finals.ensures, c.as_slice-goal_links.ensures, length-pairs_of graph c.args.cert.now.labels) at c.in_default-unanswered_goal.ensures in
    let failing = rw (c.requires.pairs, c.as_slice-finals.ensures) at c.in-Some-crowded_final.ensures in
    let finals = c.args.cert.now.finals in
    let j = c.in-Some-crowded_final.j in
    rw c.as_slice-finals.ensures (crowded_final j (slice_index_or finals j 0) c.requires.linked none linked failing (slice_get-get_or finals j 0 failing.below))

pub returns-clause-answered : goal.returns-clause-answered
returns-clause-answered g c =
    let graph = g.G.StepGraph.graph c.args.graph.now in
    record {
      finals = rw (c.requires.pairs, c.as_slice-finals.ensures) at c.in_default.ensures;
      goal_links = rw (c.requires.pairs, c.as_slice-finals.ensures, c.as_slice-goal_links.ensures, length-pairs_of graph c.args.cert.now.labels) at c.in_default-unanswered_goal.ensures;
      apart = rw (c.requires.pairs, c.as_slice-finals.ensures) at c.in_default-crowded_final.ensures;
    }
