use Rattle.std.proofs.Common.{◌<◌, ◌^◌, length, take, refl, sym, ◌∙◌, arith, rules, below_more, length-take}
use Rattle.std.proofs.lemmas.Bool.{iff_false}
use Rattle.std.proofs.lemmas.Option.{slice_get_read}
use Rattle.rulebook_order.specs.VectorOrder.{Holds}
use Rattle.rulebook_order.proofs.GoalCount.{goals_in-goal, goals_in-other}
use Rattle.certificate_checker.proofs.Ends.{goals_in-le, end_pair, pairs_and, link_here, link_off}
use Rattle.certificate_checker.proofs.finals.unanswered_goal.Goals as goal
use Rattle.certificate_checker.proofs.finals.unanswered_goal.Goals.{then-is_goal+else-not-is_answered, else-is_goal}

pub is_goal-requires : goal.is_goal-requires
is_goal-requires g c =
    let p = c.index-pairs-k.result in
    let at = slice_get_read c.args.pairs.now (length c.args.pairs.now) c.loop-k.k p refl c.loop-k-test.true c.index-pairs-k.is in
    (p.1, c.requires.reached c.loop-k.k p.0 p.1 at)

pub overflow_add-j : goal.overflow_add-j
overflow_add-j g c =
    let graph = g.G.StepGraph.graph c.args.graph.now in
    let few = goals_in-le graph (take c.loop-k.k c.args.pairs.now) in
    let size = length-take c.loop-k.k c.args.pairs.now in
    let below : c.loop-k.j < 2 ^ 32 = omega (arith, c.loop-k.invariant.count) in
    search rules

pub returns-then-not-is_answered : goal.returns-then-not-is_answered
returns-then-not-is_answered g c =
    let graph = g.G.StepGraph.graph c.args.graph.now in
    let pairs = c.args.pairs.now in
    let k = c.loop-k.k in
    let p = c.index-pairs-k.result in
    let at = slice_get_read pairs (length pairs) k p refl c.loop-k-test.true c.index-pairs-k.is in
    let end = end_pair graph pairs c.args.ends.now c.requires.ends k p.0 p.1 c.index-ends-k.result at c.index-ends-k.is in
    record {
      below = c.loop-k-test.true;
      fails = λ h. iff_false c.is_answered.ensures c.if-not-is_answered.true (rw (c.as_slice.ensures.value, end, c.loop-k.invariant.count) (h p.0 p.1 at (sym c.is_goal.ensures ∙ c.if-is_goal.true)));
      before = c.loop-k.invariant.answered;
    }

pub loop-k-preserved : goal.loop-k-preserved
loop-k-preserved g c =
    let graph = g.G.StepGraph.graph c.args.graph.now in
    let IsNoWorse = Holds (g.O.VectorOrder.no_worse c.args.order.now) in
    let pairs = c.args.pairs.now in
    let finals = c.args.finals.now in
    let links = c.args.goal_links.now in
    let k = c.loop-k.k in
    let p = c.index-pairs-k.result in
    let was = c.loop-k.invariant in
    let at = slice_get_read pairs (length pairs) k p refl c.loop-k-test.true c.index-pairs-k.is in
    let more = pairs_and graph pairs IsNoWorse finals links k p at in
    elim c.if-is_goal.branch [
      | then-is_goal+else-not-is_answered w ↦
          let end = end_pair graph pairs c.args.ends.now c.requires.ends k p.0 p.1 w.index-ends-k.result at w.index-ends-k.is in
          let one = goals_in-goal graph (take k pairs) p (sym c.is_goal.ensures ∙ w.if-is_goal.true) in
          let answered = rw (w.as_slice.ensures.value, end, was.count) at (w.is_answered.ensures.0 w.if-not-is_answered.false) in
          record {
            answered = below_more _ _ was.answered (link_here graph pairs IsNoWorse finals links k p at answered);
            count = rw (w.j-is, more, one) (omega (arith, was.count));
          }
      | else-is_goal w ↦
          let off = sym c.is_goal.ensures ∙ w.if-is_goal.false in
          let same = goals_in-other graph (take k pairs) p off in
          record {
            answered = below_more _ _ was.answered (link_off graph pairs IsNoWorse finals links k p at off);
            count = rw (w.j-is, more, same) was.count;
          }
    ]
