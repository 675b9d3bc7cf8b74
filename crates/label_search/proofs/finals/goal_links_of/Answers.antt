use Rattle.std.proofs.Common.{[], ◌∷◌, length, take, refl, sym, ◌∙◌, subst, arith, length-append}
use Rattle.std.specs.Prelude.{map, IsTrue}
use Rattle.std.proofs.lemmas.List.{take_all, length-map}
use Rattle.std.proofs.lemmas.Option.{same_Some, slice_get_read, slice_get_within}
use Rattle.std.proofs.lemmas.List.Elements.{All-contains}
use Rattle.rulebook_order.proofs.Lists.{Contains-from_slice_get}
use Rattle.rulebook_order.proofs.GoalCount.{goals_in-goal, goals_in-other}
use Rattle.label_search.specs.declared.arrival.Arrival.{Arrival}
use Rattle.label_search.specs.Linking.{IsAnswered}
use Rattle.label_search.specs.Search.{pair_of}
use Rattle.label_search.proofs.GoalLabels.{pairs_more, goal_linked_push, goal_linked_skip}
use Rattle.label_search.proofs.finals.goal_links_of.Goals as goal
use Rattle.label_search.proofs.finals.goal_links_of.Goals.{then-is_goal+in_ok-link+in_ok-push, else-is_goal}

pub loop-number-init : goal.loop-number-init
loop-number-init g c = rw c.new-links.ensures (record { next = omega arith; count = refl; linked = λ k below. absurd (omega arith) })

pub link_of-requires-clause-answered : goal.link_of-requires-clause-answered
link_of-requires-clause-answered g c = λ x at.
    let graph = g.G.StepGraph.graph c.args.graph.now in
    let arrivals = c.args.arrivals.now in
    let same = same_Some _ _ (sym (slice_get_read arrivals (length arrivals) c.loop-number.number c.index-arrivals-number.result refl c.loop-number-test.true c.index-arrivals-number.is) ∙ at) in
    All-contains (IsAnswered graph (g.O.VectorOrder.no_worse c.args.order.now) c.args.finals.now) arrivals x c.requires.answered (Contains-from_slice_get arrivals c.loop-number.number x at)
    (subst (λ (y : Arrival g.row.G-State.Denot). IsTrue (graph.goal y.state)) same (sym c.is_goal.ensures ∙ c.if-is_goal.true))

pub loop-number-preserved : goal.loop-number-preserved
loop-number-preserved g c =
    let graph = g.G.StepGraph.graph c.args.graph.now in
    let no_worse = g.O.VectorOrder.no_worse c.args.order.now in
    let arrivals = c.args.arrivals.now in
    let finals = c.args.finals.now in
    let n = c.loop-number.number in
    let x = c.index-arrivals-number.result in
    let links = c.loop-number.links in
    let was = c.loop-number.invariant in
    let at = slice_get_read arrivals (length arrivals) n x refl c.loop-number-test.true c.index-arrivals-number.is in
    let more = pairs_more graph no_worse arrivals finals n x at in
    elim c.if-is_goal.branch [
      | then-is_goal+in_ok-link+in_ok-push w ↦
          let pushed = (w.in_ok-push.ensures {u = tt}).ok in
          let found = w.in_ok-link.ensures {u = tt} x at in
          let one = goals_in-goal graph (take n (map pair_of arrivals)) (pair_of x) (sym c.is_goal.ensures ∙ w.if-is_goal.true) in
          rw (w.links-is, w.next-is, pushed) (record {
            next = w.next_after-next.ensures;
            count = rw (more, one) (omega (arith, length-append links (w.in_ok-link.link ∷ []), was.count));
            linked = goal_linked_push graph no_worse arrivals finals n x at links w.in_ok-link.link was.count found.0 found.1 was.linked;
          })
      | else-is_goal w ↦
          let off = sym c.is_goal.ensures ∙ w.if-is_goal.false in
          let same = goals_in-other graph (take n (map pair_of arrivals)) (pair_of x) off in
          rw (w.links-is, w.next-is) (record {
            next = omega (arith, was.next);
            count = rw (more, same) was.count;
            linked = goal_linked_skip graph no_worse arrivals finals n x at links off was.linked;
          })
    ]

pub returns : goal.returns
returns g c =
    let graph = g.G.StepGraph.graph c.args.graph.now in
    let arrivals = c.args.arrivals.now in
    let n = c.loop-number.number in
    let was = c.loop-number.invariant in
    let all = take_all n (map pair_of arrivals) (omega (arith, length-map arrivals (λ (x : Arrival g.row.G-State.Denot). pair_of x), c.loop-number-test.false)) in
    record {
      count = rw all at was.count;
      linked = λ k x at. was.linked k (let h = slice_get_within arrivals k x at in omega arith) x at;
    }
