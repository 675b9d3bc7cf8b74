use Rattle.std.proofs.Common.{◌≡◌, [], length, refl, sym, ◌∙◌, arith}
use Rattle.std.proofs.lemmas.List.{take_all}
use Rattle.std.proofs.lemmas.Bool.{both_ways}
use Rattle.std.proofs.lemmas.Option.{slice_get_read}
use Rattle.std.proofs.lemmas.List.Elements.{All-nil, All-contains}
use Rattle.rulebook_order.specs.Graph.{IsReached}
use Rattle.rulebook_order.proofs.Lists.{Contains-from_slice_get}
use Rattle.rulebook_order.proofs.Reached.{width_finished}
use Rattle.label_search.specs.Linking.{IsFinalOf, IsAnswered}
use Rattle.label_search.proofs.GoalLabels.{final_widths, finals_left, answers_more}
use Rattle.label_search.proofs.finals.finals_of.Goals as goal
use Rattle.label_search.proofs.finals.finals_of.Goals.{then-is_goal+in_ok-vector+in_ok-finals, else-is_goal}

pub loop-number-init : goal.loop-number-init
loop-number-init g c =
    let graph = g.G.StepGraph.graph c.args.graph.now in
    rw c.new-finals.ensures.items (record {
      from = All-nil (IsFinalOf graph c.args.arrivals.now);
      apart = λ i j d below inside. absurd (omega arith);
      answers = All-nil (IsAnswered graph (g.O.VectorOrder.no_worse c.args.order.now) []);
    })

pub put-requires-clause-widths : goal.put-requires-clause-widths
put-requires-clause-widths g c =
    rw (← c.requires.order) (final_widths (g.G.StepGraph.graph c.args.graph.now) (g.met.G.StepGraph.laws c.args.graph.now) c.args.arrivals.now c.requires.reached c.loop-number.finals.items c.loop-number.invariant.from)

pub put-requires-clause-width : goal.put-requires-clause-width
put-requires-clause-width g c =
    let graph = g.G.StepGraph.graph c.args.graph.now in
    let arrivals = c.args.arrivals.now in
    let x = c.index-arrivals-number.result in
    let at = slice_get_read arrivals (length arrivals) c.loop-number.number x refl c.loop-number-test.true c.index-arrivals-number.is in
    let r = All-contains (λ y. IsReached graph y.state y.vector) arrivals x c.requires.reached (Contains-from_slice_get arrivals c.loop-number.number x at) in
    rw (c.in_ok-vector.ensures {u = tt}) (width_finished graph (g.met.G.StepGraph.laws c.args.graph.now) x.state x.vector r ∙ c.requires.order)

pub loop-number-preserved : goal.loop-number-preserved
loop-number-preserved g c =
    let graph = g.G.StepGraph.graph c.args.graph.now in
    let laws = g.met.G.StepGraph.laws c.args.graph.now in
    let no_worse = g.O.VectorOrder.no_worse c.args.order.now in
    let arrivals = c.args.arrivals.now in
    let n = c.loop-number.number in
    let x = c.index-arrivals-number.result in
    let finals = c.loop-number.finals.items in
    let was = c.loop-number.invariant in
    let at = slice_get_read arrivals (length arrivals) n x refl c.loop-number-test.true c.index-arrivals-number.is in
    elim c.if-is_goal.branch [
      | then-is_goal+in_ok-vector+in_ok-finals w ↦
          let put = w.in_ok-finals.ensures {u = tt} in
          let vector = w.in_ok-vector.ensures {u = tt} in
          let goal_is : graph.goal x.state ≡ _ = sym c.is_goal.ensures ∙ w.if-is_goal.true in
          let keeps = rw (← c.requires.order) at put.keeps in
          rw w.finals-is (record {
            from = finals_left graph laws arrivals c.requires.reached finals w.in_ok-finals.finals.items (record { vector = w.in_ok-vector.vector; number = n }) was.from (record { arrival = x; arrival_is = at; at_goal = goal_is; vector_is = vector }) put.from;
            apart = put.apart;
            answers = answers_more graph laws arrivals c.requires.reached no_worse finals w.in_ok-finals.finals.items n x c.loop-number-test.true c.index-arrivals-number.is was.answers keeps (λ goal. rw vector at put.covers);
          })
      | else-is_goal w ↦
          let off = sym c.is_goal.ensures ∙ w.if-is_goal.false in
          rw w.finals-is (record {
            from = was.from;
            apart = was.apart;
            answers = answers_more graph laws arrivals c.requires.reached no_worse finals finals n x c.loop-number-test.true c.index-arrivals-number.is was.answers (λ v wide h. h) (λ goal. absurd (both_ways (graph.goal x.state) off goal));
          })
    ]

pub returns : goal.returns
returns g c =
    let was = c.loop-number.invariant in
    let all = take_all c.loop-number.number c.args.arrivals.now c.loop-number-test.false in
    record { from = was.from; apart = was.apart; answers = rw all at was.answers }
