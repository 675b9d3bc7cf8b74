use Rattle.std.proofs.Common.{◌≡◌, ℕ, ◌+◌, ◌≤◌, List, [], ◌∷◌, refl, sym, ap, subst, arith, append-nil}
use Rattle.std.specs.Prelude.{nat_eq}
use Rattle.rulebook_order.specs.Graph.{IsReached}
use Rattle.rulebook_order.specs.VectorOrder.{IsVectorOrder}
use Rattle.rulebook_order.proofs.Reached.{IsReached-first}
use Rattle.label_search.specs.Index.{items_at}
use Rattle.label_search.specs.Search.{extensions_from, start_arrival}
use Rattle.label_search.proofs.Groups.{items_at-empty}
use Rattle.label_search.proofs.Places.{AreByTick-none}
use Rattle.label_search.proofs.Turns.{IsSearched-first}
use Rattle.label_search.proofs.Undominated.{StepsWithin-labels}
use Rattle.label_search.proofs.tick_search.search_labels.Goals as goal

pub extend_label-requires-clause-reached : goal.extend_label-requires-clause-reached
extend_label-requires-clause-reached g c =
    let graph = g.G.StepGraph.graph c.args.graph.now in
    subst (λ (p : g.row.G-State.Denot × List ℕ). IsReached graph p.0 p.1) (sym (c.in_ok-state.ensures {u = tt})) (IsReached-first graph)

pub extend_label-requires-clause-indexed : goal.extend_label-requires-clause-indexed
extend_label-requires-clause-indexed g c = rw c.new-waiting.ensures.items (AreByTick-none (g.G.StepGraph.graph c.args.graph.now) (items_at nat_eq c.new-by_tick.result) (items_at-empty nat_eq c.new-by_tick.result c.new-by_tick.ensures.empty))

pub loop-past-init : goal.loop-past-init
loop-past-init g c =
    let graph = g.G.StepGraph.graph c.args.graph.now in
    let no_worse = g.O.VectorOrder.no_worse c.args.order.now in
    let laws = g.met.G.StepGraph.laws c.args.graph.now in
    let order : IsVectorOrder graph.width no_worse = rw c.requires.order (g.met.O.VectorOrder.laws c.args.order.now) in
    let s : c.in_ok-state.state ≡ graph.start = ap (λ p. p.0) (c.in_ok-state.ensures {u = tt}) in
    let v : c.in_ok-state.vector ≡ graph.first = ap (λ p. p.1) (c.in_ok-state.ensures {u = tt}) in
    let extended = c.in_ok-extend_label.ensures {u = tt} in
    let items : c.push.new.self.items ≡ start_arrival graph ∷ [] = rw (c.in_ok-push.ensures.items, c.new-labels.ensures.items, s, v) refl in
    let made : c.extend_label.new.waiting.items ≡ extensions_from graph 0 (start_arrival graph ∷ []) = rw (extended.items, c.new-waiting.ensures.items, s, v, append-nil) refl in
    let taken : c.extend_label.new.steps ≤ c.args.steps.now + graph.choices graph.start = rw s at extended.steps in
    record {
      searched = rw (items, made) (IsSearched-first graph no_worse laws order);
      indexed = extended.indexed;
      within = rw items (omega arith);
      steps = rw items (omega arith);
    }

pub returns-then-branch-clause-steps : goal.returns-then-branch-clause-steps
returns-then-branch-clause-steps g c =
    let graph = g.G.StepGraph.graph c.args.graph.now in
    let no_worse = g.O.VectorOrder.no_worse c.args.order.now in
    let laws = g.met.G.StepGraph.laws c.args.graph.now in
    let order : IsVectorOrder graph.width no_worse = rw c.requires.order (g.met.O.VectorOrder.laws c.args.order.now) in
    let was = c.loop-past.invariant in
    let same = ((c.in_ok-turn.ensures {u = tt}).many c.if-branch.true).1 in
    rw same (StepsWithin-labels graph no_worse laws order (c.loop-past.past + 1) c.loop-past.labels.items c.loop-past.waiting.items was.searched c.args.limit c.args.steps.now c.loop-past.steps was.within was.steps)

pub returns-clause-searched : goal.returns-clause-searched
returns-clause-searched g c =
    let graph = g.G.StepGraph.graph c.args.graph.now in
    let done : graph.last ≡ c.loop-past.past = omega arith in
    rw done c.loop-past.invariant.searched

pub returns-clause-steps : goal.returns-clause-steps
returns-clause-steps g c =
    let graph = g.G.StepGraph.graph c.args.graph.now in
    let no_worse = g.O.VectorOrder.no_worse c.args.order.now in
    let laws = g.met.G.StepGraph.laws c.args.graph.now in
    let order : IsVectorOrder graph.width no_worse = rw c.requires.order (g.met.O.VectorOrder.laws c.args.order.now) in
    let was = c.loop-past.invariant in
    StepsWithin-labels graph no_worse laws order (c.loop-past.past + 1) c.loop-past.labels.items c.loop-past.waiting.items was.searched c.args.limit c.args.steps.now c.loop-past.steps was.within was.steps

pub returns-then-branch-clause-too_many : goal.returns-then-branch-clause-too_many
returns-then-branch-clause-too_many g c = ((c.in_ok-turn.ensures {u = tt}).many c.if-branch.true).0

pub loop-past-preserved : goal.loop-past-preserved
loop-past-preserved g c =
    let turned = c.in_ok-turn.ensures {u = tt} in
    let go = c.if-branch.false in
    let was = c.loop-past.invariant in
    record { searched = turned.searched go; indexed = turned.indexed go; within = turned.within go; steps = omega (arith, was.steps, turned.steps) }
