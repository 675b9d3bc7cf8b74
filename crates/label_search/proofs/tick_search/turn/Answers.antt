use Rattle.std.proofs.Common.{◌≡◌, ◌+◌, ◌<◌, List, [], ◌∷◌, ◌++◌, length, take, refl, sym, ap, ◌∙◌, arith, append_assoc, subst}
use Rattle.std.specs.Prelude.{Contains, nat_eq, slice_get, Some}
use Rattle.label_search.specs.declared.arrival.Arrival.{Arrival}
use Rattle.std.proofs.Math.ListN.{length-append}
use Rattle.std.proofs.lemmas.List.{take_all, take_more}
use Rattle.std.proofs.lemmas.List.Sums.{sum_by-append}
use Rattle.std.proofs.lemmas.List.Elements.{All-contains, All-weaker}
use Rattle.rulebook_order.specs.Graph.{IsReached}
use Rattle.rulebook_order.specs.VectorOrder.{IsVectorOrder}
use Rattle.rulebook_order.proofs.Reached.{width_reached}
use Rattle.label_search.specs.Index.{items_at}
use Rattle.label_search.specs.Search.{extensions_from}
use Rattle.rulebook_order.proofs.Lists.{Contains-from_slice_get}
use Rattle.label_search.specs.Settling.{IsAtPlace}
use Rattle.label_search.proofs.Places.{places_within}
use Rattle.label_search.proofs.Turns.{reached_extensions, IsSearched-at_places, extensions_from-snoc}
use Rattle.label_search.proofs.Undominated.{HasMore-labels}
use Rattle.label_search.proofs.tick_search.turn.Goals as goal

pub settle-requires-clause-widths : goal.settle-requires-clause-widths
settle-requires-clause-widths g c =
    let graph = g.G.StepGraph.graph c.args.graph.now in
    let searched = c.requires.searched in
    rw (c.as_slice.ensures.value, searched.extensions_are) (All-weaker (λ x. IsReached graph x.state x.vector) (λ x. length x.vector ≡ g.O.VectorOrder.rules c.args.order.now)
    (λ x r. width_reached graph (g.met.G.StepGraph.laws c.args.graph.now) x.state x.vector r ∙ c.requires.order)
    (extensions_from graph 0 c.args.labels.now.items) (reached_extensions graph c.args.labels.now.items searched.reached))

pub settle-requires-clause-places : goal.settle-requires-clause-places
settle-requires-clause-places g c = rw (c.items_of.ensures, c.as_slice.ensures.value) (places_within (g.G.StepGraph.graph c.args.graph.now) c.args.waiting.now.items c.args.tick (items_at nat_eq c.args.by_tick.now c.args.tick) (c.requires.indexed c.args.tick))

pub settle-requires-clause-rising : goal.settle-requires-clause-rising
settle-requires-clause-rising g c = rw c.items_of.ensures (c.requires.indexed c.args.tick).rising

pub returns-then-len-limit-clause-many : goal.returns-then-len-limit-clause-many
returns-then-len-limit-clause-many g c = λ _.
    let graph = g.G.StepGraph.graph c.args.graph.now in
    let no_worse = g.O.VectorOrder.no_worse c.args.order.now in
    let laws = g.met.G.StepGraph.laws c.args.graph.now in
    let order : IsVectorOrder graph.width no_worse = rw c.requires.order (g.met.O.VectorOrder.laws c.args.order.now) in
    let labels = c.args.labels.now.items in
    let kept = c.in_ok-kept.kept.items in
    let settle = c.in_ok-kept.ensures {u = tt} in
    let from = rw (c.as_slice.ensures.value, c.items_of.ensures) at settle.from in
    let covers = rw (c.as_slice.ensures.value, c.items_of.ensures) at settle.covers in
    let waiting = c.args.waiting.now.items in
    let places = items_at nat_eq c.args.by_tick.now c.args.tick in
    let searched = IsSearched-at_places graph no_worse laws order c.args.tick c.requires.tick labels waiting kept c.requires.searched places (c.requires.indexed c.args.tick) from settle.apart covers in
    let long : c.args.limit < length (labels ++ kept) = omega (arith, length-append labels kept) in
    (HasMore-labels graph no_worse laws order (c.args.tick + 1) (labels ++ kept) (c.args.waiting.now.items ++ extensions_from graph (length labels) kept) searched c.args.limit long, refl, refl)

pub extend_label-requires-clause-reached : goal.extend_label-requires-clause-reached
extend_label-requires-clause-reached g c =
    let graph = g.G.StepGraph.graph c.args.graph.now in
    let item = c.label-item.result in
    let place : Contains c.as_slice-settled.result.now item = (c.loop-label.label-index, c.loop-label-test.true, sym c.label-item.is) in
    let listed = rw c.as_slice-settled.ensures.value at place in
    let settle = c.in_ok-kept.ensures {u = tt} in
    let from = All-contains (IsAtPlace c.as_slice.result.now c.items_of.result.now) c.in_ok-kept.kept.items item settle.from listed in
    let at = subst (λ (ws : List (Arrival g.row.G-State.Denot)). slice_get ws from.place ≡ Some item) (c.as_slice.ensures.value ∙ c.requires.searched.extensions_are) from.arrival_is in
    let labels = c.args.labels.now.items in
    All-contains (λ x. IsReached graph x.state x.vector) (extensions_from graph 0 labels) item (reached_extensions graph labels c.requires.searched.reached) (Contains-from_slice_get (extensions_from graph 0 labels) from.place item at)

pub loop-label-preserved : goal.loop-label-preserved
loop-label-preserved g c =
    let graph = g.G.StepGraph.graph c.args.graph.now in
    let item = c.label-item.result in
    let settled = c.as_slice-settled.result.now in
    let i = c.loop-label.label-index in
    let n = length c.args.labels.now.items in
    let more : take (i + 1) settled ≡ take i settled ++ item ∷ [] = take_more settled i item c.loop-label-test.true ∙ ap (λ x. take i settled ++ x ∷ []) (sym c.label-item.is) in
    let number : c.len-number.result ≡ n + length (take i settled) = omega (arith, ap length c.loop-label.invariant.labels, length-append c.args.labels.now.items (take i settled)) in
    let snoc = extensions_from-snoc graph n (take i settled) item in
    let sum = sum_by-append (λ x. graph.choices x.state) (take i settled) (item ∷ []) in
    let extended = c.in_ok-extend_label.ensures {u = tt} in
    record {
      labels = rw (c.in_ok-push.ensures.items, c.loop-label.invariant.labels, c.in_ok-copy_of.ensures {u = tt}, more, append_assoc) refl;
      waiting = rw (extended.items, c.loop-label.invariant.waiting, more, snoc, number, append_assoc) refl;
      indexed = extended.indexed;
      steps = rw (more, sum) (omega (arith, extended.steps));
    }

pub returns-clause-searched : goal.returns-clause-searched
returns-clause-searched g c = λ _.
    let graph = g.G.StepGraph.graph c.args.graph.now in
    let no_worse = g.O.VectorOrder.no_worse c.args.order.now in
    let laws = g.met.G.StepGraph.laws c.args.graph.now in
    let order : IsVectorOrder graph.width no_worse = rw c.requires.order (g.met.O.VectorOrder.laws c.args.order.now) in
    let labels = c.args.labels.now.items in
    let kept = c.in_ok-kept.kept.items in
    let settle = c.in_ok-kept.ensures {u = tt} in
    let from = rw (c.as_slice.ensures.value, c.items_of.ensures) at settle.from in
    let covers = rw (c.as_slice.ensures.value, c.items_of.ensures) at settle.covers in
    let waiting = c.args.waiting.now.items in
    let places = items_at nat_eq c.args.by_tick.now c.args.tick in
    let searched = IsSearched-at_places graph no_worse laws order c.args.tick c.requires.tick labels waiting kept c.requires.searched places (c.requires.indexed c.args.tick) from settle.apart covers in
    let all : take c.loop-label.label-index c.as_slice-settled.result.now ≡ kept = take_all c.loop-label.label-index c.as_slice-settled.result.now c.loop-label-test.false ∙ c.as_slice-settled.ensures.value in
    rw (c.loop-label.invariant.labels, c.loop-label.invariant.waiting, all) searched

pub returns-clause-within : goal.returns-clause-within
returns-clause-within g c = λ _.
    let labels = c.args.labels.now.items in
    let kept = c.in_ok-kept.kept.items in
    let all : take c.loop-label.label-index c.as_slice-settled.result.now ≡ kept = take_all c.loop-label.label-index c.as_slice-settled.result.now c.loop-label-test.false ∙ c.as_slice-settled.ensures.value in
    rw (c.loop-label.invariant.labels, all) (omega (arith, length-append labels kept))
