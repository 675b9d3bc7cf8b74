use Rattle.std.proofs.Common.{◌≡◌, ◌+◌, ◌-◌, ◌≤◌, List, [], ◌∷◌, ◌++◌, length, take, drop, refl, sym, ap, ◌∙◌, arith, rules}
use Rattle.std.specs.Prelude.{map}
use Rattle.std.proofs.lemmas.List.{take_all, take_more, map-append}
use Rattle.std.proofs.lemmas.Option.{slice_get_read}
use Rattle.std.proofs.lemmas.List.Elements.{All-push, All-contains, All-weaker, All-take, All-drop}
use Rattle.rulebook_order.specs.Graph.{IsReached}
use Rattle.rulebook_order.specs.VectorOrder.{Holds}
use Rattle.rulebook_order.proofs.Reached.{width_reached}
use Rattle.label_search.specs.declared.label.Label.{Label}
use Rattle.label_search.specs.Candidates.{IsCovered}
use Rattle.label_search.specs.Found.{HasLinks}
use Rattle.label_search.specs.Index.{items_at}
use Rattle.label_search.specs.Linking.{arrival_of}
use Rattle.label_search.specs.Search.{IsCoveredAt, extensions_below, extensions_from, pair_of}
use Rattle.label_search.specs.declared.arrival.Arrival.{Arrival}
use Rattle.label_search.proofs.Groups.{widths_at}
use Rattle.label_search.proofs.Links.{own_fit, own_slice, next_more, count_links, links_are, numbers_fit, covered_there, told_own}
use Rattle.label_search.proofs.Turns.{reached_extensions}
use Rattle.label_search.proofs.linking.with_links.Goals as goal

pub loop-arrival-init : goal.loop-arrival-init
loop-arrival-init g c = rw c.new-labels.ensures (record { next = refl; arrivals = refl; links = λ k d inside. absurd (omega arith) })

pub choices-requires : goal.choices-requires
choices-requires g c =
    let graph = g.G.StepGraph.graph c.args.graph.now in
    let x = c.arrival-item.result in
    (x.vector, All-contains (λ y. IsReached graph y.state y.vector) c.args.arrivals.now x c.requires.reached (c.loop-arrival.arrival-index, c.loop-arrival-test.true, sym c.arrival-item.is))

pub overflow_add-end : goal.overflow_add-end
overflow_add-end g c =
    let graph = g.G.StepGraph.graph c.args.graph.now in
    let arrivals = c.args.arrivals.now in
    let x = c.arrival-item.result in
    let at = slice_get_read arrivals (length arrivals) c.loop-arrival.arrival-index x refl c.loop-arrival-test.true c.arrival-item.is in
    let fit : c.loop-arrival.next + c.choices.result ≤ length c.args.extensions.now = rw c.choices.ensures (own_fit graph arrivals c.args.extensions.now c.requires.extensions c.loop-arrival.arrival-index x at c.loop-arrival.next c.loop-arrival.invariant.next) in
    search rules

pub offset_bounds-extensions-next : goal.offset_bounds-extensions-next
offset_bounds-extensions-next g c =
    let graph = g.G.StepGraph.graph c.args.graph.now in
    let arrivals = c.args.arrivals.now in
    let x = c.arrival-item.result in
    let at = slice_get_read arrivals (length arrivals) c.loop-arrival.arrival-index x refl c.loop-arrival-test.true c.arrival-item.is in
    let fit : c.loop-arrival.next + c.choices.result ≤ length c.args.extensions.now = rw c.choices.ensures (own_fit graph arrivals c.args.extensions.now c.requires.extensions c.loop-arrival.arrival-index x at c.loop-arrival.next c.loop-arrival.invariant.next) in
    omega arith

pub slice_bounds-links_to-end : goal.slice_bounds-links_to-end
slice_bounds-links_to-end g c =
    let graph = g.G.StepGraph.graph c.args.graph.now in
    let arrivals = c.args.arrivals.now in
    let x = c.arrival-item.result in
    let at = slice_get_read arrivals (length arrivals) c.loop-arrival.arrival-index x refl c.loop-arrival-test.true c.arrival-item.is in
    let fit : c.loop-arrival.next + c.choices.result ≤ length c.args.extensions.now = rw c.choices.ensures (own_fit graph arrivals c.args.extensions.now c.requires.extensions c.loop-arrival.arrival-index x at c.loop-arrival.next c.loop-arrival.invariant.next) in
    search rules

pub slice_bounds-reached-end : goal.slice_bounds-reached-end
slice_bounds-reached-end g c =
    let graph = g.G.StepGraph.graph c.args.graph.now in
    let arrivals = c.args.arrivals.now in
    let x = c.arrival-item.result in
    let at = slice_get_read arrivals (length arrivals) c.loop-arrival.arrival-index x refl c.loop-arrival-test.true c.arrival-item.is in
    let fit : c.loop-arrival.next + c.choices.result ≤ length c.args.extensions.now = rw c.choices.ensures (own_fit graph arrivals c.args.extensions.now c.requires.extensions c.loop-arrival.arrival-index x at c.loop-arrival.next c.loop-arrival.invariant.next) in
    search rules

pub offset_bounds-deref-next : goal.offset_bounds-deref-next
offset_bounds-deref-next g c =
    let graph = g.G.StepGraph.graph c.args.graph.now in
    let arrivals = c.args.arrivals.now in
    let x = c.arrival-item.result in
    let at = slice_get_read arrivals (length arrivals) c.loop-arrival.arrival-index x refl c.loop-arrival-test.true c.arrival-item.is in
    let fit : c.loop-arrival.next + c.choices.result ≤ length c.args.extensions.now = rw c.choices.ensures (own_fit graph arrivals c.args.extensions.now c.requires.extensions c.loop-arrival.arrival-index x at c.loop-arrival.next c.loop-arrival.invariant.next) in
    let len : length c.in_ok-own.own.items ≡ length c.args.extensions.now = c.in_ok-own.ensures {u = tt} in
    omega (arith, fit, len, c.deref.ensures.len)

pub links_to-requires-clause-told : goal.links_to-requires-clause-told
links_to-requires-clause-told g c =
    let graph = g.G.StepGraph.graph c.args.graph.now in
    let arrivals = c.args.arrivals.now in
    let extensions = c.args.extensions.now in
    let i = c.loop-arrival.arrival-index in
    let x = c.arrival-item.result in
    let next = c.loop-arrival.next in
    let at = slice_get_read arrivals (length arrivals) i x refl c.loop-arrival-test.true c.arrival-item.is in
    let own : List (Arrival g.row.G-State.Denot) = take (next + c.choices.result - next) (drop next extensions) in
    let own_is : own ≡ extensions_below graph i x (graph.choices x.state) = rw c.choices.ensures (own_slice graph arrivals extensions c.requires.extensions i x at next c.loop-arrival.invariant.next) in
    told_own graph arrivals c.requires.parents i x at own own_is

pub links_to-requires-clause-index : goal.links_to-requires-clause-index
links_to-requires-clause-index g c = λ s.
    let graph = g.G.StepGraph.graph c.args.graph.now in
    let arrivals = c.args.arrivals.now in
    let wide = All-weaker (λ x. IsReached graph x.state x.vector) (λ x. length x.vector ≡ g.O.VectorOrder.rules c.args.order.now) (λ x r. width_reached graph (g.met.G.StepGraph.laws c.args.graph.now) x.state x.vector r ∙ c.requires.order) arrivals c.requires.reached in
    widths_at arrivals s (g.O.VectorOrder.rules c.args.order.now) (items_at g.G.State.PartialEq.eq c.args.index.now s) wide (c.requires.index.from s)

pub links_to-requires-clause-numbers : goal.links_to-requires-clause-numbers
links_to-requires-clause-numbers g c = λ s. numbers_fit c.args.arrivals.now s (items_at g.G.State.PartialEq.eq c.args.index.now s) c.requires.fits (c.requires.index.from s)

pub links_to-requires-clause-widths : goal.links_to-requires-clause-widths
links_to-requires-clause-widths g c =
    let graph = g.G.StepGraph.graph c.args.graph.now in
    let arrivals = c.args.arrivals.now in
    let reached = reached_extensions graph arrivals c.requires.reached in
    let wide = All-weaker (λ x. IsReached graph x.state x.vector) (λ x. length x.vector ≡ g.O.VectorOrder.rules c.args.order.now) (λ x r. width_reached graph (g.met.G.StepGraph.laws c.args.graph.now) x.state x.vector r ∙ c.requires.order) (extensions_from graph 0 arrivals) reached in
    let next = c.loop-arrival.next in
    rw c.requires.extensions (All-take (λ x. length x.vector ≡ g.O.VectorOrder.rules c.args.order.now) (next + c.choices.result - next) (drop next (extensions_from graph 0 arrivals)) (All-drop (λ x. length x.vector ≡ g.O.VectorOrder.rules c.args.order.now) next (extensions_from graph 0 arrivals) wide))

pub links_to-requires-clause-covered : goal.links_to-requires-clause-covered
links_to-requires-clause-covered g c =
    let graph = g.G.StepGraph.graph c.args.graph.now in
    let no_worse = g.O.VectorOrder.no_worse c.args.order.now in
    let arrivals = c.args.arrivals.now in
    let candidates = items_at g.G.State.PartialEq.eq c.args.index.now in
    let extensions = c.args.extensions.now in
    let next = c.loop-arrival.next in
    let all = All-weaker (λ x. IsCoveredAt no_worse arrivals x.state x.vector) (λ x. IsCovered no_worse (candidates x.state) x.vector) (λ x h. covered_there no_worse arrivals candidates c.requires.index x.state x.vector h) extensions c.requires.covered in
    All-take (λ x. IsCovered no_worse (candidates x.state) x.vector) (next + c.choices.result - next) (drop next extensions) (All-drop (λ x. IsCovered no_worse (candidates x.state) x.vector) next extensions all)

pub loop-arrival-preserved : goal.loop-arrival-preserved
loop-arrival-preserved g c =
    let graph = g.G.StepGraph.graph c.args.graph.now in
    let no_worse = g.O.VectorOrder.no_worse c.args.order.now in
    let arrivals = c.args.arrivals.now in
    let extensions = c.args.extensions.now in
    let candidates = items_at g.G.State.PartialEq.eq c.args.index.now in
    let i = c.loop-arrival.arrival-index in
    let x = c.arrival-item.result in
    let next = c.loop-arrival.next in
    let was = c.loop-arrival.invariant in
    let at = slice_get_read arrivals (length arrivals) i x refl c.loop-arrival-test.true c.arrival-item.is in
    let made = c.in_ok-links.ensures {u = tt} in
    let own : List (Arrival g.row.G-State.Denot) = take (next + c.choices.result - next) (drop next extensions) in
    let own_is : own ≡ extensions_below graph i x (graph.choices x.state) = rw c.choices.ensures (own_slice graph arrivals extensions c.requires.extensions i x at next was.next) in
    let vector = (c.in_ok-copy_of.ensures {u = tt}).ok ∙ c.as_slice.ensures.value in
    let pushed = (c.in_ok-push.ensures {u = tt}).ok in
    let label : Label g.row.G-State.Denot = record { state = x.state; vector = c.in_ok-copy_of.field-0; parent = x.parent; choice = x.choice; links = c.in_ok-links.links } in
    let same : arrival_of label ≡ x = rw vector refl in
    let more : take (i + 1) arrivals ≡ take i arrivals ++ x ∷ [] = take_more arrivals i x c.loop-arrival-test.true ∙ ap (λ y. take i arrivals ++ y ∷ []) (sym c.arrival-item.is) in
    let count = count_links graph no_worse arrivals candidates c.requires.index i x own own_is c.in_ok-links.links made.count made.covers in
    let linked = links_are graph no_worse arrivals candidates c.requires.index i x own own_is c.in_ok-links.links made.count made.covers in
    record {
      next = rw c.choices.ensures (next_more graph arrivals extensions c.requires.extensions i x at next was.next);
      arrivals = rw (pushed, map-append, was.arrivals, more, same) refl;
      links = rw pushed (All-push (HasLinks graph (Holds no_worse) (map pair_of arrivals)) c.loop-arrival.labels label was.links (record { count = count; linked = rw vector linked }));
    }

pub returns : goal.returns
returns g c =
    let was = c.loop-arrival.invariant in
    let all = take_all c.loop-arrival.arrival-index c.args.arrivals.now c.loop-arrival-test.false in
    record { arrivals = rw all at was.arrivals; links = was.links }
