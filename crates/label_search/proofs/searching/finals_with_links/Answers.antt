use Rattle.rulebook_order.specs.VectorOrder.{IsVectorOrder}
use Rattle.label_search.proofs.GoalLabels.{final_widths}
use Rattle.label_search.proofs.Whole.{finals_are, goal_links_are, final_numbers_fit}
use Rattle.label_search.proofs.searching.finals_with_links.Goals as goal

pub goal_links_of-requires-clause-widths : goal.goal_links_of-requires-clause-widths
goal_links_of-requires-clause-widths g c =
    let graph = g.G.StepGraph.graph c.args.graph.now in
    let labels = c.args.searched.now.labels.items in
    let from = rw c.as_slice-labels.ensures.value at (c.in_ok-finals.ensures {u = tt}).from in
    rw (c.as_slice.ensures.value, ← c.requires.order) (final_widths graph (g.met.G.StepGraph.laws c.args.graph.now) labels c.requires.searched.reached c.in_ok-finals.finals.items from)

pub goal_links_of-requires-clause-numbers : goal.goal_links_of-requires-clause-numbers
goal_links_of-requires-clause-numbers g c =
    let graph = g.G.StepGraph.graph c.args.graph.now in
    let labels = c.args.searched.now.labels.items in
    let from = rw c.as_slice-labels.ensures.value at (c.in_ok-finals.ensures {u = tt}).from in
    rw c.as_slice.ensures.value (final_numbers_fit graph labels c.in_ok-finals.finals.items c.requires.fits from)

pub numbers_of-requires : goal.numbers_of-requires
numbers_of-requires g c =
    let graph = g.G.StepGraph.graph c.args.graph.now in
    let labels = c.args.searched.now.labels.items in
    let from = rw c.as_slice-labels.ensures.value at (c.in_ok-finals.ensures {u = tt}).from in
    rw c.as_slice-2.ensures.value (final_numbers_fit graph labels c.in_ok-finals.finals.items c.requires.fits from)

pub returns : goal.returns
returns g c =
    let graph = g.G.StepGraph.graph c.args.graph.now in
    let no_worse = g.O.VectorOrder.no_worse c.args.order.now in
    let laws = g.met.G.StepGraph.laws c.args.graph.now in
    let order : IsVectorOrder graph.width no_worse = rw c.requires.order (g.met.O.VectorOrder.laws c.args.order.now) in
    let labels = c.args.searched.now.labels.items in
    let extensions = c.args.searched.now.extensions.items in
    let finals = c.in_ok-finals.finals.items in
    let made = c.in_ok-finals.ensures {u = tt} in
    let from = rw c.as_slice-labels.ensures.value at made.from in
    let answers = rw c.as_slice-labels.ensures.value at made.answers in
    let links = c.in_ok-links.ensures {u = tt} in
    let count = rw c.as_slice-labels.ensures.value at links.count in
    let linked = rw (c.as_slice-labels.ensures.value, c.as_slice.ensures.value) at links.linked in
    let numbers = rw c.as_slice-2.ensures.value at (c.in_ok-numbers.ensures {u = tt}) in
    rw numbers (record {
      finals = finals_are graph laws no_worse order labels extensions c.requires.searched finals from made.apart answers;
      goal_links = goal_links_are graph laws no_worse order labels extensions c.requires.searched finals from made.apart answers c.in_ok-links.links count linked;
    })
