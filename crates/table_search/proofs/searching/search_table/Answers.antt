use Rattle.std.proofs.Common.{◌<◌, length, get_or, arith}
use Rattle.std.proofs.lemmas.List.{length-map}
use Rattle.std.proofs.lemmas.List.Elements.{All-weaker}
use Rattle.std.proofs.lemmas.Result.{err_from_is_err_and}
use Rattle.rulebook_order.specs.Answer.{HasMoreUndominated}
use Rattle.rulebook_order.specs.Graph.{IsStateOf}
use Rattle.rulebook_order.specs.VectorOrder.{Holds}
use Rattle.label_search.specs.declared.label.Label.{Label}
use Rattle.graph_table.specs.Tables.{IsAt, table_graph}
use Rattle.graph_table.specs.declared.state.TableState.{TableState}
use Rattle.graph_table.proofs.AlikeLaws.{flipped}
use Rattle.graph_table.proofs.AlikePairs.{more_alike}
use Rattle.table_search.specs.Relabeled.{relabeled}
use Rattle.table_search.proofs.Carried.{carried_fault, labels_reached, labels_undominated, labels_finals, labels_goal_links, labels_links, labels_parents}
use Rattle.table_search.proofs.Placed.{inside, at_place}
use Rattle.table_search.proofs.searching.search_table.Goals as goal

pub search-requires-clause-order : goal.search-requires-clause-order
search-requires-clause-order g c = rw (← c.requires.table.alike.width) c.requires.order

pub labels_at-requires : goal.labels_at-requires
labels_at-requires g c =
    let graph = g.G.StepGraph.graph c.args.graph.now in
    let no_worse = g.O.VectorOrder.no_worse c.args.order.now in
    let table = c.args.table.now in
    let alike = c.requires.table.alike in
    let h = table_graph table.entries in
    let f = λ (t : TableState). get_or table.states t.index graph.start in
    let labels = c.in_ok-found.found.labels in
    let made = c.in_ok-found.ensures {u = tt} in
    rw c.as_slice.ensures (All-weaker (λ (x : Label TableState). IsStateOf h x.state) (λ x. x.state.index < length table.states) (λ x reached. inside graph table.states table.entries alike x.state reached) labels
    (labels_reached graph h (IsAt table.states) alike f (at_place graph table.states table.entries alike graph.start) (Holds no_worse) labels made.labels))

pub returns : goal.returns
returns g c =
    let graph = g.G.StepGraph.graph c.args.graph.now in
    let no_worse = g.O.VectorOrder.no_worse c.args.order.now in
    let table = c.args.table.now in
    let alike = c.requires.table.alike in
    let h = table_graph table.entries in
    let R = IsAt table.states in
    let at = at_place graph table.states table.entries alike graph.start in
    let f = λ (t : TableState). get_or table.states t.index graph.start in
    let found = c.in_ok-found.found in
    let made = c.in_ok-found.ensures {u = tt} in
    let is = rw c.as_slice.ensures at c.in_ok-labels.ensures graph.start in
    rw is (record {
      labels = labels_undominated graph h R alike f at (Holds no_worse) found.labels made.labels;
      parents = labels_parents graph h R alike f at (Holds no_worse) found.labels made.labels made.parents;
      links = labels_links graph h R alike f at (Holds no_worse) found.labels made.labels made.links;
      finals = labels_finals graph h R alike f at (Holds no_worse) found.labels made.labels found.finals made.finals;
      goal_links = labels_goal_links graph h R alike f at (Holds no_worse) found.labels made.labels found.finals found.goal_links made.finals made.goal_links;
      within = omega (arith, made.within, length-map found.labels (relabeled table.states graph.start));
      not_too_many = λ more. made.not_too_many (more_alike h graph (λ t s. R s t) (flipped graph h R alike) (Holds no_worse) c.args.limit more);
      too_many = tt;
    })

pub returns-in_err-found-clause-too_many : goal.returns-in_err-found-clause-too_many
returns-in_err-found-clause-too_many g c =
    let p = err_from_is_err_and c.from_residual.result c.from_residual.ensures.1 in
    let graph = g.G.StepGraph.graph c.args.graph.now in
    let no_worse = g.O.VectorOrder.no_worse c.args.order.now in
    let table = c.args.table.now in
    let alike = c.requires.table.alike in
    let h = table_graph table.entries in
    rw (p.1, p.2) (carried_fault (HasMoreUndominated h (Holds no_worse) c.args.limit) (HasMoreUndominated graph (Holds no_worse) c.args.limit) c.in_err-found.field-0.0
    (more_alike graph h (IsAt table.states) alike (Holds no_worse) c.args.limit) c.in_err-found.ensures.too_many)
