use Rattle.std.proofs.Common.{◌∙◌}
use Rattle.rulebook_order.proofs.Reached.{width_finished}
use Rattle.label_search.proofs.finals.final_for.Goals as goal

pub cover_of-number-requires-clause-width : goal.cover_of-number-requires-clause-width
cover_of-number-requires-clause-width g c = rw (c.as_slice.ensures.value, c.in_ok-vector.ensures {u = tt}) (width_finished (g.G.StepGraph.graph c.args.graph.now) (g.met.G.StepGraph.laws c.args.graph.now) c.args.arrival.now.state c.args.arrival.now.vector c.requires.reached ∙ c.requires.order)

pub returns : goal.returns
returns g c = rw (c.as_slice.ensures.value, c.in_ok-vector.ensures {u = tt}) at c.cover_of-number.ensures
