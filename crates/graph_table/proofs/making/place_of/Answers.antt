use Rattle.std.proofs.Common.{◌≡◌, ◌∙◌, ap, sym, Some, position}
use Rattle.std.proofs.lemmas.List.Quantifiers.{position-Some}
use Rattle.std.proofs.lemmas.Option.{slice_get-get_or}
use Rattle.graph_table.proofs.making.place_of.Goals as goal

pub returns-in-Some : goal.returns-in-Some
returns-in-Some g c =
    let eq = g.G.State.PartialEq.eq in
    let keys = c.args.states.now.keys in
    let state = c.args.state.now in
    let found : position (eq state) keys ≡ Some c.in-Some.place = sym c.get_index_of.ensures.index ∙ c.in-Some.is in
    let at = position-Some (eq state) keys c.in-Some.place state found in
    slice_get-get_or keys c.in-Some.place state at.0 ∙ ap Some (sym (g.met.G.StepGraph.same_states state _ at.1))
