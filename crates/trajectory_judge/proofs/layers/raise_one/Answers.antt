use Rattle.std.proofs.Common.{◌≡◌, ◌+◌, sym, ◌∙◌, rules, get_or, true}
use Rattle.trajectory_judge.specs.Peeling.{is_beaten, layers_of, vectors_of}
use Rattle.trajectory_judge.proofs.JudgedRuns.{layer_of, set_alike, set_here, set_others}
use Rattle.trajectory_judge.proofs.Rounds.{raised_up}
use Rattle.trajectory_judge.proofs.layers.raise_one.Goals as goal

pub returns-clause-alike : goal.returns-clause-alike
returns-clause-alike g c = set_alike c.args.runs.now c.args.i c.at_mut.result.now (c.args.round + 1) c.requires.inside c.at_mut.ensures.value

pub returns-clause-here : goal.returns-clause-here
returns-clause-here g c =
    let runs = c.args.runs.now in
    let nw = g.O.VectorOrder.no_worse c.args.order.now in
    let layer : c.index-as_slice-i.result.layer ≡ c.args.round = search rules in
    let stands : (get_or runs c.args.i c.index-as_slice-i.result).layer ≡ c.index-as_slice-i.result.layer = search rules in
    let beaten : is_beaten nw (vectors_of runs) (layers_of runs) c.args.round c.args.i ≡ true = search rules in
    set_here runs c.args.i c.at_mut.result.now (c.args.round + 1) c.requires.inside c.at_mut.ensures.value
    ∙ sym (raised_up nw (vectors_of runs) c.args.round (layers_of runs) c.args.i (layer_of runs c.args.i c.index-as_slice-i.result c.requires.inside ∙ (stands ∙ layer)) beaten)

pub returns-clause-others : goal.returns-clause-others
returns-clause-others g c = set_others c.args.runs.now c.args.i c.at_mut.result.now (c.args.round + 1) c.requires.inside c.at_mut.ensures.value
