use Rattle.std.proofs.Common.{◌∙◌, ap, subst, get_or}
use Rattle.lanelet_network.specs.Lanes.{HaveOwnIds}
use Rattle.lanelet_network.proofs.Ids.{only_one}
use Rattle.lanelet_network.proofs.network.Network.lane.Goals as goal

pub returns-clause-value : goal.returns-clause-value
returns-clause-value c =
    let different = subst HaveOwnIds c.self.view_is c.self.invariant.1 in
    only_one c.args.self.now c.args.id c.in_ok-place.place c.index.result.now different c.in_ok-place.ensures.within c.in_ok-place.ensures.id (c.index.ensures ∙ ap (λ lanes. get_or lanes c.in_ok-place.place c.index.result.now) c.self.view_is)
