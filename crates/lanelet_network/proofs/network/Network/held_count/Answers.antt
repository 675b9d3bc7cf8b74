use Rattle.std.proofs.Common.{◌∙◌, arith}
use Rattle.std.proofs.lemmas.List.Sums.{count_by-le-length}
use Rattle.lanelet_network.specs.Lanes.{holds}
use Rattle.lanelet_network.proofs.Asked.{count_asked}
use Rattle.lanelet_network.proofs.network.Network.held_count.Goals as goal

pub returns-clause-value : goal.returns-clause-value
returns-clause-value c = c.count_at_places.ensures ∙ count_asked c.args.self.now c.args.point c.asked.result.now c.asked.ensures.places

pub returns-clause-few : goal.returns-clause-few
returns-clause-few c =
    let value = c.count_at_places.ensures ∙ count_asked c.args.self.now c.args.point c.asked.result.now c.asked.ensures.places in
    omega (arith, value, c.asked.ensures.few, count_by-le-length (holds c.args.point) c.args.self.now)
