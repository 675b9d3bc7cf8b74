use Rattle.std.proofs.Common.{◌∙◌}
use Rattle.lanelet_network.proofs.Asked.{all_asked}
use Rattle.lanelet_network.proofs.network.Network.all_oppose.Goals as goal

pub returns : goal.returns
returns c = c.oppose_at_all.ensures ∙ all_asked c.args.self.now c.args.point c.args.ahead c.asked.result.now c.asked.ensures.places
