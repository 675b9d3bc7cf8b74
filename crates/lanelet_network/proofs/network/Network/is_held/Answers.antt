use Rattle.std.proofs.Common.{◌∙◌}
use Rattle.lanelet_network.proofs.Asked.{any_asked}
use Rattle.lanelet_network.proofs.network.Network.is_held.Goals as goal

pub returns : goal.returns
returns c = record { value = c.is_held_at_any.ensures ∙ any_asked c.args.self.now c.args.point c.asked.result.now c.asked.ensures.places }
