use Rattle.std.proofs.Common.{refl, sym}
use Rattle.lanelet_network.proofs.Ids.{place_of_known, not_known}
use Rattle.lanelet_network.proofs.network.Network.place.Goals as goal

pub returns-in-Some-clause-within : goal.returns-in-Some-clause-within
returns-in-Some-clause-within c = (place_of_known c.args.self.now c.args.id c.in-Some.place (sym c.in-Some.ensures.value)).within

pub returns-in-Some-clause-id : goal.returns-in-Some-clause-id
returns-in-Some-clause-id c = (place_of_known c.args.self.now c.args.id c.in-Some.place (sym c.in-Some.ensures.value)).same

pub returns-in-None-clause-unknown_id : goal.returns-in-None-clause-unknown_id
returns-in-None-clause-unknown_id c = (refl, not_known c.args.self.now c.args.id (sym c.in-None.ensures.value))
