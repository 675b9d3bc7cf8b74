use Rattle.std.proofs.Common.{subst, List}
use Rattle.lanelet_network.specs.Lanes.{Lane}
use Rattle.lanelet_network.specs.Cells.{AreAsked}
use Rattle.lanelet_network.proofs.Asked.{cell_is_asked}
use Rattle.lanelet_network.proofs.network.Network.asked.Goals as goal

pub returns-clause-places : goal.returns-clause-places
returns-clause-places c =
    let asked = cell_is_asked c.self.inside.lanes.items c.self.inside.grid c.args.point c.places_at.result.now c.self.invariant.2 c.places_at.ensures in
    let Asked : List Lane → Type 0 = λ lanes. AreAsked lanes c.args.point c.places_at.result.now in
    subst Asked c.self.view_is asked
