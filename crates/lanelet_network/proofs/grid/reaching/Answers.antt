use Rattle.std.proofs.Common.{append-nil, arith}
use Rattle.std.proofs.lemmas.List.Elements.{filter_more}
use Rattle.lanelet_network.specs.Strips.{does_reach}
use Rattle.lanelet_network.proofs.grid.reaching.Goals as goal

pub loop-place-preserved : goal.loop-place-preserved
loop-place-preserved c =
    grind (arith, filter_more (does_reach c.args.reaches.now c.args.strip) c.args.places.now c.loop-place.place-index 0 c.loop-place-test.true, append-nil)
