use Rattle.std.proofs.Common.{arith}
use Rattle.std.proofs.lemmas.Grind.{common_steps}
use Rattle.scenario_xml.proofs.known_ids.KnownIds.of.Goals as goal

pub loop-id-preserved : goal.loop-id-preserved
loop-id-preserved c = λ q. grind (arith, common_steps, c.loop-id.invariant q)
