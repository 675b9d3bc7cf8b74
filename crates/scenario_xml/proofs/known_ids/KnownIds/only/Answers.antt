use Rattle.std.proofs.Common.{take}
use Rattle.scenario_xml.proofs.SoundLaws.{only_known}
use Rattle.scenario_xml.proofs.known_ids.KnownIds.only.Goals as goal

pub returns-clause-known_ids : goal.returns-clause-known_ids
returns-clause-known_ids c = rw c.loop-id.invariant (only_known c.args.self.now (take c.loop-id.id-index c.args.ids.now))
