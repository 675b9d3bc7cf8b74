use Rattle.std.proofs.Common.{◌≡◌, take}
use Rattle.std.specs.Prelude.{filter}
use Rattle.scenario_xml.specs.Lanelets.{is_known}
use Rattle.scenario_xml.proofs.known_ids.KnownIds.only.Given as goal

abbrev pub invariant-loop-id : goal.invariant-loop-id
invariant-loop-id l = l.kept ≡ filter (is_known l.self) (take l.id-index l.ids)
