use Rattle.std.proofs.Common.{◌≡◌, drop}
use Rattle.scenario_xml.specs.Scenarios.{first_in}
use Rattle.scenario_xml.proofs.unknown_id.first_unknown.Given as goal

abbrev pub invariant-loop-item : goal.invariant-loop-item
invariant-loop-item g l = first_in (g.T.Refers.unknown_id l.known_ids) (drop l.item-index l.items) ≡ first_in (g.T.Refers.unknown_id l.known_ids) l.items
