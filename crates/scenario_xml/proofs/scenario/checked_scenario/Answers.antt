use Rattle.std.proofs.Common.{◌≡◌, false, None, eqb, length, rules, w64}
use Rattle.std.proofs.lemmas.Int.{to_z-of_z}
use Rattle.scenario_xml.specs.Scenarios.{first_in, unknown_in_problem}
use Rattle.scenario_xml.proofs.ContentsLaws.{all_known}
use Rattle.scenario_xml.proofs.scenario.checked_scenario.Goals as goal

pub returns-clause-sound : goal.returns-clause-sound
returns-clause-sound c =
    let nothing_unknown : first_in (unknown_in_problem c.args.contents.known_ids) c.args.contents.problems ≡ None = search rules in
    let some : eqb (length c.args.contents.problems) 0 ≡ false = search rules in
    rw (to_z-of_z w64 c.args.step_micros c.ranges.step_micros) (all_known c.args.step_micros c.args.contents (c.requires.low, c.requires.high) c.requires.contents nothing_unknown some)
