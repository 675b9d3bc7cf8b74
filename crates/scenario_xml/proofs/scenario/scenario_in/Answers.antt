use Rattle.scenario_xml.proofs.ContentsLaws.{whole_contents}
use Rattle.scenario_xml.proofs.scenario.scenario_in.Goals as goal

pub checked_scenario-requires-clause-contents : goal.checked_scenario-requires-clause-contents
checked_scenario-requires-clause-contents c =
    whole_contents c.args.tree.now c.in_ok-head.head.version c.in_ok-contents.contents c.in_ok-contents.ensures.exact c.in_ok-contents.ensures.sound
