use Rattle.std.proofs.Common.{◌<◌, length, rules}
use Rattle.scenario_xml.proofs.SoundLaws.{goals_more}
use Rattle.scenario_xml.proofs.goal.GoalsSoFarChildReader.read_child.Goals as goal
use Rattle.scenario_model.specs.declared.limits.TheConstants.{MAX_GOALS}

pub returns-clause-sound : goal.returns-clause-sound
returns-clause-sound c =
    let few : length c.args.self.now.goals < MAX_GOALS = search rules in
    rw c.in_ok-push.ensures.ok (goals_more c.args.self.now c.in_ok-goal.goal c.requires.sound c.in_ok-goal.ensures.sound few)
