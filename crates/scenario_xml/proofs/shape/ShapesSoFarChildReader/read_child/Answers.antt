use Rattle.std.proofs.Common.{◌≤◌, rules}
use Rattle.scenario_model.specs.Scenario.{corner_count, IsShape}
use Rattle.scenario_xml.proofs.ShapeLaws.{more_shapes}
use Rattle.scenario_xml.proofs.shape.ShapesSoFarChildReader.read_child.Goals as goal

pub returns-clause-sound : goal.returns-clause-sound
returns-clause-sound c =
    let sound : IsShape c.in-Some.shape = search rules in
    let fits : corner_count c.in-Some.shape ≤ c.args.self.now.room = search rules in
    rw (c.in_ok-push.ensures.ok, c.corner_count-count.ensures) (more_shapes c.args.self.now c.in-Some.shape c.requires.sound sound fits)
