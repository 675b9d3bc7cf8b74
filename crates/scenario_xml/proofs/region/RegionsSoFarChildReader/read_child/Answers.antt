use Rattle.std.proofs.Common.{◌<◌, length, rules}
use Rattle.scenario_xml.specs.Sound.{IsSoundRegion}
use Rattle.scenario_xml.proofs.SoundLaws.{regions_more}
use Rattle.scenario_xml.proofs.region.RegionsSoFarChildReader.read_child.Goals as goal
use Rattle.scenario_model.specs.declared.limits.TheConstants.{MAX_REGIONS}

pub returns-in_ok-push-clause-sound : goal.returns-in_ok-push-clause-sound
returns-in_ok-push-clause-sound c =
    let sound : IsSoundRegion c.in-Some.region = search rules in
    let few : length c.args.self.now.regions < MAX_REGIONS = search rules in
    rw c.in_ok-push.ensures.ok (regions_more c.args.self.now c.in-Some.region c.requires.sound sound few)
