use Rattle.std.proofs.Common.{◌≡◌, ◌<◌, false, length, rules}
use Rattle.rule_language.specs.Names.{has_name}
use Rattle.trajectory_judge.specs.Records.{name_of}
use Rattle.trajectory_judge.specs.declared.limits.TheConstants.{MAX_RECORDINGS}
use Rattle.trajectory_judge.proofs.Runs.{runs_begun}
use Rattle.trajectory_judge.proofs.records.Records.begin.Goals as goal

pub returns-clause-sound : goal.returns-clause-sound
returns-clause-sound c m are recorded =
    let new : has_name name_of c.args.name c.args.self.now.runs ≡ false = search rules in
    let few : length c.args.self.now.runs < MAX_RECORDINGS = search rules in
    rw (c.in_ok-push-2.ensures.ok, c.in_ok-push.ensures.ok, c.new-steps.ensures) (runs_begun m c.args.name c.args.step c.args.self.now.runs c.requires new few are recorded)
