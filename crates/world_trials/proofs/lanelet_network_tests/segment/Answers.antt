use Rattle.world_trials.proofs.Scenes.{two_read}
use Rattle.world_trials.proofs.lanelet_network_tests.segment.Goals as goal

pub returns : goal.returns
returns c = two_read c.args.from c.args.to c.new-bound.result c.push.new.self c.push-2.new.self c.new-bound.ensures c.in_ok-push.ensures.ok c.in_ok-push-2.ensures.ok c.requires.from c.requires.to
