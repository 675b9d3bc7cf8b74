use Rattle.rulebook_commands.proofs.Sampled.{sample_serves}
use Rattle.rulebook_commands.proofs.sampling.sample.Goals as goal

pub returns : goal.returns
returns c = λ at. sample_serves c.args.number c.in_ok-scene.scene.files c.in_ok-scene.ensures.files at c.sample_bound.result c.sample_bound.ensures
