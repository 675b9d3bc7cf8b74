use Rattle.domination_proof.proofs.HasTexts.{text_once}
use Rattle.domination_proof.proofs.laws.one_certificate.Goals as goal

pub returns : goal.returns
returns c = text_once c.args.first.now c.args.second.now
