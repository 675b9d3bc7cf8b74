use Rattle.violation_measures.proofs.Alike.{bound_alike}
use Rattle.violation_measures.proofs.laws.bound_to_all_alike.Goals as goal

pub returns : goal.returns
returns c = bound_alike
