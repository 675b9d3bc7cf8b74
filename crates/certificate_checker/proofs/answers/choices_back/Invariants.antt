use Rattle.std.proofs.Common.{◌<◌, ℕ, List, ◌++◌, length}
use Rattle.std.specs.Prelude.{reverse}
use Rattle.certificate_checker.specs.GoodCertificate.{LeadsToLabel}
use Rattle.certificate_checker.proofs.answers.choices_back.Given as goal

abbrev pub invariant-loop-at : goal.invariant-loop-at
invariant-loop-at l = record {
  within : l.at < length l.labels;
  rest : (choices : List ℕ) → LeadsToLabel l.labels l.at choices → LeadsToLabel l.labels l.number (choices ++ reverse l.back.items);
}

abbrev pub decreases-loop-at : goal.decreases-loop-at
decreases-loop-at l = l.at
