use Rattle.certificate_checker.specs.GoodCertificate.{ParentIsEarlier, Everywhere}
use Rattle.certificate_checker.proofs.labels.late_parent.Given as goal

abbrev pub invariant-loop-k : goal.invariant-loop-k
invariant-loop-k l = Everywhere l.k (ParentIsEarlier l.labels)
