use Rattle.certificate_checker.specs.GoodCertificate.{HasNoSurplus, Everywhere}
use Rattle.certificate_checker.proofs.finals.surplus_label.Given as goal

abbrev pub invariant-loop-k : goal.invariant-loop-k
invariant-loop-k g l = Everywhere l.k (HasNoSurplus (g.G.StepGraph.graph l.graph) l.pairs l.labels)
