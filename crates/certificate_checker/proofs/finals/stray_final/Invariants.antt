use Rattle.certificate_checker.specs.GoodCertificate.{FinalIsAtGoal, Everywhere}
use Rattle.certificate_checker.proofs.finals.stray_final.Given as goal

abbrev pub invariant-loop-j : goal.invariant-loop-j
invariant-loop-j g l = Everywhere l.j (FinalIsAtGoal (g.G.StepGraph.graph l.graph) l.pairs l.finals)
