use Rattle.std.proofs.Common.{◌≡◌, ℕ, ◌<◌}
use Rattle.std.specs.Prelude.{slice_get, Some}
use Rattle.rulebook_order.specs.Certified.{finished_at}
use Rattle.rulebook_order.specs.NoWorse.{AreApart}
use Rattle.rulebook_order.specs.VectorOrder.{Holds}
use Rattle.certificate_checker.specs.GoodCertificate.{StandsApart, Everywhere}
use Rattle.certificate_checker.proofs.finals.crowded_final.Given as goal

abbrev pub invariant-loop-j : goal.invariant-loop-j
invariant-loop-j g l = Everywhere l.j (StandsApart (g.G.StepGraph.graph l.graph) (Holds (g.O.VectorOrder.no_worse l.order)) l.pairs l.finals)

abbrev pub invariant-loop-i : goal.invariant-loop-i
invariant-loop-i g l =
    let graph = g.G.StepGraph.graph l.graph in
    (i a b : ℕ) → i < l.i → slice_get l.finals i ≡ Some a → slice_get l.finals l.j ≡ Some b → AreApart (Holds (g.O.VectorOrder.no_worse l.order)) (finished_at graph l.pairs a) (finished_at graph l.pairs b)
