use Rattle.std.proofs.Common.{◌≡◌, ℕ, ◌+◌, ◌≤◌, List, take}
use Rattle.std.specs.Prelude.{slice_get, Some}
use Rattle.rulebook_order.specs.Graph.{IsReached}
use Rattle.certificate_checker.specs.GoodCertificate.{HasChoice, Everywhere, pairs_of}
use Rattle.certificate_checker.proofs.labels.pairs.Given as goal

abbrev pub invariant-loop-k : goal.invariant-loop-k
invariant-loop-k g l =
    let graph = g.G.StepGraph.graph l.graph in
    record {
      pairs : l.pairs.items ≡ pairs_of graph (take l.k l.labels);
      choices : Everywhere l.k (HasChoice graph (pairs_of graph l.labels) l.labels);
      reached : (i : ℕ) (s : _) (v : List ℕ) → slice_get l.pairs.items i ≡ Some (s, v) → IsReached graph s v;
      steps : l.steps + 1 ≤ l.fn.steps + l.k;
    }
