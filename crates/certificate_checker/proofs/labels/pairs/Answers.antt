use Rattle.std.proofs.Common.{◌≡◌, ℕ, ◌<◌, ◌≤◌, List, [], ◌∷◌, ◌++◌, length, take, arith, below_more, refl, ◌∙◌, sym}
use Rattle.std.specs.Prelude.{slice_get, Some}
use Rattle.rulebook_order.specs.Graph.{Graph, IsReached, pair_by}
use Rattle.rulebook_order.proofs.Reached.{IsReached-first, IsReached-extend}
use Rattle.certificate_checker.specs.GoodCertificate.{pairs_of}
use Rattle.certificate_checker.proofs.Pairs.{early_pair, pair_is, pairs_more, HasChoice-here, no_choice, reached_more}
use Rattle.certificate_checker.proofs.labels.pairs.Goals as goal

first_pairs : {S : Type 0} (g : Graph S) (labels : List _) → 0 < length labels → pairs_of g (take 1 labels) ≡ (g.start, g.first) ∷ []
first_pairs g [] h = absurd (omega arith)
first_pairs g (l ∷ ls) h = refl

only_first : {S : Type 0} (g : Graph S) (i : ℕ) (s : S) (v : List ℕ) → slice_get {X = S × List ℕ} ((g.start, g.first) ∷ []) i ≡ Some (s, v) → IsReached g s v
only_first g i s v at = reached_more g [] (g.start, g.first) (λ j t w e. absurd cc) (IsReached-first g) i s v at

pub loop-k-init : goal.loop-k-init
loop-k-init g c =
    let graph = g.G.StepGraph.graph c.args.graph.now in
    let items : c.push.new.self.items ≡ (graph.start, graph.first) ∷ [] = rw (c.in_ok-push.ensures.items, c.new-pairs.ensures.items, c.in_ok-started.ensures {u = tt}) refl in
    record {
      pairs = items ∙ sym (first_pairs graph c.args.labels.now c.requires.first);
      choices = λ k h label s v at up e. absurd (omega arith);
      reached = rw items (only_first graph);
      steps = omega arith;
    }

pub index-requires : goal.index-requires
index-requires g c =
    let e = early_pair (g.G.StepGraph.graph c.args.graph.now) c.args.labels.now c.loop-k.k c.index-labels-k.result c.loop-k.pairs.items c.loop-k.invariant.pairs (omega arith) c.loop-k-test.true c.index-labels-k.is c.requires.parents in
    omega arith

pub choices-requires : goal.choices-requires
choices-requires g c =
    let graph = g.G.StepGraph.graph c.args.graph.now in
    let at = pair_is graph c.args.labels.now c.loop-k.k c.index-labels-k.result c.loop-k.pairs.items c.loop-k.invariant.pairs (omega arith) c.loop-k-test.true c.index-labels-k.is c.requires.parents c.index.result.now c.index.ensures in
    (c.index.result.now.1, c.loop-k.invariant.reached c.index-labels-k.result.parent c.index.result.now.0 c.index.result.now.1 at)

pub returns-then-choice-choices-clause-choices : goal.returns-then-choice-choices-clause-choices
returns-then-choice-choices-clause-choices g c =
    let graph = g.G.StepGraph.graph c.args.graph.now in
    let high : graph.choices c.index.result.now.0 ≤ c.index-labels-k.result.choice = omega arith in
    record {
      below = c.loop-k-test.true;
      fails = no_choice graph c.args.labels.now c.loop-k.k c.index-labels-k.result c.loop-k.pairs.items c.loop-k.invariant.pairs (omega arith) c.loop-k-test.true c.index-labels-k.is c.requires.parents c.index.result.now c.index.ensures high;
      before = c.loop-k.invariant.choices;
    }

pub extended-requires-clause-reached : goal.extended-requires-clause-reached
extended-requires-clause-reached g c =
    let graph = g.G.StepGraph.graph c.args.graph.now in
    let at = pair_is graph c.args.labels.now c.loop-k.k c.index-labels-k.result c.loop-k.pairs.items c.loop-k.invariant.pairs (omega arith) c.loop-k-test.true c.index-labels-k.is c.requires.parents c.index.result.now c.index.ensures in
    c.loop-k.invariant.reached c.index-labels-k.result.parent c.index.result.now.0 c.index.result.now.1 at

pub loop-k-preserved : goal.loop-k-preserved
loop-k-preserved g c =
    let graph = g.G.StepGraph.graph c.args.graph.now in
    let pair = c.index.result.now in
    let choice : c.index-labels-k.result.choice < graph.choices pair.0 = omega arith in
    let up : 0 < c.loop-k.k = omega arith in
    let at = pair_is graph c.args.labels.now c.loop-k.k c.index-labels-k.result c.loop-k.pairs.items c.loop-k.invariant.pairs up c.loop-k-test.true c.index-labels-k.is c.requires.parents c.index.result.now c.index.ensures in
    let r = c.loop-k.invariant.reached c.index-labels-k.result.parent pair.0 pair.1 at in
    let more = pairs_more graph c.args.labels.now c.loop-k.k c.index-labels-k.result c.loop-k.pairs.items c.loop-k.invariant.pairs up c.loop-k-test.true c.index-labels-k.is c.requires.parents c.index.result.now c.index.ensures in
    let here = HasChoice-here graph c.args.labels.now c.loop-k.k c.index-labels-k.result c.loop-k.pairs.items c.loop-k.invariant.pairs up c.loop-k-test.true c.index-labels-k.is c.requires.parents c.index.result.now c.index.ensures choice in
    let items : c.push-in-loop-k.new.self.items ≡ c.loop-k.pairs.items ++ pair_by graph pair c.index-labels-k.result.choice ∷ [] = rw (c.in_ok-push-2.ensures.items, c.in_ok-pair.ensures.pair) refl in
    record {
      pairs = items ∙ more;
      choices = below_more _ _ c.loop-k.invariant.choices here;
      reached = rw items (reached_more graph c.loop-k.pairs.items (pair_by graph pair c.index-labels-k.result.choice) c.loop-k.invariant.reached (IsReached-extend graph pair.0 pair.1 c.index-labels-k.result.choice r choice));
      steps = omega arith;
    }

pub returns-clause-choices : goal.returns-clause-choices
returns-clause-choices g c = λ k h. c.loop-k.invariant.choices k (omega arith)
