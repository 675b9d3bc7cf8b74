use Rattle.rulebook_order.specs.VectorOrder.{Holds}
use Rattle.domination_proof.specs.Copies.{cert_of}
use Rattle.domination_proof.proofs.HasTexts.{HasText-found, finals_low, goal_links_low, labels_low}
use Rattle.domination_proof.proofs.ShortTexts.{text_short}
use Rattle.domination_proof.proofs.laws.found_has_a_text.Goals as goal

pub returns : goal.returns
returns g c =
    let graph = g.G.StepGraph.graph c.args.graph.now in
    let no_worse = Holds (g.O.VectorOrder.no_worse c.args.order.now) in
    let found = c.args.found.now in
    let has = HasText-found graph no_worse found c.requires.shown c.requires.labels c.requires.choices in
    record {
      has_text = has;
      short = text_short (cert_of found) has
          (labels_low graph no_worse found c.requires.shown c.requires.labels c.requires.choices)
          (finals_low graph no_worse found c.requires.shown c.requires.labels c.requires.choices)
          (goal_links_low graph no_worse found c.requires.shown c.requires.labels c.requires.choices);
    }
