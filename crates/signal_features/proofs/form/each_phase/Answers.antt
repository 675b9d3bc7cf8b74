use Rattle.std.proofs.Common.{◌∙◌, sym, ap, ◌+◌, drop}
use Rattle.std.proofs.lemmas.List.Elements.{All-push}
use Rattle.signal_features.proofs.Loops.{with_front, each_goes_on}
use Rattle.signal_features.specs.Forms.{phase, each_of}
use Rattle.signal_features.specs.Sound.{IsPhase}
use Rattle.signal_features.proofs.form.each_phase.Goals as goal

pub loop-node-preserved : goal.loop-node-preserved
loop-node-preserved c =
    let read = phase c.args.tree.now in
    let at = c.loop-node.node-index in
    rw c.in_ok-push.ensures.ok (record {
      same = sym (each_goes_on read c.args.nodes.now at 0 c.loop-node.phases c.in-Some.phase c.loop-node-test.true (sym c.phase.ensures.value ∙ c.in-Some.is)) ∙ c.loop-node.invariant.same;
      sound = All-push IsPhase c.loop-node.phases c.in-Some.phase c.loop-node.invariant.sound c.in-Some.ensures.sound;
    })
