use Rattle.std.proofs.Common.{length, sym, ◌∙◌}
use Rattle.std.proofs.lemmas.Result.{err_from_is_err_and}
use Rattle.reading.proofs.ReadingLaws.{handed_on}
use Rattle.scenario_xml.specs.Faults.{is_memory}
use Rattle.scenario_xml.proofs.NodeLaws.{nodes_go_on, nodes_stop, nodes_done, inside}
use Rattle.scenario_xml.proofs.children.each_child.Goals as goal

pub returns-in_err-read_child-clause-exact : goal.returns-in_err-read_child-clause-exact
returns-in_err-read_child-clause-exact g c =
    let p = err_from_is_err_and c.from_residual.result c.from_residual.ensures.1 in
    let e = c.in_err-read_child.field-0.0 in
    rw (p.1, p.2) (handed_on (is_memory e) (λ h. sym c.loop-next.invariant.same ∙ nodes_stop c.args.tree.now (g.R.ChildReader.step c.args.tree.now) c.loop-next.next c.in-Some.child c.loop-next.reader e c.in-Some.is h) c.in_err-read_child.ensures.exact)

pub loop-next-preserved : goal.loop-next-preserved
loop-next-preserved g c = record {
  same = sym (nodes_go_on c.args.tree.now (g.R.ChildReader.step c.args.tree.now) c.loop-next.next c.next_sibling-next.result c.in-Some.child c.loop-next.reader c.read_child.new.self c.in-Some.is c.next_sibling-next.ensures.younger c.in_ok-read_child.ensures.exact) ∙ c.loop-next.invariant.same;
  within = inside c.next_sibling-next.result c.in-Some.child (length c.args.tree.now.nodes) c.next_sibling-next.ensures.within;
  sound = c.in_ok-read_child.ensures.sound;
}

pub returns-clause-exact : goal.returns-clause-exact
returns-clause-exact g c = sym c.loop-next.invariant.same ∙ nodes_done c.args.tree.now (g.R.ChildReader.step c.args.tree.now) c.loop-next.next c.loop-next.reader c.in_default.is
