use Rattle.element_tree.specs.Trees.{children}
use Rattle.scenario_xml.specs.Faults.{is_memory}
use Rattle.reading.proofs.FirstFault.{first_of_all}
use Rattle.scenario_xml.proofs.children.read_children.Goals as goal

pub returns-clause-first : goal.returns-clause-first
returns-clause-first g c = first_of_all is_memory _ c.each_child.result (g.R.ChildReader.step c.args.tree.now) (children c.args.tree.now c.args.node) c.args.reader.now c.each_child.ensures.exact
