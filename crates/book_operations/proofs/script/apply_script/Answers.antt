use Rattle.reading.specs.Lines.{lines_of}
use Rattle.book_operations.proofs.Carried.{each-derived}
use Rattle.book_operations.proofs.Children.{read-again}
use Rattle.book_operations.proofs.script.apply_script.Goals as goal

pub returns-clause-read_again : goal.returns-clause-read_again
returns-clause-read_again c = read-again c.apply_lines.result c.apply_lines.ensures.well_formed

pub returns-clause-measures : goal.returns-clause-measures
returns-clause-measures c = each-derived c.apply_lines.result (lines_of c.args.script.now) c.args.parent.now c.requires c.apply_lines.ensures.derives
