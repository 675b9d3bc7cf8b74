use Rattle.std.proofs.Common.{◌∙◌, ap, sym}
use Rattle.rulebook_order.specs.Sums.{sums}
use Rattle.graph_table.specs.Tables.{row_in}
use Rattle.graph_table.proofs.Added.{sums_with_zeros}
use Rattle.graph_table.proofs.table.TableStepGraph.finish.Goals as goal

pub returns-in_default : goal.returns-in_default
returns-in_default g c =
    let e = c.args.self.now.entries in
    let none = c.in_default.ensures.none in
    sym (sums_with_zeros c.args.cost.now e.width c.requires.width) ∙ ap (λ row. sums c.args.cost.now (row_in e.width row).finish) (sym none)
