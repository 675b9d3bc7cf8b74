use Rattle.element_tree.proofs.Distinct.{told_by_neighbours}
use Rattle.element_tree.proofs.tag.are_distinct.Goals as goal

pub returns : goal.returns
returns c = λ attributes e.
    told_by_neighbours attributes c.args.names.items c.sort_unstable.new.self.items _ _ e c.sort_unstable.ensures.permutation c.sort_unstable.ensures.sorted c.as_slice.ensures.value c.are_rising.ensures
