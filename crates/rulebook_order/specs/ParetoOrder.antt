use Rattle.preorder.specs.declared.order.Preorder.{Preorder}
use Rattle.rulebook_order.specs.declared.pareto.ParetoOrder.{ParetoOrder}

-- the pre-order that it compares by
abbrev pub order_of : ParetoOrder → Preorder
order_of pareto = pareto.order
