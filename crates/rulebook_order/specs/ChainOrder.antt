use Rattle.preorder.specs.declared.order.Preorder.{Preorder}
use Rattle.rulebook_order.specs.declared.chain.ChainOrder.{ChainOrder}

-- the pre-order that it compares by
abbrev pub order_of : ChainOrder → Preorder
order_of chain = chain.order
