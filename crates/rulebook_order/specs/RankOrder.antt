use Rattle.preorder.specs.declared.order.Preorder.{Preorder}
use Rattle.rulebook_order.specs.declared.rank.RankOrder.{RankOrder}

-- the pre-order that it compares by
abbrev pub order_of : RankOrder → Preorder
order_of ranks = ranks.order
