use Rattle.label_search.specs.Index.{items_at}
use Rattle.label_search.proofs.Links.{own_covers}
use Rattle.label_search.proofs.Puts.{number_at}
use Rattle.label_search.proofs.linking.link_to.Goals as goal

pub returns-then-is_own : goal.returns-then-is_own
returns-then-is_own g c = own_covers (g.O.VectorOrder.no_worse c.args.order.now) (g.O.VectorOrder.rules c.args.order.now) (g.met.O.VectorOrder.laws c.args.order.now) c.args.labels.now (items_at g.G.State.PartialEq.eq c.args.index.now) c.requires.index c.args.arrival.now c.requires.width c.requires.told c.args.own (c.is_own.ensures c.if-is_own.true)

pub returns : goal.returns
returns g c =
    let at = rw (c.items_of-candidates.ensures, c.as_slice.ensures.value) at c.cover_near-place.ensures in
    rw c.items_of-candidates.ensures (number_at (g.O.VectorOrder.no_worse c.args.order.now) (items_at g.G.State.PartialEq.eq c.args.index.now c.args.arrival.now.state) c.args.arrival.now.vector c.cover_near-place.result at c.index-candidates-place.result)
