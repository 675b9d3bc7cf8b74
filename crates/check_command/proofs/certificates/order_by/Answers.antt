use Rattle.check_command.proofs.Ordered.{order_is}
use Rattle.check_command.proofs.certificates.order_by.Goals as goal

pub returns : goal.returns
returns c = order_is c.args.book.now c.order.result _ c.new.ensures c.order.ensures.size c.order.ensures.closure
