use Rattle.std.proofs.Common.{refl}
use Rattle.check_command.proofs.Ordered.{order_is}
use Rattle.rulebook_commands.proofs.ordering.rules_by.Goals as goal

pub returns : goal.returns
returns c = order_is c.args.book.now c.order.result c.order.result refl c.order.ensures.size c.order.ensures.closure
