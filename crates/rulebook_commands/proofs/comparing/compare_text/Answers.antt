use Rattle.std.proofs.Common.{length}
use Rattle.rulebook_order.specs.NoWorseBy.{IsVerdictBy}
use Rattle.rulebook_order.specs.NoWorseUnder.{IsVerdictUnder}
use Rattle.rulebook_order.proofs.Agree.{IsVerdictBy-statements}
use Rattle.rulebook_commands.specs.Compare.{IsPairLine}
use Rattle.rulebook_order.specs.Pairs.{later_pairs}
use Rattle.rulebook_commands.proofs.Lines.{compared_more, compared_all, lines_agree, nothing_left, split_first}
use Rattle.rulebook_commands.proofs.comparing.compare_text.Goals as goal

pub loop-rest-preserved : goal.loop-rest-preserved
loop-rest-preserved c =
    compared_more (IsPairLine (IsVerdictBy c.order-order.result) c.args.book.now.rules) (length c.args.book.now.rules) c.args.rows.now c.loop-rest.rest.now
    c.first-item.result _ c.loop-rest.text.items c.push_against.new.out.items c.loop-rest.invariant (split_first c.loop-rest.rest.now _ c.first-item.result c.in-len1-up.len_at_least c.first-item.is) (rw c.as_slice.ensures at c.in_ok-push_against.ensures)

pub returns : goal.returns
returns c =
    lines_agree (IsPairLine (IsVerdictBy c.order-order.result) c.args.book.now.rules) (IsPairLine (IsVerdictUnder c.args.book.now.statements (length c.args.book.now.rules)) c.args.book.now.rules)
    (λ pair line h. (h.0, (IsVerdictBy-statements c.order-order.result c.args.book.now.statements (length c.args.book.now.rules) c.order-order.ensures.size c.order-order.ensures.closure pair.0.values pair.1.values h.0).0 h.1, h.2))
    (later_pairs c.args.rows.now) c.loop-rest.text.items
    (compared_all (IsPairLine (IsVerdictBy c.order-order.result) c.args.book.now.rules) (length c.args.book.now.rules) c.args.rows.now c.loop-rest.rest.now c.loop-rest.text.items c.loop-rest.invariant
    (nothing_left c.loop-rest.rest.now c.in_default.len_below))
