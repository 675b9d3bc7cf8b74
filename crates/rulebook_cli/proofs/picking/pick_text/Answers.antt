use Rattle.std.proofs.Common.{length, refl, ◌∙◌, ap}
use Rattle.rulebook_order.specs.Front.{vectors_of}
use Rattle.rulebook_order.proofs.Agree.{IsFront-pairs}
use Rattle.rulebook_cli.specs.Pick.{kept_lines}
use Rattle.rulebook_cli.proofs.Fronts.{places_inside}
use Rattle.rulebook_cli.proofs.picking.pick_text.Goals as goal

pub kept_lines-requires : goal.kept_lines-requires
kept_lines-requires c = rw c.as_slice.ensures (places_inside _ c.args.rows.now c.in_ok-places.places c.in_ok-places.ensures)

pub returns : goal.returns
returns c = (
  c.in_ok-places.places,
  IsFront-pairs c.order-rules.result c.args.book.now.statements (length c.args.book.now.rules) c.order-rules.ensures.size c.order-rules.ensures.closure (record { order = c.order-rules.result }) refl (vectors_of c.args.rows.now) c.in_ok-places.places c.in_ok-places.ensures,
  c.in_ok-text.ensures ∙ ap (kept_lines c.args.rows.now) c.as_slice.ensures,
)
