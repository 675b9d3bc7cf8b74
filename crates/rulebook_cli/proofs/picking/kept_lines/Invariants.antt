use Rattle.std.proofs.Common.{◌≡◌, take}
use Rattle.std.specs.List.{flat_map}
use Rattle.rulebook_cli.specs.Pick.{line_at}
use Rattle.rulebook_cli.proofs.picking.kept_lines.Given as goal

abbrev pub invariant-loop-place : goal.invariant-loop-place
invariant-loop-place l = l.text.items ≡ flat_map (line_at l.rows) (take l.place-index l.places)
