use Rattle.std.proofs.Common.{◌≡◌, ◌++◌, take}
use Rattle.std.specs.String.{string_bytes}
use Rattle.text_lines.specs.Lines.{cells}
use Rattle.rulebook_commands.proofs.showing.push_ids.Given as goal

abbrev pub invariant-loop-id : goal.invariant-loop-id
invariant-loop-id l = string_bytes l.out ≡ string_bytes l.initial.out ++ cells (take l.id-index l.ids)
