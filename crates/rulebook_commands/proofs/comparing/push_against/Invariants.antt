use Rattle.std.proofs.Common.{map, take}
use Rattle.rulebook_order.specs.NoWorseBy.{IsVerdictBy}
use Rattle.rulebook_commands.specs.Compare.{AddsLines, IsPairLine}
use Rattle.rulebook_commands.proofs.comparing.push_against.Given as goal

abbrev pub invariant-loop-other : goal.invariant-loop-other
invariant-loop-other l = AddsLines (IsPairLine (IsVerdictBy l.order) l.rules) (map (λ other. (l.first, other)) (take l.other-index l.others)) l.initial.out.items l.out.items
