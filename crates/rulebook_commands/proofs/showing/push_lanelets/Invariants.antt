use Rattle.std.proofs.Common.{◌≡◌, ◌++◌, take}
use Rattle.std.specs.List.{flat_map}
use Rattle.std.specs.String.{string_bytes}
use Rattle.rulebook_commands.specs.Show.{lanelet_line}
use Rattle.rulebook_commands.proofs.showing.push_lanelets.Given as goal

abbrev pub invariant-loop-lanelet : goal.invariant-loop-lanelet
invariant-loop-lanelet l = string_bytes l.out ≡ string_bytes l.initial.out ++ flat_map lanelet_line (take l.lanelet-index l.lanelets)
