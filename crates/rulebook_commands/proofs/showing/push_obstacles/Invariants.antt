use Rattle.std.proofs.Common.{◌≡◌, ◌++◌, take}
use Rattle.std.specs.List.{flat_map}
use Rattle.std.specs.String.{string_bytes}
use Rattle.rulebook_commands.specs.Show.{obstacle_line}
use Rattle.rulebook_commands.proofs.showing.push_obstacles.Given as goal

abbrev pub invariant-loop-obstacle : goal.invariant-loop-obstacle
invariant-loop-obstacle l = string_bytes l.out ≡ string_bytes l.initial.out ++ flat_map obstacle_line (take l.obstacle-index l.obstacles)
