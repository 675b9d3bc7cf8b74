use Rattle.std.proofs.Common.{◌≡◌, map, take}
use Rattle.sample_scene.specs.Rules.{driven}
use Rattle.sample_scene.proofs.rules.driven_parts.Given as goal

abbrev pub invariant-loop-name : goal.invariant-loop-name
invariant-loop-name l = l.parts ≡ map driven (take l.name-index l.names)
