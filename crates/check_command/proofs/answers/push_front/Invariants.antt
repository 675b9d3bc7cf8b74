use Rattle.std.proofs.Common.{◌≡◌, ◌++◌, Bor, map, take}
use Rattle.std.specs.List.{flat_map}
use Rattle.certificate_checker.specs.declared.checked.Attained.{Attained}
use Rattle.maneuver_lattice.specs.Moves.{scene_of}
use Rattle.check_command.specs.Answers.{answer_line}
use Rattle.check_command.proofs.answers.push_front.Given as goal

abbrev pub invariant-loop-answer : goal.invariant-loop-answer
invariant-loop-answer l = l.out.items ≡ l.initial.out.items ++ flat_map (answer_line (scene_of l.graph.moves)) (map (λ (a : Bor Attained). a.now) (take l.answer-index l.answers))
