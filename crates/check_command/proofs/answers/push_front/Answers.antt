use Rattle.std.proofs.Common.{Bor, subst, sym}
use Rattle.certificate_checker.specs.declared.checked.Attained.{Attained}
use Rattle.maneuver_lattice.specs.Moves.{scene_of}
use Rattle.check_command.specs.Driven.{HasList}
use Rattle.check_command.proofs.Ways.{each_now}
use Rattle.check_command.proofs.answers.push_front.Goals as goal

pub push_answer-requires-clause-list : goal.push_answer-requires-clause-list
push_answer-requires-clause-list c =
    let scene = scene_of c.args.graph.now.moves in
    subst (λ (x : Bor Attained). HasList scene x.now) (sym c.answer-item.is) (each_now (HasList scene) c.args.answers.now c.requires.lists c.loop-answer.answer-index _ c.loop-answer-test.true)
