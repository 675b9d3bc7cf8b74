use Rattle.std.proofs.Common.{Bor, map}
use Rattle.std.proofs.lemmas.List.Sorted.{All-permutation}
use Rattle.certificate_checker.specs.declared.checked.Attained.{Attained}
use Rattle.maneuver_lattice.specs.Moves.{scene_of}
use Rattle.check_command.specs.Driven.{HasList}
use Rattle.check_command.proofs.certificates.shown_text.Goals as goal

pub push_front-requires-clause-lists : goal.push_front-requires-clause-lists
push_front-requires-clause-lists c =
    rw c.deref.ensures.value (All-permutation (HasList (scene_of c.args.graph.now.moves)) c.args.answers.now (map (λ (a : Bor Attained). a.now) c.in_ok-sorted.sorted.items) c.in_ok-sorted.ensures.same c.requires.lists)
