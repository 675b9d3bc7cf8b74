use Rattle.std.proofs.Common.{◌++◌, length, sym, subst, ap, ◌∙◌, arith}
use Rattle.rulebook_order.specs.Answer.{IsAnswerList}
use Rattle.rulebook_order.specs.NoWorseBy.{NoWorseBy, no_worse_by}
use Rattle.rulebook_order.specs.VectorOrder.{Holds}
use Rattle.certificate_text.specs.Text.{HasText, text}
use Rattle.certificate_text.specs.declared.certificate.Certificate.{Certificate}
use Rattle.certificate_checker.specs.Answers.{vectors_of}
use Rattle.certificate_checker.specs.GoodCertificate.{IsGood, answers_of}
use Rattle.domination_proof.specs.Copies.{cert_of}
use Rattle.domination_proof.specs.Shown.{IsShown}
use Rattle.violation_measures.specs.Scenes.{features_of}
use Rattle.violation_measures.specs.SceneSources.{scene_of as source_scene}
use Rattle.maneuver_lattice.specs.Moves.{scene_of}
use Rattle.maneuver_lattice.specs.Scenes.{Scene}
use Rattle.maneuver_lattice.proofs.MoveLaws.{choices_few}
use Rattle.check_command.specs.Answers.{front_lines}
use Rattle.bound_scene.specs.BoundScenes.{graph_at}
use Rattle.check_command.specs.Answers.{rules_line}
use Rattle.rulebook_commands.proofs.Planned.{not_too_many, undominated}
use Rattle.check_command.proofs.Shown.{graph_same, may_drive, shown}
use Rattle.rulebook_commands.proofs.planning.plan_found.Goals as goal

pub found_is_accepted-requires-clause-shown : goal.found_is_accepted-requires-clause-shown
found_is_accepted-requires-clause-shown c =
    let g = c.args.graph.now in
    subst (λ rules. IsShown (graph_at (scene_of g.moves) g.source.now g.bound.now) (Holds (no_worse_by rules)) c.args.found.now) (sym c.new-order.ensures) c.requires.shown

pub found_has_a_text-requires-clause-shown : goal.found_has_a_text-requires-clause-shown
found_has_a_text-requires-clause-shown c =
    let g = c.args.graph.now in
    subst (λ rules. IsShown (graph_at (scene_of g.moves) g.source.now g.bound.now) (Holds (no_worse_by rules)) c.args.found.now) (sym c.new-order.ensures) c.requires.shown

pub found_has_a_text-requires-clause-choices : goal.found_has_a_text-requires-clause-choices
found_has_a_text-requires-clause-choices c = λ s reached. choices_few (scene_of c.args.graph.now.moves) s c.args.graph.now.moves.well_formed

pub answers_found-requires-clause-shown : goal.answers_found-requires-clause-shown
answers_found-requires-clause-shown c =
    let g = c.args.graph.now in
    subst (λ rules. IsShown (graph_at (scene_of g.moves) g.source.now g.bound.now) (Holds (no_worse_by rules)) c.args.found.now) (sym c.new-order.ensures) c.requires.shown

pub shown_text-requires-clause-lists : goal.shown_text-requires-clause-lists
shown_text-requires-clause-lists c =
    let g = c.args.graph.now in
    rw c.as_slice.ensures (may_drive (scene_of g.moves) (features_of (source_scene g.source.now)) g.bound.now g.bound_to c.in_ok-answers.answers c.in_ok-answers.ensures.attained)

pub returns : goal.returns
returns c =
    let files = c.args.scene.now.files in
    let s = c.requires.scene in
    let g = c.args.graph.now in
    let is = c.requires.graph in
    let same = graph_same files (scene_of g.moves) (features_of (source_scene g.source.now)) g.bound.now is.scene_is is.features_are is.bound_is in
    let rules = c.args.rules.now in
    let graph = graph_at (scene_of g.moves) g.source.now g.bound.now in
    let certificate = c.in_ok-certificate.certificate in
    let copied = c.in_ok-certificate.ensures in
    let found = c.args.found.now in
    let answers = c.in_ok-answers.answers in
    let made = c.in_ok-answers.ensures in
    let written = rw c.as_slice.ensures at c.in_ok-text.ensures in
    let accepted = c.found_is_accepted.ensures in
    let good : IsGood graph (NoWorseBy rules) certificate = subst (IsGood graph (NoWorseBy rules)) (sym copied) (subst (λ r. IsGood graph (NoWorseBy r) (cert_of found)) c.new-order.ensures accepted.good) in
    let answer : IsAnswerList graph (NoWorseBy rules) (vectors_of answers) = subst (IsAnswerList graph (NoWorseBy rules)) (ap (answers_of graph) (sym copied) ∙ sym made.vectors) (subst (λ r. IsAnswerList graph (NoWorseBy r) (answers_of graph (cert_of found))) c.new-order.ensures accepted.answer) in
    record {
      few = not_too_many files rules c.requires.order graph same c.requires.few;
      certificate = certificate;
      undominated = undominated files rules c.requires.order graph same found certificate copied c.requires.shown.parents c.requires.shown.labels;
      has_text = subst HasText (sym copied) c.found_has_a_text.ensures.has_text;
      answers = written.sorted;
      shows = shown files s.bound_to s.files.lattice rules c.requires.order certificate graph same answers
          g.lawful (search (c.requires.order.rules, is.bound_is)) good made.vectors made.choices made.attained answer written.sorted written.same written.in_order;
      says = written.says ∙ ap (λ (z : Scene). rules_line files.book.rules ++ front_lines z written.sorted) is.scene_is;
      saves = c.in_ok-bytes.ensures.exact;
      fits = omega (arith, c.found_has_a_text.ensures.short, ap length c.in_ok-bytes.ensures.exact, ap (λ (x : Certificate). length (text x)) copied);
    }
