use Rattle.std.proofs.Common.{◌++◌, ap, ◌∙◌}
use Rattle.std.proofs.lemmas.Result.{err_from_is_err_and}
use Rattle.rulebook_order.specs.PairOrder.{order_of}
use Rattle.violation_measures.specs.Scenes.{features_of}
use Rattle.violation_measures.specs.SceneSources.{scene_of as source_scene}
use Rattle.maneuver_lattice.specs.Moves.{scene_of}
use Rattle.maneuver_lattice.specs.Scenes.{Scene}
use Rattle.check_command.specs.Answers.{front_lines}
use Rattle.bound_scene.specs.BoundScenes.{graph_at}
use Rattle.check_command.specs.Answers.{rules_line}
use Rattle.check_command.proofs.Shown.{graph_same, may_drive, rejected, shown}
use Rattle.check_command.proofs.certificates.show_answers.Goals as goal

pub returns-in_err-checked-clause-rejected : goal.returns-in_err-checked-clause-rejected
returns-in_err-checked-clause-rejected c =
    let p = err_from_is_err_and c.from_residual.result c.from_residual.ensures.1 in
    let g = c.args.graph.now in
    let files = c.args.scene.now.files in
    let is = c.requires.graph in
    let same = graph_same files (scene_of g.moves) (features_of (source_scene g.source.now)) g.bound.now is.scene_is is.features_are is.bound_is in
    let s = c.requires.scene in
    rw (p.1, p.2) (rejected files s.bound_to s.files.lattice (order_of c.args.order.now) c.requires.order c.args.certificate.now (graph_at (scene_of g.moves) g.source.now g.bound.now) same c.in_err-checked.field-0.0 c.in_err-checked.ensures.rejected)

pub shown_text-requires-clause-lists : goal.shown_text-requires-clause-lists
shown_text-requires-clause-lists c =
    let g = c.args.graph.now in
    rw c.as_slice.ensures (may_drive (scene_of g.moves) (features_of (source_scene g.source.now)) g.bound.now g.bound_to c.in_ok-checked.checked.answers c.in_ok-checked.ensures.attained)

pub returns-clause-shown : goal.returns-clause-shown
returns-clause-shown c =
    let g = c.args.graph.now in
    let files = c.args.scene.now.files in
    let is = c.requires.graph in
    let same = graph_same files (scene_of g.moves) (features_of (source_scene g.source.now)) g.bound.now is.scene_is is.features_are is.bound_is in
    let s = c.requires.scene in
    let found = c.in_ok-checked.ensures in
    let text = rw c.as_slice.ensures at c.in_ok-text.ensures in
    record {
      answers = text.sorted;
      shows = shown files s.bound_to s.files.lattice (order_of c.args.order.now) c.requires.order c.args.certificate.now (graph_at (scene_of g.moves) g.source.now g.bound.now) same c.in_ok-checked.checked.answers
          g.lawful (search (c.requires.order.rules, is.bound_is)) found.good found.vectors found.choices found.attained found.answer text.sorted text.same text.in_order;
      says = text.says ∙ ap (λ (z : Scene). c.args.words.now ++ (rules_line files.book.rules ++ front_lines z text.sorted)) is.scene_is;
    }
