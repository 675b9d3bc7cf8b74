use Rattle.std.proofs.Common.{◌≡◌, Ok, refl, subst}
use Rattle.std.proofs.lemmas.Result.{err_from_is_err_and}
use Rattle.violation_measures.specs.Scenes.{features_of}
use Rattle.violation_measures.specs.SceneSources.{scene_of as source_scene}
use Rattle.maneuver_lattice.specs.Moves.{scene_of}
use Rattle.maneuver_lattice.specs.Scenes.{Scene}
use Rattle.command_outcome.specs.declared.outcome.Role.TheVariants as role
use Rattle.command_outcome.specs.declared.outcome.Status.TheVariants as status
use Rattle.command_outcome.specs.Ends.{TestStops}
use Rattle.command_outcome.proofs.HavingInputs.{nothing_yet, one_more, none_more, has_tested, test_stops}
use Rattle.command_outcome.proofs.Serving.{made, stops}
use Rattle.rulebook_commands.specs.MoveList.{list_told}
use Rattle.bound_scene.specs.SceneInputs.{scene}
use Rattle.rulebook_commands.specs.Walk.{walk_inputs, walk_task}
use Rattle.command_outcome.proofs.HavingInputs.{has_given}
use Rattle.rulebook_commands.proofs.WalkTexts.{walk_says}
use Rattle.rulebook_commands.proofs.walking.walk.Goals as goal

pub returns-in_err-files : goal.returns-in_err-files
returns-in_err-files g c =
    let p = err_from_is_err_and c.from_residual.result c.from_residual.ensures.1 in
    let inputs = walk_inputs c.args.scenario.now c.args.book.now c.args.lattice.now c.args.list.now in
    rw (p.1, p.2) (stops (walk_task c.args.scenario.now c.args.book.now c.args.lattice.now c.args.list.now) _ _ c.in_err-files.field-0.0
    (none_more (nothing_yet inputs _) _ c.in_err-files.field-0.0 c.in_err-files.ensures.loads))

pub returns-in_err-scene : goal.returns-in_err-scene
returns-in_err-scene g c =
    let p = err_from_is_err_and c.from_residual-in_err-scene.result c.from_residual-in_err-scene.ensures.1 in
    let inputs = walk_inputs c.args.scenario.now c.args.book.now c.args.lattice.now c.args.list.now in
    rw (p.1, p.2) (stops (walk_task c.args.scenario.now c.args.book.now c.args.lattice.now c.args.list.now) _ _ c.in_err-scene.field-0.0
    (none_more (one_more (nothing_yet inputs _) c.in_ok-files.ensures.loads) _ c.in_err-scene.field-0.0 (c.in_err-scene.ensures.loads _)))

pub returns-in_err-walked : goal.returns-in_err-walked
returns-in_err-walked g c =
    let p = err_from_is_err_and c.from_residual-in_err-walked.result c.from_residual-in_err-walked.ensures.1 in
    let inputs = walk_inputs c.args.scenario.now c.args.book.now c.args.lattice.now c.args.list.now in
    let files = c.in_ok-scene.scene.files in
    let end = c.in_err-walked.field-0.0 in
    let tests : TestStops role.List (list_told (scene files) c.args.list.now) end = subst (λ (s : Scene). TestStops role.List (list_told s c.args.list.now) end) c.graph_of-graph.ensures.scene_is c.in_err-walked.ensures.tests in
    rw (p.1, p.2) (stops (walk_task c.args.scenario.now c.args.book.now c.args.lattice.now c.args.list.now) _ _ end
    (none_more (one_more (one_more (nothing_yet inputs _) c.in_ok-files.ensures.loads) (c.in_ok-scene.ensures.loads _)) _ end (test_stops role.List (list_told (scene files) c.args.list.now) _ end tests)))

pub returns-in_err-vector : goal.returns-in_err-vector
returns-in_err-vector g c =
    let p = err_from_is_err_and c.from_residual-in_err-vector.result c.from_residual-in_err-vector.ensures.1 in
    rw (p.1, p.2) c.in_ok-files.ensures.loads.stands

pub returns-in_err-text : goal.returns-in_err-text
returns-in_err-text g c =
    let p = err_from_is_err_and c.from_residual-in_err-text.result c.from_residual-in_err-text.ensures.1 in
    rw (p.1, p.2) c.in_ok-files.ensures.loads.stands

pub returns : goal.returns
returns g c =
    let inputs = walk_inputs c.args.scenario.now c.args.book.now c.args.lattice.now c.args.list.now in
    let files = c.in_ok-scene.scene.files in
    let graph = c.graph_of-graph.result in
    let is = c.graph_of-graph.ensures in
    let w = c.in_ok-walked.walked in
    let tests : list_told (scene files) c.args.list.now ≡ Ok w.choices = subst (λ (s : Scene). list_told s c.args.list.now ≡ Ok w.choices) is.scene_is c.in_ok-walked.ensures.tests in
    let says = walk_says files (scene_of graph.moves) (features_of (source_scene graph.source.now)) graph.bound.now is.scene_is is.features_are is.bound_is
    c.in_ok-scene.ensures.scene.bound_to c.in_ok-scene.ensures.scene.files.lattice w.choices w.state w.vector c.in_ok-vector.vector c.is_goal.result c.in_ok-text.text.items
    c.in_ok-walked.ensures.reaches.reaches c.in_ok-vector.ensures c.is_goal.ensures c.in_ok-text.ensures in
    let had = (one_more (one_more (one_more (nothing_yet inputs _) c.in_ok-files.ensures.loads) (c.in_ok-scene.ensures.loads _)) (has_tested role.List (list_told (scene files) c.args.list.now) _ w.choices tests)).has _ (files, w.choices) (has_given (files, w.choices) _) in
    made (walk_task c.args.scenario.now c.args.book.now c.args.lattice.now c.args.list.now) _ _ (files, w.choices) had status.Done c.in_ok-text.text.items
    (λ before. record { done = refl; stays = refl; says = says })
