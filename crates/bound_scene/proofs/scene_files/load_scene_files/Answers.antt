use Rattle.std.proofs.lemmas.Result.{err_from_is_err_and}
use Rattle.command_outcome.proofs.HavingInputs.{nothing_yet, one_more, none_more}
use Rattle.bound_scene.specs.SceneInputs.{scene_files}
use Rattle.bound_scene.proofs.scene_files.load_scene_files.Goals as goal

pub returns-in_err-lattice-clause-loads : goal.returns-in_err-lattice-clause-loads
returns-in_err-lattice-clause-loads g c =
    let p = err_from_is_err_and c.from_residual-in_err-lattice.result c.from_residual-in_err-lattice.ensures.1 in
    rw (p.1, p.2) (none_more (one_more (one_more (nothing_yet (scene_files c.args.scenario.now c.args.book.now c.args.lattice.now) _) c.in_ok-scenario.ensures.loads) c.in_ok-book.ensures.loads) _ c.in_err-lattice.field-0.0 c.in_err-lattice.ensures.loads)
