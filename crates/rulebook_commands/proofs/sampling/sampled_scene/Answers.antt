use Rattle.std.proofs.lemmas.Result.{err_from_is_err_and}
use Rattle.rulebook_commands.proofs.Sampled.{sampled_files, sampled_stops}
use Rattle.rulebook_commands.proofs.sampling.sampled_scene.Goals as goal

pub returns-clause-files : goal.returns-clause-files
returns-clause-files c =
    let of = c.in_ok-scenario in
    sampled_files c.args.number of.field-0 of.ensures.value of.ensures.starts of.ensures.binds c.in_ok-scene.scene.files c.in_ok-scene.ensures.loads

pub returns-in_err-scene-clause-memory : goal.returns-in_err-scene-clause-memory
returns-in_err-scene-clause-memory c =
    let of = c.in_ok-scenario in
    let p = err_from_is_err_and c.from_residual-in_err-scene.result c.from_residual-in_err-scene.ensures.1 in
    rw (p.1, p.2) (sampled_stops c.args.number of.field-0 of.ensures.value of.ensures.starts of.ensures.binds c.in_err-scene.field-0.0 c.in_err-scene.ensures.loads)
