use Rattle.std.proofs.lemmas.Result.{err_from_is_err_and}
use Rattle.bound_scene.proofs.scenes.bind_scene.Goals as goal

pub returns-in_err-bound-clause-loads : goal.returns-in_err-bound-clause-loads
returns-in_err-bound-clause-loads c =
    let s = c.from_residual-in_err-bound in
    let p = err_from_is_err_and s.result s.ensures.1 in
    λ at. rw (p.1, p.2) (c.in_err-bound.ensures.loads at)
