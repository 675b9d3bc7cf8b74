use Rattle.std.specs.Prelude.{codes}
use Rattle.std.proofs.Common.{ap, ◌∙◌}
use Rattle.sample_scene.specs.Maneuvers.{down}
use Rattle.sample_scene.proofs.Loops.{two_more}
use Rattle.sample_scene.proofs.maneuvers.add_slower.Goals as goal

pub returns : goal.returns
returns c =
    two_more c.args.them.now c.push.new.self c.push-2.new.self c.in_ok-changing.field-0 c.in_ok-changing-2.field-0 (down (codes "down_mid") 1 0 10000) (down (codes "down_fast") 2 1 15000)
    c.in_ok-push.ensures.ok c.in_ok-push-2.ensures.ok
    (c.in_ok-changing.ensures ∙ ap (λ name. down name 1 0 10000) c.name.ensures)
    (c.in_ok-changing-2.ensures ∙ ap (λ name. down name 2 1 15000) c.name-2.ensures)
