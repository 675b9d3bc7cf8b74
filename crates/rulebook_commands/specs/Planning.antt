-- What is planned over a scene, before anything is saved. This project's own.
use Rattle.std.specs.Prelude.{Result, Ok, Err, ⊤, codes}
use Rattle.command_outcome.specs.declared.outcome.Ending.TheVariants as ending
use Rattle.command_outcome.specs.declared.outcome.Stop.{Stop}
use Rattle.command_outcome.specs.declared.outcome.Stop.TheVariants as stop
use Rattle.command_outcome.specs.Outcome.{EndsAs}
use Rattle.rulebook_commands.specs.Plan.{HasTooMany, IsPlan}
use Rattle.rulebook_commands.specs.declared.planning.Planned.{Planned}
use Rattle.bound_scene.specs.declared.scene_files.SceneFiles.{SceneFiles}

-- too many labels, or want of memory
abbrev pub StopsTooMuch : SceneFiles → Stop → Type 0
StopsTooMuch files stop.NoMemory = ⊤
StopsTooMuch files (stop.Ended e text) =
    HasTooMany files × EndsAs ending.TooManyLabels (codes "too many labels\n") (stop.Ended e text)
StopsTooMuch files (stop.Unread role) = ⊥
StopsTooMuch files stop.Unsaved = ⊥

abbrev pub Plans : SceneFiles → Result Planned Stop → Type 0
Plans files (Ok planned) = IsPlan files planned.text.items planned.certificate.items
Plans files (Err end) = StopsTooMuch files end
