-- What is due to `check` over its inputs.
use Rattle.std.proofs.Common.{ℕ, List, Result, Ok, Err, Vec, refl, ap, inl, inr}
use Rattle.std.specs.declared.alloc.Global.{Global}
use Rattle.certificate_text.specs.declared.certificate.Certificate.{Certificate}
use Rattle.command_outcome.specs.declared.outcome.Ending.TheVariants as ending
use Rattle.command_outcome.specs.declared.outcome.Status.TheVariants as status
use Rattle.command_outcome.specs.declared.outcome.Stop.{Stop}
use Rattle.command_outcome.specs.declared.outcome.Stop.TheVariants as stop
use Rattle.command_outcome.specs.Ends.{Has, Serves, Shelf}
use Rattle.command_outcome.proofs.Serving.{ends, made, outcome}
use Rattle.check_command.specs.Check.{Checks, check_inputs, check_task, rejected_text}
use Rattle.bound_scene.specs.declared.scene_files.SceneFiles.{SceneFiles}

module _ (scenario book lattice name : List ℕ) (old mid : Shelf) (files : SceneFiles) (certificate : Certificate) (had : Has (check_inputs scenario book lattice name) old mid (files, certificate)) where
  pub checks_serve : (result : Result (Vec ℕ Global) Stop) → Checks files certificate result → Serves (check_task scenario book lattice name) old mid result
  checks_serve (Ok text) h =
      made (check_task scenario book lattice name) old mid (files, certificate) had status.Done text.items
      (λ before. inl (record { answers = h.answers; shows = h.shows; is = ap (λ (t : List ℕ). outcome status.Done t before) h.says }))
  checks_serve (Err stop.NoMemory) h = had.stands
  checks_serve (Err (stop.Ended e text)) h =
      ends (check_task scenario book lattice name) old mid (files, certificate) had ending.Rejected (rejected_text h.0 h.1) (stop.Ended e text) h.3
      (λ before. inr (record { number = h.0; label = h.1; fails = h.2; is = refl }))
  checks_serve (Err (stop.Unread role)) h = absurd h
  checks_serve (Err stop.Unsaved) h = absurd h
