use Rattle.std.proofs.Common.{◌≡◌, drop}
use Rattle.signal_features.specs.Lights.{is_red_at}
use Rattle.signal_features.proofs.light.is_red_at.Given as goal

abbrev pub invariant-loop-phase : goal.invariant-loop-phase
invariant-loop-phase l = is_red_at (drop l.phase-index l.phases) l.place ≡ is_red_at l.phases l.fn.place
