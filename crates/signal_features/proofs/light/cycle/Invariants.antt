use Rattle.std.proofs.Common.{◌≡◌, ◌≤◌, ◌*◌, take}
use Rattle.signal_features.specs.Lights.{cycle}
use Rattle.signal_features.specs.declared.limits.TheConstants.{MAX_PHASE_TICKS}
use Rattle.signal_features.proofs.light.cycle.Given as goal

abbrev pub invariant-loop-phase : goal.invariant-loop-phase
invariant-loop-phase l =
    (l.ticks ≡ cycle (take l.phase-index l.phases)) × (l.ticks ≤ l.phase-index * MAX_PHASE_TICKS) × (l.phase-index ≤ l.ticks)
