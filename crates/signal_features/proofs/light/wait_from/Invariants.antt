use Rattle.std.proofs.Common.{◌≡◌, ◌≤◌, ◌+◌, ◌*◌, drop}
use Rattle.std.specs.Option.{option_map}
use Rattle.signal_features.specs.Lights.{wait_from}
use Rattle.signal_features.specs.declared.limits.TheConstants.{MAX_PHASE_TICKS}
use Rattle.signal_features.proofs.light.wait_from.Given as goal

abbrev pub invariant-loop-phase : goal.invariant-loop-phase
invariant-loop-phase l =
    (option_map (λ n. l.waited + n) (wait_from (drop l.phase-index l.phases) l.place) ≡ wait_from l.phases l.fn.place)
    × (l.waited ≤ l.phase-index * MAX_PHASE_TICKS)
