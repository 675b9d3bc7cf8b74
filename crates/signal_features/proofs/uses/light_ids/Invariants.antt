use Rattle.std.proofs.Common.{◌≡◌, take}
use Rattle.signal_features.specs.Signals.{light_ids}
use Rattle.signal_features.proofs.uses.light_ids.Given as goal

abbrev pub invariant-loop-light : goal.invariant-loop-light
invariant-loop-light l = l.ids ≡ light_ids (take l.light-index l.found.lights)
