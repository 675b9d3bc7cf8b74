use Rattle.std.proofs.Common.{◌≡◌, take}
use Rattle.signal_features.specs.Signals.{sign_ids}
use Rattle.signal_features.proofs.uses.sign_ids.Given as goal

abbrev pub invariant-loop-sign : goal.invariant-loop-sign
invariant-loop-sign l = l.ids ≡ sign_ids (take l.sign-index l.found.signs)
