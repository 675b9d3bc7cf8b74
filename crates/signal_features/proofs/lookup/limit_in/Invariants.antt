use Rattle.std.proofs.Common.{◌≡◌, take}
use Rattle.std.specs.List.{filter_map}
use Rattle.signal_features.specs.Features.{least, limit_with}
use Rattle.signal_features.proofs.lookup.limit_in.Given as goal

abbrev pub invariant-loop-id : goal.invariant-loop-id
invariant-loop-id l =
    l.least ≡ least (filter_map (limit_with l.signals.signs) (take l.id-index l.used.signs))
