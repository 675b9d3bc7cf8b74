use Rattle.std.proofs.Common.{◌≡◌, ◌≤◌, map, pos}
use Rattle.std.specs.Prelude.{count_by}
use Rattle.std.specs.List.{range_with_len}
use Rattle.signal_features.specs.Features.{least, limit_at}
use Rattle.signal_features.proofs.source.SignalSource.speed_limit.Given as goal

abbrev pub invariant-loop-place : goal.invariant-loop-place
invariant-loop-place l =
    l.least ≡ least (map (limit_at l.self.network.now l.self.signals.now l.point) (range_with_len 0 l.place))
