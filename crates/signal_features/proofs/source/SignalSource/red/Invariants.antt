use Rattle.std.proofs.Common.{◌≡◌, ◌≤◌}
use Rattle.std.specs.Prelude.{count_by}
use Rattle.std.specs.List.{range_with_len}
use Rattle.signal_features.specs.Features.{is_red_place}
use Rattle.signal_features.proofs.source.SignalSource.red.Given as goal

abbrev pub invariant-loop-place : goal.invariant-loop-place
invariant-loop-place l =
    (l.count ≡ count_by (is_red_place l.self.network.now l.self.signals.now l.point l.tick) (range_with_len 0 l.place)) × (l.count ≤ l.place)
