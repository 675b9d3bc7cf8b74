use Rattle.std.proofs.Common.{◌≡◌, ◌∙◌, length, map, sym, ap, arith}
use Rattle.std.specs.List.{range_with_len}
use Rattle.signal_features.proofs.LimitLaws.{speed_limit_is}
use Rattle.signal_features.specs.Features.{least, limit_at}
use Rattle.signal_features.proofs.source.SignalSource.speed_limit.Goals as goal

pub returns : goal.returns
returns c =
    let self = c.args.self.now in
    let all : c.loop-place.place ≡ length self.signals.now.uses = omega (arith, c.loop-place-test.false, c.loop-place.auto.place-end, ap length c.as_slice-place-end.ensures) in
    c.loop-place.invariant
    ∙ ap (λ n. least (map (limit_at self.network.now self.signals.now c.args.point) (range_with_len 0 n))) all
    ∙ speed_limit_is self.network.now self.signals.now c.args.point self.signalled.uses
