use Rattle.std.proofs.Common.{◌≡◌, ◌∙◌, ◌≤◌, length, sym, ap, arith}
use Rattle.std.specs.Prelude.{count_by}
use Rattle.std.specs.List.{range_with_len}
use Rattle.scenario_model.specs.declared.limits.TheConstants.{MAX_LANELETS}
use Rattle.signal_features.proofs.LimitLaws.{as_many, red_is}
use Rattle.signal_features.specs.Features.{is_red_place}
use Rattle.signal_features.proofs.source.SignalSource.red.Goals as goal

pub returns-clause-value : goal.returns-clause-value
returns-clause-value c =
    let self = c.args.self.now in
    let all : c.loop-place.place ≡ length self.signals.now.uses = omega (arith, c.loop-place-test.false, c.loop-place.auto.place-end, ap length c.as_slice-place-end.ensures) in
    c.loop-place.invariant.0
    ∙ ap (λ n. count_by (is_red_place self.network.now self.signals.now c.args.point c.args.tick) (range_with_len 0 n)) all
    ∙ red_is self.network.now self.signals.now c.args.point c.args.tick self.signalled.uses

pub returns-clause-few : goal.returns-clause-few
returns-clause-few c =
    let self = c.args.self.now in
    let few : length self.network.now ≤ MAX_LANELETS = omega (arith, self.scene.few_lanelets, ap length self.same) in
    omega (arith, few, as_many self.network.now self.signals.now self.signalled.uses, c.loop-place.invariant.1, c.loop-place.auto.place-end, ap length c.as_slice-place-end.ensures)
