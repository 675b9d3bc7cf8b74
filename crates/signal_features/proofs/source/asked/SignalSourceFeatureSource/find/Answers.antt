use Rattle.std.proofs.Common.{arith, sym}
use Rattle.std.specs.Option.{option_copied}
use Rattle.signal_features.specs.TableLaws.{named_small}
use Rattle.signal_features.proofs.source.asked.SignalSourceFeatureSource.find.Goals as goal

pub number-requires : goal.number-requires
number-requires c =
    let self = c.args.self.now in
    let small = named_small self.signals.now self.signalled.few_lights c.args.name.now (option_copied c.args.argument) c.in-Some.feature (sym c.in-Some.ensures) in
    omega (arith, small.high)
