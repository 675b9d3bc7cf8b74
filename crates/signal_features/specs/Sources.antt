-- What a source of the features of a scene with signals is over.
use Rattle.violation_measures.specs.SceneSources.{scene_of}
use Rattle.signal_features.specs.Features.{Signalled}
use Rattle.signal_features.specs.declared.source.SignalSource.{SignalSource}

abbrev pub signalled_of : SignalSource → Signalled
signalled_of source =
    record { scene = scene_of source.scene; signals = source.signals.now }
