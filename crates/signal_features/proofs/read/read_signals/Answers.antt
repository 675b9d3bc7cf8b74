use Rattle.signal_features.proofs.UseLaws.{is_tree, has_root, read_told, sound_told, fault_told}
use Rattle.signal_features.proofs.read.read_signals.Goals as goal

pub signals_in-requires : goal.signals_in-requires
signals_in-requires c =
    has_root c.args.bytes.now c.args.scenario.now c.in-Ok.tree (is_tree c.args.bytes.now c.args.scenario.now c.in-Ok.tree c.requires c.in-Ok.ensures.exact c.in-Ok.ensures.source)

pub returns-in-Ok-clause-read : goal.returns-in-Ok-clause-read
returns-in-Ok-clause-read c =
    read_told c.args.bytes.now c.args.scenario.now c.in-Ok.tree c.signals_in.result (is_tree c.args.bytes.now c.args.scenario.now c.in-Ok.tree c.requires c.in-Ok.ensures.exact c.in-Ok.ensures.source) c.signals_in.ensures.exact

pub returns-in-Ok-clause-sound : goal.returns-in-Ok-clause-sound
returns-in-Ok-clause-sound c =
    sound_told c.args.bytes.now c.args.scenario.now c.in-Ok.tree c.signals_in.result (is_tree c.args.bytes.now c.args.scenario.now c.in-Ok.tree c.requires c.in-Ok.ensures.exact c.in-Ok.ensures.source) c.signals_in.ensures.exact c.signals_in.ensures.sound

pub returns-in-Ok-clause-fault : goal.returns-in-Ok-clause-fault
returns-in-Ok-clause-fault c =
    fault_told c.args.bytes.now c.args.scenario.now c.in-Ok.tree c.signals_in.result (is_tree c.args.bytes.now c.args.scenario.now c.in-Ok.tree c.requires c.in-Ok.ensures.exact c.in-Ok.ensures.source) c.signals_in.ensures.exact
