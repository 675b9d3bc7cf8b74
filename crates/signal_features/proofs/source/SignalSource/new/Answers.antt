use Rattle.signal_features.specs.SourceLaws.{scene_table}
use Rattle.signal_features.specs.TableLaws.{has_rows}
use Rattle.signal_features.proofs.source.SignalSource.new.Goals as goal

pub returns-clause-table : goal.returns-clause-table
returns-clause-table c =
    has_rows _ c.requires.signalled.few_lights (scene_table c.args.scene.now)
