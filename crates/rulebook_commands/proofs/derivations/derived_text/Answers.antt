use Rattle.std.proofs.Common.{refl}
use Rattle.rulebook_commands.specs.DeriveFaults.{derive_fault_text}
use Rattle.rulebook_commands.proofs.Derivings.{no_script_stops}
use Rattle.rulebook_commands.proofs.derivations.derived_text.Goals as goal

pub returns-in-Err : goal.returns-in-Err
returns-in-Err c = no_script_stops c.args.parent.now c.args.script.now c.in-Err.fault (derive_fault_text c.in-Err.fault) c.refuse_step.result refl c.in-Err.ensures.refuses c.refuse_step.ensures
