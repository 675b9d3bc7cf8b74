use Rattle.std.proofs.Common.{refl, rules}
use Rattle.rulebook_commands.specs.DeriveFaults.{derive_fault_text}
use Rattle.rulebook_commands.proofs.Derivings.{no_step_stops}
use Rattle.rulebook_commands.proofs.derivations.test_child.Goals as goal

pub returns-in-Err : goal.returns-in-Err
returns-in-Err c =
    let found = c.in-Err.ensures.refuses in
    no_step_stops c.args.parent.now c.args.child.now found.0 c.in-Err.fault (derive_fault_text c.in-Err.fault) c.refuse_step.result refl found.1 found.2 found.3 c.refuse_step.ensures

pub returns-in_ok-to_vec-in-Ok : goal.returns-in_ok-to_vec-in-Ok
returns-in_ok-to_vec-in-Ok c =
    let parent = c.args.parent.now in
    let child = c.args.child.now in
    let taken = c.in-Ok.ensures in
    let driven = c.accepted_children_keep_trajectories.ensures in
    record {
      kind_is = c.in-Ok.kind;
      of_kind = taken.kind;
      step = taken.accepts;
      keeps = taken.keeps;
      driven = driven.carried parent child c.in-Ok.kind taken.carries;
      keeps_driven = driven.kept parent child c.in-Ok.kind taken.accepts taken.carries taken.keeps;
      says = search rules;
    }
