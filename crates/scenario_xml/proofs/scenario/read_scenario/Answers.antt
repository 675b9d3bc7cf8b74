use Rattle.std.proofs.Common.{rules}
use Rattle.reading.specs.Reading.{Gives}
use Rattle.scenario_model.specs.declared.scenario.Scenario.{Scenario}
use Rattle.scenario_xml.specs.Faults.{is_memory}
use Rattle.scenario_xml.specs.Scenarios.{scenario}
use Rattle.scenario_xml.proofs.FaultLaw.{first_if_refused}
use Rattle.scenario_xml.proofs.FaultTold.{only_fault_if_refused}
use Rattle.scenario_xml.proofs.MarkupFaults.{markup_told}
use Rattle.scenario_xml.proofs.ScenarioLaw.{read_if_ok, only_if_ok, none_if_refused}
use Rattle.scenario_xml.proofs.scenario.read_scenario.Goals as goal

pub returns-in_err-tree-clause-refused : goal.returns-in_err-tree-clause-refused
unfolding scenario
returns-in_err-tree-clause-refused c =
    let exact : Gives is_memory (λ (s : Scenario). s) c.from_residual.result (scenario c.args.bytes.now) = search rules in
    none_if_refused c.args.bytes.now c.from_residual.result exact

pub returns-in_err-tree-clause-first : goal.returns-in_err-tree-clause-first
unfolding scenario
returns-in_err-tree-clause-first c =
    let exact : Gives is_memory (λ (s : Scenario). s) c.from_residual.result (scenario c.args.bytes.now) = search rules in
    first_if_refused c.args.bytes.now c.from_residual.result exact

pub returns-clause-read : goal.returns-clause-read
unfolding scenario
returns-clause-read c =
    let exact : Gives is_memory (λ (s : Scenario). s) c.scenario_in.result (scenario c.args.bytes.now) = search rules in
    read_if_ok c.args.bytes.now c.scenario_in.result exact

pub returns-clause-refused : goal.returns-clause-refused
unfolding scenario
returns-clause-refused c =
    let exact : Gives is_memory (λ (s : Scenario). s) c.scenario_in.result (scenario c.args.bytes.now) = search rules in
    none_if_refused c.args.bytes.now c.scenario_in.result exact

pub returns-clause-first : goal.returns-clause-first
unfolding scenario
returns-clause-first c =
    let exact : Gives is_memory (λ (s : Scenario). s) c.scenario_in.result (scenario c.args.bytes.now) = search rules in
    first_if_refused c.args.bytes.now c.scenario_in.result exact

pub returns-clause-only : goal.returns-clause-only
unfolding scenario
returns-clause-only c =
    let exact : Gives is_memory (λ (s : Scenario). s) c.scenario_in.result (scenario c.args.bytes.now) = search rules in
    only_if_ok c.args.bytes.now c.scenario_in.result exact

pub returns-in_err-tree-clause-only_fault : goal.returns-in_err-tree-clause-only_fault
unfolding scenario
returns-in_err-tree-clause-only_fault c =
    let exact : Gives is_memory (λ (s : Scenario). s) c.from_residual.result (scenario c.args.bytes.now) = search rules in
    only_fault_if_refused c.args.bytes.now c.from_residual.result exact

pub returns-clause-only_fault : goal.returns-clause-only_fault
unfolding scenario
returns-clause-only_fault c =
    let exact : Gives is_memory (λ (s : Scenario). s) c.scenario_in.result (scenario c.args.bytes.now) = search rules in
    only_fault_if_refused c.args.bytes.now c.scenario_in.result exact

pub returns-in_err-tree-clause-markup : goal.returns-in_err-tree-clause-markup
unfolding scenario
returns-in_err-tree-clause-markup c =
    let exact : Gives is_memory (λ (s : Scenario). s) c.from_residual.result (scenario c.args.bytes.now) = search rules in
    markup_told c.args.bytes.now c.from_residual.result exact

pub returns-clause-markup : goal.returns-clause-markup
unfolding scenario
returns-clause-markup c =
    let exact : Gives is_memory (λ (s : Scenario). s) c.scenario_in.result (scenario c.args.bytes.now) = search rules in
    markup_told c.args.bytes.now c.scenario_in.result exact
