-- A scenario as an input, with the text of each fault. This project's own.
use Rattle.std.specs.Prelude.{ℕ, List, ◌++◌, Option, None, Some, Result, codes}
use Rattle.element_tree.specs.declared.fault.MarkupFault.{MarkupFault}
use Rattle.element_tree.specs.declared.fault.MarkupFault.TheVariants as markup
use Rattle.scenario_model.specs.declared.scenario.Scenario.{Scenario}
use Rattle.scenario_xml.specs.declared.fault.Kind.{Kind}
use Rattle.scenario_xml.specs.declared.fault.Kind.TheVariants as kind
use Rattle.scenario_xml.specs.declared.fault.ScenarioFault.{ScenarioFault}
use Rattle.scenario_xml.specs.declared.fault.ScenarioFault.TheVariants as fault
use Rattle.scenario_xml.specs.Faults.{word}
use Rattle.scenario_xml.specs.Scenarios.{scenario}
use Rattle.command_outcome.specs.declared.outcome.Role.TheVariants as role
use Rattle.command_outcome.specs.Outcome.{fault_at}
use Rattle.command_outcome.specs.Inputs.{Inputs, file, told}

abbrev pub markup_fault_text : MarkupFault → Option (List ℕ)
markup_fault_text (markup.Malformed at) = Some (fault_at (codes "malformed") at)
markup_fault_text (markup.Truncated at) = Some (fault_at (codes "truncated") at)
markup_fault_text (markup.TooDeep at) = Some (fault_at (codes "too-deep") at)
markup_fault_text (markup.TooMany at) = Some (fault_at (codes "too-many") at)
markup_fault_text (markup.Unsupported at) = Some (fault_at (codes "unsupported") at)
markup_fault_text markup.NoMemory = None

abbrev pub kind_text : Kind → List ℕ
kind_text kind.Lanelet = codes "lanelet"
kind_text kind.Obstacle = codes "obstacle"
kind_text kind.Problem = codes "problem"
kind_text kind.Goal = codes "goal"
kind_text kind.Region = codes "region"

-- a fault's name in lower case with dashes between its words, then its fields; of a fault of the
-- markup that fault
abbrev pub scenario_fault_text : ScenarioFault → Option (List ℕ)
scenario_fault_text (fault.Markup inner) = markup_fault_text inner
scenario_fault_text fault.WrongRoot = Some (codes "wrong-root")
scenario_fault_text fault.WrongVersion = Some (codes "wrong-version")
scenario_fault_text (fault.Missing what at) = Some (fault_at (codes "missing " ++ word what) at)
scenario_fault_text (fault.BadNumber at) = Some (fault_at (codes "bad-number") at)
scenario_fault_text (fault.DuplicateId id) = Some (fault_at (codes "duplicate-id") id)
scenario_fault_text (fault.UnknownRef id) = Some (fault_at (codes "unknown-ref") id)
scenario_fault_text (fault.BadShape id) = Some (fault_at (codes "bad-shape") id)
scenario_fault_text (fault.BadBound id) = Some (fault_at (codes "bad-bound") id)
scenario_fault_text (fault.Unsupported at) = Some (fault_at (codes "unsupported") at)
scenario_fault_text fault.NoProblem = Some (codes "no-problem")
scenario_fault_text (fault.TooMany what) = Some (codes "too-many " ++ kind_text what)
scenario_fault_text fault.NoMemory = None

abbrev pub scenario_read : List ℕ → Result Scenario (Option (List ℕ))
scenario_read bytes = told scenario_fault_text (scenario bytes)

abbrev pub scenario_input : List ℕ → Inputs Scenario
scenario_input name = file role.Scenario scenario_read name
