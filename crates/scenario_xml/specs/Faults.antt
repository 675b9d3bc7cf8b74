-- Faults of a scenario, and the names of what is looked for (CommonRoad XML 2020a and 2018b).
use Rattle.std.specs.Prelude.{ℕ, Bool, true, false, List, codes}
use Rattle.element_tree.specs.declared.fault.MarkupFault.{MarkupFault}
use Rattle.element_tree.specs.declared.fault.MarkupFault.TheVariants as markup
use Rattle.scenario_xml.specs.declared.fault.ScenarioFault.{ScenarioFault}
use Rattle.scenario_xml.specs.declared.fault.ScenarioFault.TheVariants.{Markup, NoMemory}
use Rattle.scenario_xml.specs.declared.fault.Wanted.{Wanted}
use Rattle.scenario_xml.specs.declared.fault.Wanted.TheVariants as wanted

-- the one fault that may come at any time
abbrev pub is_memory : ScenarioFault → Bool
is_memory NoMemory = true
is_memory _ = false

-- the fault of a document that is not of the markup's form
abbrev pub from_markup : MarkupFault → ScenarioFault
from_markup markup.NoMemory = NoMemory
from_markup fault = Markup fault

-- the name of an element or attribute
abbrev pub word : Wanted → List ℕ
word wanted.CommonRoadVersion = codes "commonRoadVersion"
word wanted.TimeStepSize = codes "timeStepSize"
word wanted.Id = codes "id"
word wanted.Ref = codes "ref"
word wanted.LeftBound = codes "leftBound"
word wanted.RightBound = codes "rightBound"
word wanted.X = codes "x"
word wanted.Y = codes "y"
word wanted.Shape = codes "shape"
word wanted.InitialState = codes "initialState"
word wanted.Length = codes "length"
word wanted.Width = codes "width"
word wanted.Radius = codes "radius"
word wanted.Position = codes "position"
word wanted.Point = codes "point"
word wanted.Exact = codes "exact"
word wanted.Time = codes "time"
word wanted.GoalState = codes "goalState"
word wanted.IntervalStart = codes "intervalStart"
word wanted.IntervalEnd = codes "intervalEnd"
word wanted.Role = codes "role"
