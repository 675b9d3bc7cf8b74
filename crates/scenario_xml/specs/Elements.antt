-- What is read off an element: its children and attributes by their names, numbers and ids
-- (CommonRoad XML 2020a and 2018b).
use Rattle.std.specs.Prelude.{ℕ, List, ℤ, pos, find, Option, Some, None, Result, Ok, Err}
use Rattle.std.specs.Str.{bytes_eq}
use Rattle.element_tree.specs.Document.{Document}
use Rattle.element_tree.specs.Tags.{value_of}
use Rattle.element_tree.specs.Trees.{node_of, name_of, attributes_of, text_of, children}
use Rattle.reading.specs.Reading.{◌>>=◌}
use Rattle.scenario_xml.specs.Faults.{word}
use Rattle.scenario_xml.specs.Numbers.{number_in, id_in}
use Rattle.scenario_xml.specs.declared.fault.ScenarioFault.{ScenarioFault}
use Rattle.scenario_xml.specs.declared.fault.ScenarioFault.TheVariants.{Missing, BadNumber}
use Rattle.scenario_xml.specs.declared.fault.Wanted.{Wanted}
use Rattle.scenario_xml.specs.declared.fault.Wanted.TheVariants.{Exact}
use Rattle.scenario_xml.specs.declared.quantity.Quantity.{Quantity}

-- the place of element k
abbrev pub place : Document → ℕ → ℕ
place document k = (node_of document k).place

-- the first child of a name
unfoldable pub child : Document → ℕ → List ℕ → Option ℕ
child document k name = find (λ c. bytes_eq (name_of document c) name) (children document k)

abbrev pub or_missing : {X : Type 0} → Wanted → ℕ → Option X → Result X ScenarioFault
or_missing what at None = Err (Missing what at)
or_missing what at (Some x) = Ok x

-- a child that has to be there
unfoldable pub wanted_child : Document → ℕ → Wanted → Result ℕ ScenarioFault
wanted_child document k what = or_missing what (place document k) (child document k (word what))

-- an attribute that has to be there
unfoldable pub wanted_attribute : Document → ℕ → Wanted → Result (List ℕ) ScenarioFault
wanted_attribute document k what =
    or_missing what (place document k) (value_of (word what) (attributes_of document k))

abbrev pub some_number : ℕ → Quantity → Option (List ℕ) → Result ℤ ScenarioFault
some_number at quantity None = Err (BadNumber at)
some_number at quantity (Some text) = number_in at quantity text

-- the number that element k holds
unfoldable pub number : Document → ℕ → Quantity → Result ℤ ScenarioFault
number document k quantity = some_number (place document k) quantity (text_of document k)

-- the number in a child that has to be there
unfoldable pub wanted_number : Document → ℕ → Wanted → Quantity → Result ℤ ScenarioFault
wanted_number document k what quantity =
    wanted_child document k what >>= λ c. number document c quantity

abbrev pub number_or_zero : Document → Quantity → Option ℕ → Result ℤ ScenarioFault
number_or_zero document quantity None = Ok (pos 0)
number_or_zero document quantity (Some c) = number document c quantity

-- the number in a child that may be absent, which then counts as 0
unfoldable pub optional_number : Document → ℕ → List ℕ → Quantity → Result ℤ ScenarioFault
optional_number document k name quantity = number_or_zero document quantity (child document k name)

-- the number that stands in an `exact` in element k
abbrev pub exact : Document → ℕ → Quantity → Result ℤ ScenarioFault
exact document k quantity = wanted_number document k Exact quantity

abbrev pub exact_or_zero : Document → Quantity → Option ℕ → Result ℤ ScenarioFault
exact_or_zero document quantity None = Ok (pos 0)
exact_or_zero document quantity (Some c) = exact document c quantity

-- the exact number of a child that may be absent, which then counts as 0
unfoldable pub optional_exact : Document → ℕ → List ℕ → Quantity → Result ℤ ScenarioFault
optional_exact document k name quantity = exact_or_zero document quantity (child document k name)

-- an attribute that is an id
unfoldable pub id_attribute : Document → ℕ → Wanted → Result ℕ ScenarioFault
id_attribute document k what = wanted_attribute document k what >>= id_in (place document k)
