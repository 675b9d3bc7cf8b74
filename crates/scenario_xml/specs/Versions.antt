-- The versions of a document, 2020a and 2018b of CommonRoad XML, and which children of the root are
-- obstacles in each.
use Rattle.std.specs.Prelude.{ℕ, Bool, true, false, ◌&&◌, ◌||◌, List, codes, Result, Ok, Err}
use Rattle.std.specs.Prelude.{if◌then◌else◌}
use Rattle.std.specs.Str.{bytes_eq}
use Rattle.scenario_model.specs.declared.scenario.Version.{Version}
use Rattle.scenario_model.specs.declared.scenario.Version.TheVariants.{V2020a, V2018b}
use Rattle.scenario_xml.specs.declared.fault.ScenarioFault.{ScenarioFault}
use Rattle.scenario_xml.specs.declared.fault.ScenarioFault.TheVariants.{WrongVersion}

-- how a version is written
abbrev pub version_text : Version → List ℕ
version_text V2020a = codes "2020a"
version_text V2018b = codes "2018b"

-- the version that is written so
unfoldable pub version_in : List ℕ → Result Version ScenarioFault
version_in text =
    if bytes_eq text (codes "2020a") then Ok V2020a
    else if bytes_eq text (codes "2018b") then Ok V2018b
    else Err WrongVersion

-- version 2018b has an element `obstacle`, whose `role` says whether it moves
abbrev pub has_roles : Version → Bool
has_roles V2020a = false
has_roles V2018b = true

-- the name of an obstacle, in a version
unfoldable pub names_obstacle : Version → List ℕ → Bool
names_obstacle version name =
    bytes_eq name (codes "staticObstacle") || bytes_eq name (codes "dynamicObstacle")
    || (has_roles version && bytes_eq name (codes "obstacle"))
