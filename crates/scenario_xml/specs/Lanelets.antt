-- Lanelets (CommonRoad XML 2020a and 2018b). The limits are this project's own.
use Rattle.std.specs.Prelude.{ℕ, ◌++◌, Bool, true, ◌&&◌, ◌==◌, List, [], ◌∷◌, length, filter}
use Rattle.std.specs.Prelude.{nat_le, codes, Option, Some, None, Result, Ok, Err, if◌then◌else◌}
use Rattle.std.specs.List.{list_any}
use Rattle.std.specs.Str.{bytes_eq}
use Rattle.element_tree.specs.Document.{Document}
use Rattle.element_tree.specs.Tags.{value_of}
use Rattle.element_tree.specs.Trees.{name_of, attributes_of, children}
use Rattle.fixed_geometry.specs.declared.point.Point.{Point}
use Rattle.reading.specs.Reading.{◌>>=◌, read_all}
use Rattle.scenario_model.specs.declared.lanelet.Adjacent.{Adjacent}
use Rattle.scenario_model.specs.declared.lanelet.Lanelet.{Lanelet}
use Rattle.scenario_xml.specs.Elements.{child, wanted_child, id_attribute}
use Rattle.scenario_xml.specs.Shapes.{points}
use Rattle.scenario_xml.specs.declared.fault.ScenarioFault.{ScenarioFault}
use Rattle.scenario_xml.specs.declared.fault.ScenarioFault.TheVariants.{BadBound}
use Rattle.scenario_xml.specs.declared.fault.Wanted.{Wanted}
use Rattle.scenario_xml.specs.declared.fault.Wanted.TheVariants.{LeftBound, RightBound, Ref}
use Rattle.scenario_xml.specs.declared.lanelet.ReferencesSoFar.{ReferencesSoFar}
use Rattle.scenario_xml.specs.declared.lanelet.Way.{Way}
use Rattle.scenario_xml.specs.declared.lanelet.Way.TheVariants.{Back, Ahead, Left, Right}
use Rattle.scenario_model.specs.declared.limits.TheConstants.{MAX_BOUND_POINTS}

-- the id is one of these
unfoldable pub is_known : List ℕ → ℕ → Bool
is_known ids id = list_any (λ known_ids. id == known_ids) ids

-- a bound of the lanelet with an id: 2 to `MAX_BOUND_POINTS` points
unfoldable pub bound : Document → ℕ → ℕ → Wanted → Result (List Point) ScenarioFault
bound document k id what =
    wanted_child document k what >>= λ b.
    points document b >>= λ all.
    if nat_le 2 (length all) && nat_le (length all) MAX_BOUND_POINTS then Ok all
    else Err (BadBound id)

-- the name of the elements that refer to the lanelets on a side
abbrev pub way_word : Way → List ℕ
way_word Back = codes "predecessor"
way_word Ahead = codes "successor"
way_word Left = codes "adjacentLeft"
way_word Right = codes "adjacentRight"

-- a child of `lanelet`, after the references before it
unfoldable pub reference_step : Document → ℕ → ReferencesSoFar
    → Result ReferencesSoFar ScenarioFault
reference_step document k s =
    if bytes_eq (name_of document k) (way_word s.way) then
    (id_attribute document k Ref >>= λ id.
    Ok (record s { references = s.references ++ id ∷ [] }))
    else Ok s

-- all references on a side, where those to lanelets that are not known are dropped
unfoldable pub references : Document → ℕ → List ℕ → Way → Result (List ℕ) ScenarioFault
references document k known_ids way =
    read_all (reference_step document) (children document k)
    (record { way = way; references = [] }) >>= λ s.
    Ok (filter (is_known known_ids) s.references)

-- driven the same way: `drivingDir` is `same` or absent
abbrev pub is_same : Option (List ℕ) → Bool
is_same None = true
is_same (Some way) = bytes_eq way (codes "same")

unfoldable pub same_way : Document → ℕ → Bool
same_way document k = is_same (value_of (codes "drivingDir") (attributes_of document k))

abbrev pub adjacent_at : Document → List ℕ → Option ℕ → Result (Option Adjacent) ScenarioFault
adjacent_at document known_ids None = Ok None
adjacent_at document known_ids (Some c) =
    id_attribute document c Ref >>= λ id.
    if is_known known_ids id then Ok (Some (record { id = id; same_way = same_way document c }))
    else Ok None

-- the lanelet beside lanelet k
unfoldable pub adjacent : Document → ℕ → List ℕ → Way → Result (Option Adjacent) ScenarioFault
adjacent document k known_ids way = adjacent_at document known_ids (child document k (way_word way))

-- `lanelet` with an id, where these are the ids of all lanelets
unfoldable pub lanelet : Document → ℕ → ℕ → List ℕ → Result Lanelet ScenarioFault
lanelet document k id known_ids =
    bound document k id LeftBound >>= λ left.
    bound document k id RightBound >>= λ right.
    references document k known_ids Back >>= λ predecessors.
    references document k known_ids Ahead >>= λ successors.
    adjacent document k known_ids Left >>= λ beside_left.
    adjacent document k known_ids Right >>= λ beside_right.
    Ok (record {
      id = id;
      left = left;
      right = right;
      predecessors = predecessors;
      successors = successors;
      adjacent_left = beside_left;
      adjacent_right = beside_right;
    })
