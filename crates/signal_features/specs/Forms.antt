-- The form of a speed sign, of a light and of a lanelet's references: a profile of CommonRoad XML
-- that is this project's own, and no statement about the standard. What has not the form is none.
use Rattle.std.specs.Prelude.{ℕ, Bool, false, ◌&&◌, List, [], ◌∷◌, length, ℤ, pos, unsigned_abs}
use Rattle.std.specs.Prelude.{int_le, nat_le, codes, Option, Some, None, if◌then◌else◌}
use Rattle.std.specs.List.{filter}
use Rattle.std.specs.Option.{option_map, option_map_or}
use Rattle.std.specs.Result.{result_ok}
use Rattle.std.specs.Str.{bytes_eq}
use Rattle.element_tree.specs.Document.{Document}
use Rattle.element_tree.specs.Pieces.{◌>>?◌}
use Rattle.element_tree.specs.Trees.{name_of, text_of, children}
use Rattle.scenario_xml.specs.Elements.{child, number, id_attribute}
use Rattle.scenario_xml.specs.declared.fault.Wanted.{Wanted}
use Rattle.scenario_xml.specs.declared.fault.Wanted.TheVariants.{Id, Ref}
use Rattle.scenario_xml.specs.declared.quantity.Quantity.TheVariants.{Speed, Tick}
use Rattle.signal_features.specs.declared.limits.TheConstants.{MAX_PHASES, MAX_PHASE_TICKS}
use Rattle.signal_features.specs.declared.signals.Light.{Light}
use Rattle.signal_features.specs.declared.signals.Phase.{Phase}
use Rattle.signal_features.specs.declared.signals.SpeedSign.{SpeedSign}

-- the value, where the test holds of it
abbrev pub where_ok : {X : Type 0} → Bool → X → Option X
where_ok test x = if test then Some x else None

-- element k has the name
abbrev pub is_named : Document → List ℕ → ℕ → Bool
is_named document name k = bytes_eq (name_of document k) name

-- the id that is the attribute of a name
abbrev pub id_at : Document → ℕ → Wanted → Option ℕ
id_at document k what = result_ok (id_attribute document k what)

-- element k has this text
abbrev pub has_text : List ℕ → Option (List ℕ) → Bool
has_text text None = false
has_text text (Some found) = bytes_eq found text

-- ---- signs

-- a limit in mm/s: metres per second at 3 places, 0 to `MAX_SPEED`
unfoldable pub limit : Document → ℕ → Option ℤ
limit document k =
    result_ok (number document k Speed) >>? λ n. where_ok (int_le (pos 0) n) n

-- the limit of a `trafficSignElement`, whose number in the catalogue is 274
unfoldable pub sign_limit : Document → ℕ → Option ℤ
sign_limit document k =
    child document k (codes "trafficSignID") >>? λ c.
    if has_text (codes "274") (text_of document c) then
    (child document k (codes "additionalValue") >>? λ v. limit document v)
    else None

-- a `trafficSign`
unfoldable pub sign : Document → ℕ → Option SpeedSign
sign document k =
    id_at document k Id >>? λ id.
    child document k (codes "trafficSignElement") >>? λ e.
    sign_limit document e >>? λ most.
    Some (record { id = id; limit = most })

-- ---- lights

-- how long a phase lasts: 1 to `MAX_PHASE_TICKS` ticks
unfoldable pub duration : Document → ℕ → Option ℕ
duration document k =
    result_ok (number document k Tick) >>? λ n.
    where_ok (int_le (pos 1) n && int_le n (pos MAX_PHASE_TICKS)) (unsigned_abs n)

-- a `cycleElement`
unfoldable pub phase : Document → ℕ → Option Phase
phase document k =
    child document k (codes "duration") >>? λ d.
    duration document d >>? λ ticks.
    child document k (codes "color") >>? λ c.
    Some (record { ticks = ticks; red = has_text (codes "red") (text_of document c) })

-- what is read of each item, where each can be read
unfoldable pub each_of : {X Y : Type 0} → (X → Option Y) → List X → Option (List Y)
each_of read [] = Some []
each_of read (x ∷ xs) = read x >>? λ y. each_of read xs >>? λ ys. Some (y ∷ ys)

-- the phases of a `cycle`: all its children `cycleElement`, 1 to `MAX_PHASES`
unfoldable pub phases : Document → ℕ → Option (List Phase)
phases document k =
    each_of (phase document) (filter (is_named document (codes "cycleElement")) (children document k))
    >>? λ all. where_ok (nat_le 1 (length all) && nat_le (length all) MAX_PHASES) all

abbrev pub offset_at : Document → Option ℕ → Option ℕ
offset_at document None = Some 0
offset_at document (Some o) =
    option_map unsigned_abs (result_ok (number document o Tick))

-- the `timeOffset` of a `cycle`, 0 to `MAX_TICK` ticks; it may be absent, and counts as 0 then
unfoldable pub offset : Document → ℕ → Option ℕ
offset document k = offset_at document (child document k (codes "timeOffset"))

-- a `trafficLight`
unfoldable pub light : Document → ℕ → Option Light
light document k =
    id_at document k Id >>? λ id.
    child document k (codes "cycle") >>? λ c.
    phases document c >>? λ all.
    offset document c >>? λ start.
    Some (record { id = id; phases = all; offset = start })

-- ---- children of the root

-- the sign that child k of the root is
unfoldable pub sign_at : Document → ℕ → Option SpeedSign
sign_at document k = if is_named document (codes "trafficSign") k then sign document k else None

-- the light that child k of the root is
unfoldable pub light_at : Document → ℕ → Option Light
light_at document k = if is_named document (codes "trafficLight") k then light document k else None

-- ---- references of a lanelet

-- what child k of a lanelet refers to, by the name of such children
unfoldable pub reference_at : Document → List ℕ → ℕ → Option ℕ
reference_at document name k = if is_named document name k then id_at document k Ref else None
