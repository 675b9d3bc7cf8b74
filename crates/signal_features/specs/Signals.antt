-- The signals of a document, or that there are too many. The limits are this project's own.
use Rattle.std.specs.Prelude.{◌≡◌, ℕ, ◌<◌, ◌≤◌, ◌==◌, ◌++◌, Bool, true, false, List, [], ◌∷◌, length, map}
use Rattle.std.specs.Prelude.{nat_le, codes, Option, Some, None, Result, Ok, Err, if◌then◌else◌}
use Rattle.std.specs.List.{filter, filter_map, list_any, AllZip}
use Rattle.std.specs.Option.{option_map}
use Rattle.element_tree.specs.declared.fault.MarkupFault.{MarkupFault}
use Rattle.element_tree.specs.declared.node.Node.{Node}
use Rattle.element_tree.specs.Document.{Document}
use Rattle.element_tree.specs.Documents.{markup}
use Rattle.element_tree.specs.Trees.{children}
use Rattle.reading.specs.Reading.{◌>>=◌, read_all}
use Rattle.scenario_xml.specs.declared.fault.Wanted.TheVariants.{Id}
use Rattle.signal_features.specs.Forms.{is_named, id_at, sign, light, sign_at, light_at}
use Rattle.signal_features.specs.Forms.{reference_at}
use Rattle.signal_features.specs.declared.fault.SignalFault.{SignalFault}
use Rattle.signal_features.specs.declared.fault.SignalFault.TheVariants.{TooMany, NoMemory}
use Rattle.signal_features.specs.declared.fault.SignalKind.{SignalKind}
use Rattle.signal_features.specs.declared.fault.SignalKind.TheVariants as kind
use Rattle.signal_features.specs.declared.found.Found.{Found}
use Rattle.signal_features.specs.declared.limits.TheConstants.{MAX_SIGNS, MAX_LIGHTS}
use Rattle.signal_features.specs.declared.signals.Light.{Light}
use Rattle.signal_features.specs.declared.signals.SignalUse.{SignalUse}
use Rattle.signal_features.specs.declared.signals.Signals.{Signals}
use Rattle.signal_features.specs.declared.signals.SpeedSign.{SpeedSign}

-- the one fault that may come at any time
abbrev pub is_memory : SignalFault → Bool
is_memory NoMemory = true
is_memory (TooMany what) = false

-- ---- as all children of the root at once say it

-- the signs and the lights among some children of the root, in their order
abbrev pub signs_among : Document → List ℕ → List SpeedSign
signs_among document nodes = filter_map (sign_at document) nodes

abbrev pub lights_among : Document → List ℕ → List Light
lights_among document nodes = filter_map (light_at document) nodes

-- there are no more of either kind than may be
pub record AreFew (signs : List SpeedSign) (lights : List Light) : Type 0 where
  pub few_signs : length signs ≤ MAX_SIGNS
  pub few_lights : length lights ≤ MAX_LIGHTS

-- the ids of some signs, and of some lights
abbrev pub sign_ids : List SpeedSign → List ℕ
sign_ids signs = map (λ (s : SpeedSign). s.id) signs

abbrev pub light_ids : List Light → List ℕ
light_ids lights = map (λ (l : Light). l.id) lights

-- what the children of lanelet k with a name refer to, without references to none
unfoldable pub references : Document → ℕ → List ℕ → List ℕ → List ℕ
references document k name ids =
    filter (λ id. list_any (λ known. id == known) ids)
    (filter_map (reference_at document name) (children document k))

-- lanelet k with its references, where these are the signs and lights of the document
pub record IsUseAt (document : Document) (signs : List SpeedSign) (lights : List Light) (k : ℕ)
    (u : SignalUse) : Type 0 where
  pub lanelet : id_at document k Id ≡ Some u.lanelet
  pub refers_to_signs : u.signs
      ≡ references document k (codes "trafficSignRef") (sign_ids signs)
  pub refers_to_lights : u.lights
      ≡ references document k (codes "trafficLightRef") (light_ids lights)

-- The signals of a document: the signs and the lights among the children of its root, and for each
-- lanelet there what it refers to, each in document order and no others.
pub record AreSignalsOf (document : Document) (s : Signals) : Type 0 where
  pub signs : s.signs ≡ signs_among document (children document 0)
  pub lights : s.lights ≡ lights_among document (children document 0)
  pub few : AreFew s.signs s.lights
  pub uses : AllZip (IsUseAt document s.signs s.lights)
      (filter (is_named document (codes "lanelet")) (children document 0)) s.uses

-- how many of a kind there are among some children of the root, and how many there may be
abbrev pub count : Document → SignalKind → List ℕ → ℕ
count document kind.Sign nodes = length (signs_among document nodes)
count document kind.Light nodes = length (lights_among document nodes)

abbrev pub limit_of : SignalKind → ℕ
limit_of kind.Sign = MAX_SIGNS
limit_of kind.Light = MAX_LIGHTS

-- Among the children of the root up to one there are more of a kind than may be, and among those
-- before it there are no more of either kind.
pub record IsFirstOver (document : Document) (what : SignalKind) : Type 0 where
  pub before : List ℕ
  pub node : ℕ
  pub after : List ℕ
  pub cut : children document 0 ≡ before ++ node ∷ after
  pub few : AreFew (signs_among document before) (lights_among document before)
  pub over : limit_of what < count document what (before ++ node ∷ [])

abbrev pub IsSignalFaultOf : Document → SignalFault → Type 0
IsSignalFaultOf document (TooMany what) = IsFirstOver document what
IsSignalFaultOf document NoMemory = ⊥

-- the signals of some bytes, which are a document of the markup; and their fault
pub record AreSignalsIn (bytes : List ℕ) (s : Signals) : Type 0 where
  pub nodes : List Node
  pub document : markup bytes ≡ Ok nodes
  pub signals : AreSignalsOf (record { source = bytes; nodes = nodes }) s

pub record IsSignalFaultIn (bytes : List ℕ) (f : SignalFault) : Type 0 where
  pub nodes : List Node
  pub document : markup bytes ≡ Ok nodes
  pub fault : IsSignalFaultOf (record { source = bytes; nodes = nodes }) f

-- ---- as it is read, one child after the other

abbrev pub with_sign : Found → Option SpeedSign → Result Found SignalFault
with_sign s None = Ok s
with_sign s (Some sign) =
    if nat_le MAX_SIGNS (length s.signs) then Err (TooMany kind.Sign)
    else Ok (record s { signs = s.signs ++ sign ∷ [] })

abbrev pub with_light : Found → Option Light → Result Found SignalFault
with_light s None = Ok s
with_light s (Some light) =
    if nat_le MAX_LIGHTS (length s.lights) then Err (TooMany kind.Light)
    else Ok (record s { lights = s.lights ++ light ∷ [] })

-- a child of the root, after the signals before it
unfoldable pub signal_step : Document → ℕ → Found → Result Found SignalFault
signal_step document k s =
    if is_named document (codes "trafficSign") k then with_sign s (sign document k)
    else if is_named document (codes "trafficLight") k then with_light s (light document k)
    else Ok s

-- the signs and lights of a document
unfoldable pub found : Document → Result Found SignalFault
found document =
    read_all (signal_step document) (children document 0) (record { signs = []; lights = [] })

-- the use of child k of the root, where it is a lanelet, of the signs and lights with these ids
unfoldable pub use_at : Document → List ℕ → List ℕ → ℕ → Option SignalUse
use_at document signs lights k =
    if is_named document (codes "lanelet") k then
    option_map (λ id. record {
      lanelet = id;
      signs = references document k (codes "trafficSignRef") signs;
      lights = references document k (codes "trafficLightRef") lights;
    }) (id_at document k Id)
    else None

-- the signals of a tree
unfoldable pub signals_in : Document → Result Signals SignalFault
signals_in document =
    found document >>= λ s. Ok (record {
      signs = s.signs;
      lights = s.lights;
      uses = filter_map (use_at document (sign_ids s.signs) (light_ids s.lights))
          (children document 0);
    })

abbrev pub signals_shown : List ℕ → Result (List Node) MarkupFault → Result Signals SignalFault
signals_shown bytes (Ok nodes) = signals_in (record { source = bytes; nodes = nodes })
signals_shown bytes (Err fault) = Err NoMemory

-- the signals of some bytes, which are a document of the markup
unfoldable pub signals : List ℕ → Result Signals SignalFault
signals bytes = signals_shown bytes (markup bytes)
