-- Each lanelet has one use, and what was read is the signals of the document.
use Rattle.std.proofs.Common.{◌≡◌, ◌∙◌, ℕ, ◌<◌, ◌≤◌, Bool, true, false, cond, List, [], ◌∷◌, length, map, Option, Some, None, Result, Ok, Err, refl, sym, ap, subst, arith}
use Rattle.std.specs.Prelude.{codes, IfOk, IfErr, All}
use Rattle.std.specs.Bool.{OnFalse}
use Rattle.std.specs.List.{filter, filter_map, cons_option, AllZip}
use Rattle.std.specs.Option.{option_map}
use Rattle.std.specs.Result.{result_ok}
use Rattle.element_tree.specs.Document.{Document}
use Rattle.element_tree.specs.Documents.{markup}
use Rattle.element_tree.specs.Trees.{name_of, children}
use Rattle.element_tree.specs.declared.fault.MarkupFault.{MarkupFault}
use Rattle.element_tree.specs.declared.node.Node.{Node}
use Rattle.reading.specs.Reading.{◌>>=◌, read_all, Gives}
use Rattle.reading.proofs.ReadingLaws.{handed_on}
use Rattle.scenario_model.specs.Scenario.{lanelet_ids}
use Rattle.scenario_model.specs.declared.lanelet.Lanelet.{Lanelet}
use Rattle.scenario_model.specs.declared.scenario.Scenario.{Scenario}
use Rattle.scenario_xml.specs.ScenarioOf.{IsLaneletAt, IsScenarioOf, IsScenarioIn, is_lanelet}
use Rattle.scenario_xml.specs.declared.fault.Wanted.TheVariants.{Id}
use Rattle.signal_features.specs.Forms.{is_named, id_at}
use Rattle.signal_features.specs.Signals.{is_memory, signal_step, found, use_at, sign_ids, light_ids, references, IsUseAt, AreSignalsOf, AreSignalsIn, IsSignalFaultOf, IsSignalFaultIn, signals_in, signals, AreFew}
use Rattle.signal_features.specs.Sound.{AreFound, AreSignals}
use Rattle.signal_features.specs.declared.fault.SignalFault.{SignalFault}
use Rattle.signal_features.specs.declared.found.Found.{Found}
use Rattle.signal_features.specs.declared.signals.Light.{Light}
use Rattle.signal_features.specs.declared.signals.SignalUse.{SignalUse}
use Rattle.signal_features.specs.declared.signals.Signals.{Signals}
use Rattle.signal_features.specs.declared.signals.SpeedSign.{SpeedSign}
use Rattle.signal_features.proofs.SignalLaws.{AreAmong, are_among, first_over}

-- ---- uses

-- some children of the root with the uses of the lanelets among them, which are these
record AreUses (document : Document) (s : Found) (nodes : List ℕ) (lanelets : List Lanelet) (uses : List SignalUse) : Type 0 where
  each : AllZip (IsUseAt document s.signs s.lights) (filter (is_named document (codes "lanelet")) nodes) uses
  ids : map (λ (u : SignalUse). u.lanelet) uses ≡ map (λ (l : Lanelet). l.id) lanelets

abbrev use_with : Document → Found → ℕ → Option SignalUse
use_with document s = use_at document (sign_ids s.signs) (light_ids s.lights)

at_lanelet : (document : Document) (s : Found) (k : ℕ) (id : ℕ) → is_named document (codes "lanelet") k ≡ true → id_at document k Id ≡ Some id
    → use_with document s k ≡ Some (record { lanelet = id; signs = references document k (codes "trafficSignRef") (sign_ids s.signs); lights = references document k (codes "trafficLightRef") (light_ids s.lights) })
unfolding use_at
at_lanelet document s k id e h = rw (e, h) refl

at_other : (document : Document) (s : Found) (k : ℕ) → is_named document (codes "lanelet") k ≡ false → use_with document s k ≡ None
unfolding use_at
at_other document s k e = rw e refl

with_lanelet : (document : Document) (s : Found) (ids : List ℕ) (k : ℕ) (rest : List ℕ) (nodes : List ℕ) (l : Lanelet) (lanelets : List Lanelet)
    → is_named document (codes "lanelet") k ≡ true → id_at document k Id ≡ Some l.id
    → AreUses document s nodes lanelets (filter_map (use_with document s) nodes)
    → AreUses document s (k ∷ nodes) (l ∷ lanelets) (filter_map (use_with document s) (k ∷ nodes))
with_lanelet document s ids k rest nodes l lanelets e h more =
    record {
      each = rw (e, at_lanelet document s k l.id e h) (record { lanelet = h; refers_to_signs = refl; refers_to_lights = refl }, more.each);
      ids = rw (at_lanelet document s k l.id e h) (ap (λ others. l.id ∷ others) more.ids);
    }

uses_by : (document : Document) (s : Found) (ids : List ℕ) (k : ℕ) (nodes : List ℕ) (lanelets : List Lanelet) (b : Bool) → is_named document (codes "lanelet") k ≡ b
    → ((others : List Lanelet) → AllZip (IsLaneletAt document ids) (filter (is_named document (codes "lanelet")) nodes) others → AreUses document s nodes others (filter_map (use_with document s) nodes))
    → AllZip (IsLaneletAt document ids) (cond b (k ∷ filter (is_named document (codes "lanelet")) nodes) (filter (is_named document (codes "lanelet")) nodes)) lanelets
    → AreUses document s (k ∷ nodes) lanelets (filter_map (use_with document s) (k ∷ nodes))
uses_by document s ids k nodes [] true e more h = absurd h
uses_by document s ids k nodes (l ∷ lanelets) true e more h =
    with_lanelet document s ids k nodes nodes l lanelets e (ap result_ok h.0.id) (more lanelets h.1)
uses_by document s ids k nodes lanelets false e more h =
    let rest = more lanelets h in
    record { each = rw (e, at_other document s k e) rest.each; ids = rw (at_other document s k e) rest.ids }

uses_of : (document : Document) (s : Found) (ids : List ℕ) (nodes : List ℕ) (lanelets : List Lanelet)
    → AllZip (IsLaneletAt document ids) (filter (is_named document (codes "lanelet")) nodes) lanelets
    → AreUses document s nodes lanelets (filter_map (use_with document s) nodes)
uses_of document s ids [] [] h = record { each = tt; ids = refl }
uses_of document s ids [] (l ∷ lanelets) h = absurd h
uses_of document s ids (k ∷ nodes) lanelets h =
    uses_by document s ids k nodes lanelets (is_named document (codes "lanelet") k) refl (λ others z. uses_of document s ids nodes others z) h

lanelets_are : (document : Document) (scenario : Scenario) → IsScenarioOf document scenario
    → AllZip (IsLaneletAt document (lanelet_ids scenario)) (filter (is_named document (codes "lanelet")) (children document 0)) scenario.lanelets
unfolding is_lanelet
lanelets_are document scenario h = h.children.lanelets.read

-- ---- the signals of a document

record AreRead (document : Document) (scenario : Scenario) (s : Signals) : Type 0 where
  signals : AreSignalsOf document s
  ids : map (λ (u : SignalUse). u.lanelet) s.uses ≡ lanelet_ids scenario

-- the signals of what was found
abbrev with_uses : Document → Found → Result Signals SignalFault
with_uses document t = Ok (record { signs = t.signs; lights = t.lights; uses = filter_map (use_with document t) (children document 0) })

read_by : (document : Document) (scenario : Scenario) (s : Signals) (r : Result Found SignalFault) → IsScenarioOf document scenario
    → read_all (signal_step document) (children document 0) (record { signs = []; lights = [] }) ≡ r
    → (r >>= with_uses document) ≡ Ok s
    → AreRead document scenario s
read_by document scenario s (Err f) h e k = absurd (cc)
read_by document scenario s (Ok t) h e k =
    let among = are_among document (children document 0) t e in
    let uses = uses_of document t (lanelet_ids scenario) (children document 0) scenario.lanelets (lanelets_are document scenario h) in
    let same : record { signs = t.signs; lights = t.lights; uses = filter_map (use_with document t) (children document 0) } ≡ s = cc in
    subst (AreRead document scenario) same (record {
      signals = record { signs = among.signs; lights = among.lights; few = among.few; uses = uses.each };
      ids = uses.ids;
    })

are_read : (document : Document) (scenario : Scenario) (s : Signals) → IsScenarioOf document scenario → signals_in document ≡ Ok s → AreRead document scenario s
unfolding signals_in found
are_read document scenario s h k = read_by document scenario s (read_all (signal_step document) (children document 0) (record { signs = []; lights = [] })) h refl k

fault_by : (document : Document) (f : SignalFault) (r : Result Found SignalFault)
    → read_all (signal_step document) (children document 0) (record { signs = []; lights = [] }) ≡ r
    → (r >>= with_uses document) ≡ Err f
    → IsSignalFaultOf document f
fault_by document f (Ok t) e k = absurd (cc)
fault_by document f (Err g) e k =
    let same : g ≡ f = cc in
    subst (IsSignalFaultOf document) same (first_over document g e)

fault_of : (document : Document) (f : SignalFault) → signals_in document ≡ Err f → IsSignalFaultOf document f
unfolding signals_in found
fault_of document f k = fault_by document f (read_all (signal_step document) (children document 0) (record { signs = []; lights = [] })) refl k

-- ---- the signals of some bytes

-- the tree that was read is that of the scenario
pub record IsTree (bytes : List ℕ) (scenario : Scenario) (document : Document) : Type 0 where
  pub markup_is : markup bytes ≡ Ok document.nodes
  pub source_is : document.source ≡ bytes
  pub scenario_is : IsScenarioOf document scenario

same_nodes : (a b : List Node) (r : Result (List Node) MarkupFault) → r ≡ Ok a → r ≡ Ok b → a ≡ b
same_nodes a b r h e = cc

pub is_tree : (bytes : List ℕ) (scenario : Scenario) (document : Document) → IsScenarioIn bytes scenario → markup bytes ≡ Ok document.nodes → document.source ≡ bytes
    → IsTree bytes scenario document
is_tree bytes scenario document h e source =
    let same : h.nodes ≡ document.nodes = same_nodes h.nodes document.nodes (markup bytes) h.document e in
    record {
      markup_is = e;
      source_is = source;
      scenario_is = rw (source, sym same) h.scenario;
    }

no_name : (source : List ℕ) (nodes : List Node) → name_of (record { source = source; nodes = nodes }) 0 ≡ codes "commonRoad" → 0 < length nodes
no_name source [] h = absurd (cc)
no_name source (n ∷ nodes) h = omega arith

pub has_root : (bytes : List ℕ) (scenario : Scenario) (document : Document) → IsTree bytes scenario document → 0 < length document.nodes
has_root bytes scenario document h = no_name document.source document.nodes h.scenario_is.root

pub read_told : (bytes : List ℕ) (scenario : Scenario) (document : Document) (r : Result Signals SignalFault) → IsTree bytes scenario document
    → Gives is_memory (λ s. s) r (signals_in document) → IfOk r (AreSignalsIn bytes)
read_told bytes scenario document (Ok s) h g = record {
  nodes = document.nodes;
  document = h.markup_is;
  signals = rw (sym h.source_is) (are_read document scenario s h.scenario_is g).signals;
}
read_told bytes scenario document (Err f) h g = tt

pub sound_told : (bytes : List ℕ) (scenario : Scenario) (document : Document) (r : Result Signals SignalFault) → IsTree bytes scenario document
    → Gives is_memory (λ s. s) r (signals_in document) → IfOk r (λ s. AreFound (record { signs = s.signs; lights = s.lights })) → IfOk r (AreSignals (lanelet_ids scenario))
sound_told bytes scenario document (Ok s) h g k = record {
  few_signs = k.few_signs;
  signs = k.signs;
  few_lights = k.few_lights;
  lights = k.lights;
  uses = (are_read document scenario s h.scenario_is g).ids;
}
sound_told bytes scenario document (Err f) h g k = tt

in_bytes : (bytes : List ℕ) (scenario : Scenario) (document : Document) (f : SignalFault) → IsTree bytes scenario document → signals_in document ≡ Err f → IsSignalFaultIn bytes f
in_bytes bytes scenario document f h e = record {
  nodes = document.nodes;
  document = h.markup_is;
  fault = rw (sym h.source_is) (fault_of document f e);
}

pub fault_told : (bytes : List ℕ) (scenario : Scenario) (document : Document) (r : Result Signals SignalFault) → IsTree bytes scenario document
    → Gives is_memory (λ s. s) r (signals_in document) → IfErr r (λ f. OnFalse (is_memory f) (IsSignalFaultIn bytes f))
fault_told bytes scenario document (Ok s) h g = tt
fault_told bytes scenario document (Err f) h g = handed_on (is_memory f) (in_bytes bytes scenario document f h) g
