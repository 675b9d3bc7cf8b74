-- The first fault of a document that is no scenario, in document order (CommonRoad XML 2020a and
-- 2018b).
use Rattle.std.specs.Prelude.{◌≡◌, ◌≢◌, ℕ, ◌<◌, ◌≤◌, true, List, [], ◌∷◌, ◌++◌, length, filter, All}
use Rattle.std.specs.Prelude.{Any, Result, Ok, Err, ⊤}
use Rattle.std.specs.List.{filter_map}
use Rattle.std.specs.Result.{result_ok}
use Rattle.element_tree.specs.declared.fault.MarkupFault.{MarkupFault}
use Rattle.element_tree.specs.declared.fault.MarkupFault.TheVariants as inner
use Rattle.element_tree.specs.declared.node.Node.{Node}
use Rattle.element_tree.specs.Document.{Document}
use Rattle.element_tree.specs.Documents.{markup}
use Rattle.element_tree.specs.Trees.{children}
use Rattle.scenario_model.specs.Scenario.{IsKnown}
use Rattle.scenario_model.specs.declared.lanelet.Lanelet.{Lanelet}
use Rattle.scenario_model.specs.declared.obstacle.Obstacle.{Obstacle}
use Rattle.scenario_model.specs.declared.problem.Problem.{Problem}
use Rattle.scenario_model.specs.declared.problem.Region.{Region}
use Rattle.scenario_model.specs.declared.problem.Region.TheVariants.{OnLanelet}
use Rattle.scenario_model.specs.declared.scenario.Version.{Version}
use Rattle.scenario_xml.specs.Elements.{id_attribute}
use Rattle.scenario_xml.specs.Faults.{from_markup}
use Rattle.scenario_xml.specs.Goals.{problem}
use Rattle.scenario_xml.specs.Lanelets.{lanelet}
use Rattle.scenario_xml.specs.Obstacles.{any_obstacle}
use Rattle.scenario_xml.specs.ScenarioOf.{is_lanelet, is_obstacle, is_problem, AreReadOff}
use Rattle.scenario_xml.specs.ScenarioOf.{regions_of, IsRegionKnown}
use Rattle.scenario_xml.specs.Scenarios.{root}
use Rattle.scenario_xml.specs.declared.contents.Contents.{Contents}
use Rattle.scenario_xml.specs.declared.fault.Kind.{Kind}
use Rattle.scenario_xml.specs.declared.fault.Kind.TheVariants as kind
use Rattle.scenario_xml.specs.declared.fault.ScenarioFault.{ScenarioFault}
use Rattle.scenario_xml.specs.declared.fault.ScenarioFault.TheVariants.{Markup, TooMany}
use Rattle.scenario_xml.specs.declared.fault.ScenarioFault.TheVariants.{DuplicateId, UnknownRef}
use Rattle.scenario_xml.specs.declared.fault.ScenarioFault.TheVariants.{NoProblem}
use Rattle.scenario_xml.specs.declared.fault.Wanted.TheVariants as wanted
use Rattle.scenario_xml.specs.declared.root.Head.{Head}
use Rattle.scenario_model.specs.declared.limits.TheConstants.{MAX_LANELETS, MAX_OBSTACLES}
use Rattle.scenario_model.specs.declared.limits.TheConstants.{MAX_PROBLEMS}

-- the ids of all lanelets that have one
abbrev pub ids_in : Document → List ℕ
ids_in document =
    filter_map (λ k. result_ok (id_attribute document k wanted.Id))
    (filter (is_lanelet document) (children document 0))

-- what was read, of these children of the root, in a version
pub record IsRead (document : Document) (version : Version) (nodes : List ℕ) (s : Contents)
    : Type 0 where
  pub same_version : s.version ≡ version
  pub known_ids : s.known_ids ≡ ids_in document
  pub items : AreReadOff version document (ids_in document) nodes s.lanelets s.obstacles s.problems

-- Why one more item of a kind is refused, after these: by its id, if it has one, and by what is
-- read of it under an id.
pub data IsItemRefused {X : Type 0} (what : Kind) (limit : ℕ) (id_of : X → ℕ) (items : List X)
    (found : Result ℕ ScenarioFault) (content : ℕ → Result X ScenarioFault)
    : ScenarioFault → Type 0 where
  -- there are as many as there may be
  too_many : limit ≤ length items
      → IsItemRefused what limit id_of items found content (TooMany what)
  -- there is room, and it has no good id
  without_id : (f : ScenarioFault) → length items < limit → found ≡ Err f
      → IsItemRefused what limit id_of items found content f
  -- it has an id, which is that of an earlier one
  same_id : (id : ℕ) → length items < limit → found ≡ Ok id → Any (λ x. id_of x ≡ id) items
      → IsItemRefused what limit id_of items found content (DuplicateId id)
  -- it has an id that no earlier one has, and its content has a fault
  in_content : (id : ℕ) (f : ScenarioFault) → length items < limit → found ≡ Ok id
      → All (λ x. id_of x ≢ id) items → content id ≡ Err f
      → IsItemRefused what limit id_of items found content f

-- Why a child of the root is refused, after what was read before it.
pub data IsRefused (document : Document) (k : ℕ) (s : Contents) (f : ScenarioFault) : Type 0 where
  as_lanelet : is_lanelet document k ≡ true
      → IsItemRefused kind.Lanelet MAX_LANELETS (λ (l : Lanelet). l.id) s.lanelets
      (id_attribute document k wanted.Id) (λ id. lanelet document k id s.known_ids) f
      → IsRefused document k s f
  as_obstacle : is_obstacle s.version document k ≡ true
      → IsItemRefused kind.Obstacle MAX_OBSTACLES (λ (o : Obstacle). o.id) s.obstacles
      (id_attribute document k wanted.Id) (λ id. any_obstacle document k id) f
      → IsRefused document k s f
  as_problem : is_problem document k ≡ true
      → IsItemRefused kind.Problem MAX_PROBLEMS (λ (p : Problem). p.id) s.problems
      (id_attribute document k wanted.Id) (λ id. problem document k id) f
      → IsRefused document k s f

-- A child of the root has a fault, after all children before it were read.
pub record IsChildFault (document : Document) (version : Version) (f : ScenarioFault) : Type 0 where
  pub before : List ℕ
  pub node : ℕ
  pub after : List ℕ
  pub state : Contents
  pub cut : children document 0 ≡ before ++ node ∷ after
  pub fine : IsRead document version before state
  pub refused : IsRefused document node state f

-- A region refers to a lanelet that the document lacks, and all regions before it to none that it
-- lacks.
pub record IsFirstUnknown (ids : List ℕ) (regions : List Region) (id : ℕ) : Type 0 where
  pub before : List Region
  pub after : List Region
  pub cut : regions ≡ before ++ OnLanelet id ∷ after
  pub fine : All (IsRegionKnown ids) before
  pub lacking : IsKnown ids id → ⊥

-- The first fault of a document.
pub data IsFirstFaultOf (document : Document) : ScenarioFault → Type 0 where
  -- the root has a fault
  in_root : (f : ScenarioFault) → root document ≡ Err f → IsFirstFaultOf document f
  -- the root is fine, and a child of it has a fault
  in_child : (head : Head) (f : ScenarioFault) → root document ≡ Ok head
      → IsChildFault document head.version f → IsFirstFaultOf document f
  -- all children are fine, and a region refers to a lanelet that the document lacks
  in_region : (head : Head) (s : Contents) (id : ℕ) → root document ≡ Ok head
      → IsRead document head.version (children document 0) s
      → IsFirstUnknown (ids_in document) (regions_of s.problems) id
      → IsFirstFaultOf document (UnknownRef id)
  -- all children and regions are fine, and there is no problem
  in_whole : (head : Head) (s : Contents) → root document ≡ Ok head
      → IsRead document head.version (children document 0) s
      → All (IsRegionKnown (ids_in document)) (regions_of s.problems) → s.problems ≡ []
      → IsFirstFaultOf document NoProblem

-- The first fault of some bytes.
pub data IsFirstFaultIn (bytes : List ℕ) : ScenarioFault → Type 0 where
  -- they are no document of the markup
  in_markup : (f : MarkupFault) → markup bytes ≡ Err f → IsFirstFaultIn bytes (from_markup f)
  -- they are a document, and it has a fault
  in_document : (nodes : List Node) (f : ScenarioFault) → markup bytes ≡ Ok nodes
      → IsFirstFaultOf (record { source = bytes; nodes = nodes }) f → IsFirstFaultIn bytes f

-- no other fault is the first
abbrev pub IsOnlyFaultIn : List ℕ → ScenarioFault → Type 0
IsOnlyFaultIn bytes f = (g : ScenarioFault) → IsFirstFaultIn bytes g → g ≡ f

-- a fault of the markup is the one that the markup has, and is never want of memory
abbrev pub IsMarkupTold : List ℕ → ScenarioFault → Type 0
IsMarkupTold bytes (Markup f) = (markup bytes ≡ Err f) × (f ≢ inner.NoMemory)
IsMarkupTold bytes f = ⊤
