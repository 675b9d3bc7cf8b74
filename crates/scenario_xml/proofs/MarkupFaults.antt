-- A fault of the markup is what the markup tells.
use Rattle.std.proofs.Common.{◌≡◌, ℕ, Bool, true, false, eqb, leb, List, [], length, ℤ, Option, Some, None, Result, Ok, Err, refl, ap, ◌∙◌}
use Rattle.std.specs.Prelude.{codes}
use Rattle.std.specs.Bool.{OnFalse}
use Rattle.std.specs.Result.{IfErr}
use Rattle.std.specs.Str.{bytes_eq}
use Rattle.element_tree.specs.Document.{Document}
use Rattle.element_tree.specs.Documents.{markup}
use Rattle.element_tree.specs.Trees.{name_of, children}
use Rattle.element_tree.specs.declared.fault.MarkupFault.{MarkupFault}
use Rattle.element_tree.specs.declared.fault.MarkupFault.TheVariants as inner
use Rattle.element_tree.specs.declared.node.Node.{Node}
use Rattle.reading.specs.Reading.{◌>>=◌, Gives}
use Rattle.scenario_model.specs.declared.lanelet.Lanelet.{Lanelet}
use Rattle.scenario_model.specs.declared.obstacle.Obstacle.{Obstacle}
use Rattle.scenario_model.specs.declared.problem.Problem.{Problem}
use Rattle.scenario_model.specs.declared.scenario.Scenario.{Scenario}
use Rattle.scenario_model.specs.declared.scenario.Version.{Version}
use Rattle.scenario_xml.specs.Elements.{place, wanted_attribute, id_attribute}
use Rattle.scenario_xml.specs.Faults.{is_memory, from_markup}
use Rattle.scenario_xml.specs.Goals.{problem}
use Rattle.scenario_xml.specs.Lanelets.{lanelet}
use Rattle.scenario_xml.specs.Obstacles.{any_obstacle}
use Rattle.scenario_xml.specs.ScenarioFaults.{IsMarkupTold}
use Rattle.scenario_xml.specs.Scenarios.{has_id, new_id, lanelet_step, obstacle_step, problem_step, content_step, id_step, known_ids, contents, tick_length, head_in, root, first_in, unknown_in_problem, none_unknown, checked_scenario, scenario_in, shown, document_in, scenario}
use Rattle.scenario_xml.specs.Versions.{version_in, names_obstacle}
use Rattle.scenario_xml.specs.declared.contents.Contents.{Contents}
use Rattle.scenario_xml.specs.declared.fault.Kind.{Kind}
use Rattle.scenario_xml.specs.declared.fault.Kind.TheVariants as kind
use Rattle.scenario_xml.specs.declared.fault.ScenarioFault.{ScenarioFault}
use Rattle.scenario_xml.specs.declared.fault.ScenarioFault.TheVariants.{Markup, WrongRoot, WrongVersion, Missing, BadNumber, DuplicateId, UnknownRef, BadShape, BadBound, Unsupported, NoProblem, TooMany, NoMemory}
use Rattle.scenario_xml.specs.declared.fault.Wanted.TheVariants as wanted
use Rattle.scenario_xml.specs.declared.quantity.Quantity.TheVariants.{Step}
use Rattle.scenario_xml.proofs.OwnFaults.{IsOwn, fine, chain, either, each, own_number_in, own_attribute, own_id, own_any_obstacle, own_lanelet, own_problem}
use Rattle.scenario_model.specs.declared.limits.TheConstants.{MAX_LANELETS, MAX_OBSTACLES, MAX_PROBLEMS}

own_new_id : {X : Type 0} (what : Kind) (limit : ℕ) (id_of : X → ℕ) (document : Document) (k : ℕ) (items : List X) → IsOwn (new_id what limit id_of document k items)
unfolding new_id
own_new_id what limit id_of document k items =
    either (leb limit (length items)) _ _ (record { own = λ f e. cc })
    (chain (id_attribute document k wanted.Id) _ (own_id document k wanted.Id) (λ id. either (has_id id_of id items) _ _ (record { own = λ f e. cc }) (fine id)))

own_lanelet_step : (document : Document) (k : ℕ) (s : Contents) → IsOwn (lanelet_step document k s)
unfolding lanelet_step
own_lanelet_step document k s =
    chain (new_id kind.Lanelet MAX_LANELETS (λ (l : Lanelet). l.id) document k s.lanelets) _ (own_new_id kind.Lanelet MAX_LANELETS (λ (l : Lanelet). l.id) document k s.lanelets)
    (λ id. chain (lanelet document k id s.known_ids) _ (own_lanelet document k id s.known_ids) (λ l. fine _))

own_obstacle_step : (document : Document) (k : ℕ) (s : Contents) → IsOwn (obstacle_step document k s)
unfolding obstacle_step
own_obstacle_step document k s =
    chain (new_id kind.Obstacle MAX_OBSTACLES (λ (o : Obstacle). o.id) document k s.obstacles) _ (own_new_id kind.Obstacle MAX_OBSTACLES (λ (o : Obstacle). o.id) document k s.obstacles)
    (λ id. chain (any_obstacle document k id) _ (own_any_obstacle document k id) (λ o. fine _))

own_problem_step : (document : Document) (k : ℕ) (s : Contents) → IsOwn (problem_step document k s)
unfolding problem_step
own_problem_step document k s =
    chain (new_id kind.Problem MAX_PROBLEMS (λ (p : Problem). p.id) document k s.problems) _ (own_new_id kind.Problem MAX_PROBLEMS (λ (p : Problem). p.id) document k s.problems)
    (λ id. chain (problem document k id) _ (own_problem document k id) (λ p. fine _))

own_content_step : (document : Document) (k : ℕ) (s : Contents) → IsOwn (content_step document k s)
unfolding content_step
own_content_step document k s =
    either (bytes_eq (name_of document k) (codes "lanelet")) _ _ (own_lanelet_step document k s)
    (either (names_obstacle s.version (name_of document k)) _ _ (own_obstacle_step document k s)
    (either (bytes_eq (name_of document k) (codes "planningProblem")) _ _ (own_problem_step document k s) (fine s)))

own_id_step : (document : Document) (k : ℕ) (ids : List ℕ) → IsOwn (id_step document k ids)
unfolding id_step
own_id_step document k ids = either (bytes_eq (name_of document k) (codes "lanelet")) _ _ (fine _) (fine ids)

own_contents : (document : Document) (version : Version) → IsOwn (contents document version)
unfolding contents known_ids
own_contents document version = chain _ _ (each (id_step document) (children document 0) [] (own_id_step document)) (λ ids. each (content_step document) (children document 0) _ (own_content_step document))

own_version : (text : List ℕ) → IsOwn (version_in text)
unfolding version_in
own_version text = either (bytes_eq text (codes "2020a")) _ _ (fine _) (either (bytes_eq text (codes "2018b")) _ _ (fine _) (record { own = λ f e. cc }))

own_tick : (document : Document) → IsOwn (tick_length document)
unfolding tick_length
own_tick document = chain (wanted_attribute document 0 wanted.TimeStepSize) _ (own_attribute document 0 wanted.TimeStepSize) (own_number_in (place document 0) Step)

own_root : (document : Document) → IsOwn (root document)
unfolding root
own_root document =
    either (bytes_eq (name_of document 0) (codes "commonRoad")) _ _
    (chain (wanted_attribute document 0 wanted.CommonRoadVersion) _ (own_attribute document 0 wanted.CommonRoadVersion)
    (λ text. chain (version_in text) (head_in document) (own_version text) (λ version. chain (tick_length document) _ (own_tick document) (λ step. fine _))))
    (record { own = λ f e. cc })

known_or_not : (step : ℤ) (s : Contents) (o : Option ℕ) → IsOwn (none_unknown step s o)
known_or_not step s (Some id) = record { own = λ f e. cc }
known_or_not step s None = either (eqb (length s.problems) 0) _ _ (record { own = λ f e. cc }) (fine _)

own_whole : (step : ℤ) (s : Contents) → IsOwn (checked_scenario step s)
unfolding checked_scenario
own_whole step s = known_or_not step s (first_in (unknown_in_problem s.known_ids) s.problems)

own_scenario : (document : Document) → IsOwn (scenario_in document)
unfolding scenario_in
own_scenario document = chain (root document) _ (own_root document) (λ head. chain (contents document head.version) (checked_scenario head.step_micros) (own_contents document head.version) (own_whole head.step_micros))

-- the fault of a document of the markup that holds this one is this one, and not want of memory
inside : (g m : MarkupFault) → from_markup g ≡ Markup m → (g ≡ m) × (m ≡ inner.NoMemory → ⊥)
inside (inner.Malformed at) m e = (cc, λ none. cc)
inside (inner.Truncated at) m e = (cc, λ none. cc)
inside (inner.TooDeep at) m e = (cc, λ none. cc)
inside (inner.TooMany at) m e = (cc, λ none. cc)
inside (inner.Unsupported at) m e = (cc, λ none. cc)
inside inner.NoMemory m e = absurd cc

by_markup : (bytes : List ℕ) (m : MarkupFault) (r : Result (List Node) MarkupFault) → markup bytes ≡ r → (shown bytes r >>= scenario_in) ≡ Err (Markup m) → IsMarkupTold bytes (Markup m)
by_markup bytes m (Ok nodes) h e = absurd ((own_scenario (record { source = bytes; nodes = nodes })).own m e)
by_markup bytes m (Err g) h e =
    let same : from_markup g ≡ Markup m = cc in
    let k = inside g m same in
    (h ∙ ap (λ (x : MarkupFault). Err x) k.0, k.1)

in_markup : (bytes : List ℕ) (m : MarkupFault) → scenario bytes ≡ Err (Markup m) → IsMarkupTold bytes (Markup m)
unfolding scenario document_in
in_markup bytes m e = by_markup bytes m (markup bytes) refl e

by_fault : (bytes : List ℕ) (f : ScenarioFault) → OnFalse (is_memory f) (scenario bytes ≡ Err f) → IsMarkupTold bytes f
by_fault bytes (Markup m) h = in_markup bytes m h
by_fault bytes WrongRoot h = tt
by_fault bytes WrongVersion h = tt
by_fault bytes (Missing what at) h = tt
by_fault bytes (BadNumber at) h = tt
by_fault bytes (DuplicateId id) h = tt
by_fault bytes (UnknownRef id) h = tt
by_fault bytes (BadShape id) h = tt
by_fault bytes (BadBound id) h = tt
by_fault bytes (Unsupported at) h = tt
by_fault bytes NoProblem h = tt
by_fault bytes (TooMany what) h = tt
by_fault bytes NoMemory h = tt

pub markup_told : (bytes : List ℕ) (r : Result Scenario ScenarioFault) → Gives is_memory (λ (s : Scenario). s) r (scenario bytes) → IfErr r (IsMarkupTold bytes)
markup_told bytes (Ok s) h = tt
markup_told bytes (Err f) h = by_fault bytes f h
