-- What is read of children of the root, one after the other, is read off them, and what may be read off them is read.
use Rattle.std.proofs.Common.{◌≡◌, ℕ, true, false, List, [], ◌∷◌, ◌++◌, Result, Ok, refl, ap, sym, ◌∙◌, subst, append_assoc}
use Rattle.std.specs.List.{filter}
use Rattle.std.proofs.lemmas.List.{append-nil}
use Rattle.element_tree.specs.Document.{Document}
use Rattle.element_tree.proofs.ContentLaws.{bind_ok, same_value}
use Rattle.scenario_model.specs.declared.lanelet.Lanelet.{Lanelet}
use Rattle.scenario_model.specs.declared.obstacle.Obstacle.{Obstacle}
use Rattle.scenario_model.specs.declared.problem.Problem.{Problem}
use Rattle.scenario_model.specs.declared.scenario.Version.{Version}
use Rattle.reading.specs.Reading.{read_all}
use Rattle.scenario_xml.specs.ScenarioFaults.{ids_in, IsRead}
use Rattle.scenario_xml.specs.ScenarioOf.{is_lanelet, is_obstacle, is_problem, IsLaneletAt, IsObstacleAt, IsProblemAt, AreReadOff}
use Rattle.scenario_xml.specs.Scenarios.{content_step}
use Rattle.scenario_xml.specs.declared.contents.Contents.{Contents}
use Rattle.scenario_xml.specs.declared.fault.ScenarioFault.{ScenarioFault}
use Rattle.scenario_xml.proofs.Groups.{none_yet, one_more, no_more, AreToCome, comes_first, comes_later, none_comes, all_come}
use Rattle.scenario_xml.proofs.ItemSteps.{AddsLanelet, AddsObstacle, AddsProblem, lanelet_is_added, obstacle_is_added, problem_is_added, adds_lanelet, adds_obstacle, adds_problem}
use Rattle.scenario_xml.proofs.Sorts.{Sort, a_lanelet, an_obstacle, a_problem, another, sort_of}
use Rattle.scenario_model.specs.declared.limits.TheConstants.{MAX_LANELETS, MAX_OBSTACLES, MAX_PROBLEMS}

-- what holds of what was read stays so, child by child
holds_on : {S F : Type 0} (step : ℕ → S → Result S F) (P : List ℕ → S → Type 0)
    → ((before : List ℕ) (k : ℕ) (s t : S) → P before s → step k s ≡ Ok t → P (before ++ k ∷ []) t)
    → (ks before : List ℕ) (s t : S) → P before s → read_all step ks s ≡ Ok t → P (before ++ ks) t
unfolding read_all
holds_on step P more [] before s t h e = subst (P (before ++ [])) (same_value (Ok s) s t refl e) (subst (λ (ks : List ℕ). P ks s) (sym (append-nil before)) h)
holds_on step P more (k ∷ ks) before s t h e =
    let first = bind_ok (step k s) (read_all step ks) t e in
    subst (λ (all : List ℕ). P all t) (append_assoc before (k ∷ []) ks) (holds_on step P more ks (before ++ k ∷ []) first.0 t (more before k s first.0 h first.1) first.2)

abbrev lanelet_id_of : Lanelet → ℕ
lanelet_id_of l = l.id

abbrev obstacle_id_of : Obstacle → ℕ
obstacle_id_of o = o.id

abbrev problem_id_of : Problem → ℕ
problem_id_of p = p.id

module _ (document : Document) (version : Version) (before : List ℕ) (k : ℕ) (s t : Contents) (h : IsRead document version before s) where
  more_lanelets : is_lanelet document k ≡ true → is_obstacle version document k ≡ false → is_problem document k ≡ false → AddsLanelet document k s t → IsRead document version (before ++ k ∷ []) t
  more_lanelets l o p w =
      let read = subst (λ (ids : List ℕ). IsLaneletAt document ids k w.item) h.known_ids w.read in
      let P : Contents → Type 0 = λ u. IsRead document version (before ++ k ∷ []) u in
      subst P (sym w.is) (record {
        same_version = h.same_version;
        known_ids = h.known_ids;
        items = record {
          lanelets = one_more (IsLaneletAt document (ids_in document)) lanelet_id_of MAX_LANELETS (is_lanelet document) before s.lanelets k w.item h.items.lanelets l read w.next;
          obstacles = no_more (IsObstacleAt document) obstacle_id_of MAX_OBSTACLES (is_obstacle version document) before s.obstacles k h.items.obstacles o;
          problems = no_more (IsProblemAt document) problem_id_of MAX_PROBLEMS (is_problem document) before s.problems k h.items.problems p;
        };
      })

  more_obstacles : is_lanelet document k ≡ false → is_obstacle version document k ≡ true → is_problem document k ≡ false → AddsObstacle document k s t → IsRead document version (before ++ k ∷ []) t
  more_obstacles l o p w =
      let P : Contents → Type 0 = λ u. IsRead document version (before ++ k ∷ []) u in
      subst P (sym w.is) (record {
        same_version = h.same_version;
        known_ids = h.known_ids;
        items = record {
          lanelets = no_more (IsLaneletAt document (ids_in document)) lanelet_id_of MAX_LANELETS (is_lanelet document) before s.lanelets k h.items.lanelets l;
          obstacles = one_more (IsObstacleAt document) obstacle_id_of MAX_OBSTACLES (is_obstacle version document) before s.obstacles k w.item h.items.obstacles o w.read w.next;
          problems = no_more (IsProblemAt document) problem_id_of MAX_PROBLEMS (is_problem document) before s.problems k h.items.problems p;
        };
      })

  more_problems : is_lanelet document k ≡ false → is_obstacle version document k ≡ false → is_problem document k ≡ true → AddsProblem document k s t → IsRead document version (before ++ k ∷ []) t
  more_problems l o p w =
      let P : Contents → Type 0 = λ u. IsRead document version (before ++ k ∷ []) u in
      subst P (sym w.is) (record {
        same_version = h.same_version;
        known_ids = h.known_ids;
        items = record {
          lanelets = no_more (IsLaneletAt document (ids_in document)) lanelet_id_of MAX_LANELETS (is_lanelet document) before s.lanelets k h.items.lanelets l;
          obstacles = no_more (IsObstacleAt document) obstacle_id_of MAX_OBSTACLES (is_obstacle version document) before s.obstacles k h.items.obstacles o;
          problems = one_more (IsProblemAt document) problem_id_of MAX_PROBLEMS (is_problem document) before s.problems k w.item h.items.problems p w.read w.next;
        };
      })

  as_before : is_lanelet document k ≡ false → is_obstacle version document k ≡ false → is_problem document k ≡ false → t ≡ s → IsRead document version (before ++ k ∷ []) t
  as_before l o p same =
      let P : Contents → Type 0 = λ u. IsRead document version (before ++ k ∷ []) u in
      subst P (sym same) (record {
        same_version = h.same_version;
        known_ids = h.known_ids;
        items = record {
          lanelets = no_more (IsLaneletAt document (ids_in document)) lanelet_id_of MAX_LANELETS (is_lanelet document) before s.lanelets k h.items.lanelets l;
          obstacles = no_more (IsObstacleAt document) obstacle_id_of MAX_OBSTACLES (is_obstacle version document) before s.obstacles k h.items.obstacles o;
          problems = no_more (IsProblemAt document) problem_id_of MAX_PROBLEMS (is_problem document) before s.problems k h.items.problems p;
        };
      })

  by_sort : Sort version document k → content_step document k s ≡ Ok t → IsRead document version (before ++ k ∷ []) t
  by_sort (a_lanelet l o p step) e = more_lanelets l o p (lanelet_is_added document k s t (sym (step s h.same_version) ∙ e))
  by_sort (an_obstacle l o p step) e = more_obstacles l o p (obstacle_is_added document k s t (sym (step s h.same_version) ∙ e))
  by_sort (a_problem l o p step) e = more_problems l o p (problem_is_added document k s t (sym (step s h.same_version) ∙ e))
  by_sort (another l o p step) e = as_before l o p (same_value (content_step document k s) t s e (step s h.same_version))

-- before any child
abbrev pub nothing : Document → Version → Contents
nothing document version = record { version = version; known_ids = ids_in document; lanelets = []; obstacles = []; problems = [] }

nothing_is_read : (document : Document) (version : Version) → IsRead document version [] (nothing document version)
nothing_is_read document version = record {
  same_version = refl;
  known_ids = refl;
  items = record {
    lanelets = none_yet (IsLaneletAt document (ids_in document)) lanelet_id_of MAX_LANELETS (is_lanelet document);
    obstacles = none_yet (IsObstacleAt document) obstacle_id_of MAX_OBSTACLES (is_obstacle version document);
    problems = none_yet (IsProblemAt document) problem_id_of MAX_PROBLEMS (is_problem document);
  };
}

-- what was read of some children is read off them
pub is_read : (document : Document) (version : Version) (ks : List ℕ) (t : Contents) → read_all (content_step document) ks (nothing document version) ≡ Ok t → IsRead document version ks t
is_read document version ks t e =
    holds_on (content_step document) (IsRead document version) (λ before k s u h step. by_sort document version before k s u h (sort_of version document k) step) ks [] (nothing document version) t (nothing_is_read document version) e

-- These are still to come, read off these children of the root.
record AreAllToCome (document : Document) (ks : List ℕ) (s : Contents) (ls : List Lanelet) (os : List Obstacle) (ps : List Problem) : Type 0 where
  pub lanelets : AreToCome (IsLaneletAt document s.known_ids) lanelet_id_of MAX_LANELETS (filter (is_lanelet document) ks) s.lanelets ls
  pub obstacles : AreToCome (IsObstacleAt document) obstacle_id_of MAX_OBSTACLES (filter (is_obstacle s.version document) ks) s.obstacles os
  pub problems : AreToCome (IsProblemAt document) problem_id_of MAX_PROBLEMS (filter (is_problem document) ks) s.problems ps

abbrev ended : Contents → List Lanelet → List Obstacle → List Problem → Result Contents ScenarioFault
ended s ls os ps = Ok (record { version = s.version; known_ids = s.known_ids; lanelets = s.lanelets ++ ls; obstacles = s.obstacles ++ os; problems = s.problems ++ ps })

goes_on : {S F : Type 0} (step : ℕ → S → Result S F) (k : ℕ) (ks : List ℕ) (s t : S) (r : Result S F) → step k s ≡ Ok t → read_all step ks t ≡ r → read_all step (k ∷ ks) s ≡ r
unfolding read_all
goes_on step k ks s t r e h = rw e h

pushed : {X : Type 0} (xs : List X) (x : X) (others all : List X) → all ≡ x ∷ others → (xs ++ x ∷ []) ++ others ≡ xs ++ all
pushed xs x others all e = append_assoc xs (x ∷ []) others ∙ ap (λ (ys : List _). xs ++ ys) (sym e)

module _ (document : Document) (k : ℕ) (ks : List ℕ) (again : (s : Contents) (ls : List Lanelet) (os : List Obstacle) (ps : List Problem) → AreAllToCome document ks s ls os ps → read_all (content_step document) ks s ≡ ended s ls os ps)
    (s : Contents) (ls : List Lanelet) (os : List Obstacle) (ps : List Problem) (h : AreAllToCome document (k ∷ ks) s ls os ps) where
  comes_next : Sort s.version document k → read_all (content_step document) (k ∷ ks) s ≡ ended s ls os ps
  comes_next (a_lanelet l o p step) =
      let f = comes_first (IsLaneletAt document s.known_ids) lanelet_id_of MAX_LANELETS (is_lanelet document) k ks s.lanelets ls h.lanelets l in
      let t : Contents = record s { lanelets = s.lanelets ++ f.item ∷ [] } in
      let rest : AreAllToCome document ks t f.others os ps = record {
        lanelets = f.after;
        obstacles = comes_later (IsObstacleAt document) obstacle_id_of MAX_OBSTACLES (is_obstacle s.version document) k ks s.obstacles os h.obstacles o;
        problems = comes_later (IsProblemAt document) problem_id_of MAX_PROBLEMS (is_problem document) k ks s.problems ps h.problems p;
      } in
      goes_on (content_step document) k ks s t (ended s ls os ps) (step s refl ∙ adds_lanelet document k s f.item f.read f.next)
      (again t f.others os ps rest ∙ ap (λ (all : List Lanelet). ended (record s { lanelets = [] }) all os ps) (pushed s.lanelets f.item f.others ls f.cut))
  comes_next (an_obstacle l o p step) =
      let f = comes_first (IsObstacleAt document) obstacle_id_of MAX_OBSTACLES (is_obstacle s.version document) k ks s.obstacles os h.obstacles o in
      let t : Contents = record s { obstacles = s.obstacles ++ f.item ∷ [] } in
      let rest : AreAllToCome document ks t ls f.others ps = record {
        lanelets = comes_later (IsLaneletAt document s.known_ids) lanelet_id_of MAX_LANELETS (is_lanelet document) k ks s.lanelets ls h.lanelets l;
        obstacles = f.after;
        problems = comes_later (IsProblemAt document) problem_id_of MAX_PROBLEMS (is_problem document) k ks s.problems ps h.problems p;
      } in
      goes_on (content_step document) k ks s t (ended s ls os ps) (step s refl ∙ adds_obstacle document k s f.item f.read f.next)
      (again t ls f.others ps rest ∙ ap (λ (all : List Obstacle). ended (record s { obstacles = [] }) ls all ps) (pushed s.obstacles f.item f.others os f.cut))
  comes_next (a_problem l o p step) =
      let f = comes_first (IsProblemAt document) problem_id_of MAX_PROBLEMS (is_problem document) k ks s.problems ps h.problems p in
      let t : Contents = record s { problems = s.problems ++ f.item ∷ [] } in
      let rest : AreAllToCome document ks t ls os f.others = record {
        lanelets = comes_later (IsLaneletAt document s.known_ids) lanelet_id_of MAX_LANELETS (is_lanelet document) k ks s.lanelets ls h.lanelets l;
        obstacles = comes_later (IsObstacleAt document) obstacle_id_of MAX_OBSTACLES (is_obstacle s.version document) k ks s.obstacles os h.obstacles o;
        problems = f.after;
      } in
      goes_on (content_step document) k ks s t (ended s ls os ps) (step s refl ∙ adds_problem document k s f.item f.read f.next)
      (again t ls os f.others rest ∙ ap (λ (all : List Problem). ended (record s { problems = [] }) ls os all) (pushed s.problems f.item f.others ps f.cut))
  comes_next (another l o p step) =
      let rest : AreAllToCome document ks s ls os ps = record {
        lanelets = comes_later (IsLaneletAt document s.known_ids) lanelet_id_of MAX_LANELETS (is_lanelet document) k ks s.lanelets ls h.lanelets l;
        obstacles = comes_later (IsObstacleAt document) obstacle_id_of MAX_OBSTACLES (is_obstacle s.version document) k ks s.obstacles os h.obstacles o;
        problems = comes_later (IsProblemAt document) problem_id_of MAX_PROBLEMS (is_problem document) k ks s.problems ps h.problems p;
      } in
      goes_on (content_step document) k ks s s (ended s ls os ps) (step s refl) (again s ls os ps rest)

all_read : (document : Document) (ks : List ℕ) (s : Contents) (ls : List Lanelet) (os : List Obstacle) (ps : List Problem) → AreAllToCome document ks s ls os ps
    → read_all (content_step document) ks s ≡ ended s ls os ps
unfolding read_all
all_read document [] s ls os ps h =
    let l = none_comes (IsLaneletAt document s.known_ids) lanelet_id_of MAX_LANELETS s.lanelets ls h.lanelets in
    let o = none_comes (IsObstacleAt document) obstacle_id_of MAX_OBSTACLES s.obstacles os h.obstacles in
    let p = none_comes (IsProblemAt document) problem_id_of MAX_PROBLEMS s.problems ps h.problems in
    rw (l, o, p, append-nil s.lanelets, append-nil s.obstacles, append-nil s.problems) refl
all_read document (k ∷ ks) s ls os ps h = comes_next document k ks (all_read document ks) s ls os ps h (sort_of s.version document k)

-- what may be read off all children is read
pub reads_all : (document : Document) (version : Version) (ks : List ℕ) (ls : List Lanelet) (os : List Obstacle) (ps : List Problem) → AreReadOff version document (ids_in document) ks ls os ps
    → read_all (content_step document) ks (nothing document version) ≡ Ok (record { version = version; known_ids = ids_in document; lanelets = ls; obstacles = os; problems = ps })
reads_all document version ks ls os ps h =
    all_read document ks (nothing document version) ls os ps (record {
      lanelets = all_come (IsLaneletAt document (ids_in document)) lanelet_id_of MAX_LANELETS (filter (is_lanelet document) ks) ls h.lanelets;
      obstacles = all_come (IsObstacleAt document) obstacle_id_of MAX_OBSTACLES (filter (is_obstacle version document) ks) os h.obstacles;
      problems = all_come (IsProblemAt document) problem_id_of MAX_PROBLEMS (filter (is_problem document) ks) ps h.problems;
    })
