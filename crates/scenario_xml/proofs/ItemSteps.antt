-- A child of the root that is read is one item more of its group, and each item that may come next is read.
use Rattle.std.proofs.Common.{◌≡◌, ◌≢◌, ℕ, Bool, false, cond, eqb, leb, List, [], ◌∷◌, ◌++◌, length, Option, Some, None, Result, Ok, Err, refl, ap, sym, ◌∙◌, subst}
use Rattle.std.specs.List.{All, list_any}
use Rattle.std.proofs.lemmas.Bool.{leb-false, lt-leb}
use Rattle.element_tree.specs.Document.{Document}
use Rattle.element_tree.proofs.ContentLaws.{bind_ok, else_ok, same_value}
use Rattle.reading.specs.Reading.{◌>>=◌}
use Rattle.scenario_model.specs.declared.lanelet.Lanelet.{Lanelet}
use Rattle.scenario_model.specs.declared.obstacle.Obstacle.{Obstacle}
use Rattle.scenario_model.specs.declared.problem.Problem.{Problem}
use Rattle.scenario_xml.specs.Elements.{wanted_child, id_attribute}
use Rattle.scenario_xml.specs.Goals.{goals, problem}
use Rattle.scenario_xml.specs.Lanelets.{bound, references, adjacent, lanelet}
use Rattle.scenario_xml.specs.Obstacles.{obstacle_shapes, obstacle_states, obstacle_unless, obstacle, moving, any_obstacle}
use Rattle.scenario_xml.specs.ScenarioOf.{IsLaneletAt, IsObstacleAt, IsProblemAt}
use Rattle.scenario_xml.specs.Scenarios.{has_id, new_id, lanelet_step, obstacle_step, problem_step}
use Rattle.scenario_xml.specs.States.{pose}
use Rattle.scenario_xml.specs.declared.contents.Contents.{Contents}
use Rattle.scenario_xml.specs.declared.fault.Kind.TheVariants as kind
use Rattle.scenario_xml.specs.declared.fault.ScenarioFault.{ScenarioFault}
use Rattle.scenario_xml.specs.declared.fault.ScenarioFault.TheVariants.{DuplicateId, TooMany}
use Rattle.scenario_xml.specs.declared.fault.Wanted.TheVariants as wanted
use Rattle.scenario_xml.specs.declared.lanelet.Way.TheVariants as way
use Rattle.scenario_xml.proofs.Groups.{IsNext, found_none, none_found}
use Rattle.scenario_model.specs.declared.limits.TheConstants.{MAX_LANELETS, MAX_OBSTACLES, MAX_PROBLEMS}

-- a lanelet, an obstacle and a problem has the id that it was read with, and an obstacle moves as it was read
id_of_lanelet : (document : Document) (k id : ℕ) (known_ids : List ℕ) (l : Lanelet) → lanelet document k id known_ids ≡ Ok l → l.id ≡ id
unfolding lanelet
id_of_lanelet document k id known_ids l e =
    let left = bind_ok (bound document k id wanted.LeftBound) _ l e in
    let right = bind_ok (bound document k id wanted.RightBound) _ l left.2 in
    let back = bind_ok (references document k known_ids way.Back) _ l right.2 in
    let ahead = bind_ok (references document k known_ids way.Ahead) _ l back.2 in
    let beside_left = bind_ok (adjacent document k known_ids way.Left) _ l ahead.2 in
    let beside_right = bind_ok (adjacent document k known_ids way.Right) _ l beside_left.2 in
    ap (λ (x : Lanelet). x.id) (sym (same_value _ _ l refl beside_right.2))

obstacle_case : (document : Document) (k id : ℕ) (moving : Bool) (o : Obstacle) (found : Option ℕ) → obstacle_unless document k id moving found ≡ Ok o → (o.id ≡ id) × (o.moving ≡ moving)
obstacle_case document k id moving o (Some c) e = absurd cc
obstacle_case document k id moving o None e =
    let shaped = bind_ok (obstacle_shapes document k id) _ o e in
    let placed = bind_ok (obstacle_states document k moving) _ o shaped.2 in
    let same = same_value _ _ o refl placed.2 in
    (ap (λ (x : Obstacle). x.id) (sym same), ap (λ (x : Obstacle). x.moving) (sym same))

obstacle_is : (document : Document) (k id : ℕ) (moving : Bool) (o : Obstacle) → obstacle document k id moving ≡ Ok o → (o.id ≡ id) × (o.moving ≡ moving)
unfolding obstacle
obstacle_is document k id moving o e = obstacle_case document k id moving o _ e

obstacle_at : (document : Document) (k id : ℕ) (o : Obstacle) → any_obstacle document k id ≡ Ok o → (o.id ≡ id) × (moving document k ≡ Ok o.moving) × (obstacle document k id o.moving ≡ Ok o)
unfolding any_obstacle
obstacle_at document k id o e =
    let told = bind_ok (moving document k) _ o e in
    let is = obstacle_is document k id told.0 o told.2 in
    (is.0, told.1 ∙ ap (λ (b : Bool). Ok b) (sym is.1), subst (λ (b : Bool). obstacle document k id b ≡ Ok o) (sym is.1) told.2)

id_of_problem : (document : Document) (k id : ℕ) (p : Problem) → problem document k id ≡ Ok p → p.id ≡ id
unfolding problem
id_of_problem document k id p e =
    let state = bind_ok (wanted_child document k wanted.InitialState) _ p e in
    let start = bind_ok (pose document state.0 false) _ p state.2 in
    let all = bind_ok (goals document k id) _ p start.2 in
    ap (λ (x : Problem). x.id) (sym (same_value _ _ p refl all.2))

-- the id of one more item, by what its attribute gives
abbrev pub fresh : {X : Type 0} → ℕ → ScenarioFault → (X → ℕ) → List X → Result ℕ ScenarioFault → Result ℕ ScenarioFault
fresh limit fault id_of items found = cond (leb limit (length items)) (Err fault) (found >>= λ id. cond (list_any (λ x. eqb (id_of x) id) items) (Err (DuplicateId id)) (Ok id))

-- one more item
abbrev pub added : {X : Type 0} → Result ℕ ScenarioFault → (ℕ → Result X ScenarioFault) → (X → Contents) → Result Contents ScenarioFault
added id read put = id >>= λ id. read id >>= λ x. Ok (put x)

module _ {X : Type 0} (limit : ℕ) (fault : ScenarioFault) (id_of : X → ℕ) (items : List X) (found : Result ℕ ScenarioFault) (read : ℕ → Result X ScenarioFault) (put : X → Contents) where
  record IsAdded (t : Contents) : Type 0 where
    pub item : X
    pub id : found ≡ Ok (id_of item)
    pub content : read (id_of item) ≡ Ok item
    pub next : IsNext id_of limit items item
    pub is : t ≡ put item

  is_added : ((id : ℕ) (x : X) → read id ≡ Ok x → id_of x ≡ id) → (t : Contents) → added (fresh limit fault id_of items found) read put ≡ Ok t → IsAdded t
  is_added keeps t e =
      let named = bind_ok (fresh limit fault id_of items found) _ t e in
      let item = bind_ok (read named.0) _ t named.2 in
      let room = else_ok (leb limit (length items)) fault _ named.0 named.1 in
      let told = bind_ok found (λ i. cond (list_any (λ x. eqb (id_of x) i) items) (Err (DuplicateId i)) (Ok i)) named.0 room.1 in
      let new = else_ok (list_any (λ x. eqb (id_of x) told.0) items) (DuplicateId told.0) (Ok told.0) named.0 told.2 in
      let same : told.0 ≡ id_of item.0 = same_value (Ok told.0) told.0 named.0 refl new.1 ∙ sym (keeps named.0 item.0 item.1) in
      record {
        item = item.0;
        id = told.1 ∙ ap (λ (i : ℕ). Ok i) same;
        content = ap read (keeps named.0 item.0 item.1) ∙ item.1;
        next = record {
          few = leb-false limit (length items) room.0;
          new = subst (λ (i : ℕ). All (λ y. id_of y ≢ i) items) same (found_none id_of told.0 items new.0);
        };
        is = sym (same_value (Ok (put item.0)) (put item.0) t refl item.2);
      }

  adds : (x : X) → found ≡ Ok (id_of x) → read (id_of x) ≡ Ok x → IsNext id_of limit items x → added (fresh limit fault id_of items found) read put ≡ Ok (put x)
  adds x e h next = rw (lt-leb limit (length items) next.few, e, none_found id_of (id_of x) items next.new, h) refl

-- one more lanelet, obstacle or problem
pub record AddsLanelet (document : Document) (k : ℕ) (s t : Contents) : Type 0 where
  pub item : Lanelet
  pub read : IsLaneletAt document s.known_ids k item
  pub next : IsNext (λ (l : Lanelet). l.id) MAX_LANELETS s.lanelets item
  pub is : t ≡ record s { lanelets = s.lanelets ++ item ∷ [] }

pub record AddsObstacle (document : Document) (k : ℕ) (s t : Contents) : Type 0 where
  pub item : Obstacle
  pub read : IsObstacleAt document k item
  pub next : IsNext (λ (o : Obstacle). o.id) MAX_OBSTACLES s.obstacles item
  pub is : t ≡ record s { obstacles = s.obstacles ++ item ∷ [] }

pub record AddsProblem (document : Document) (k : ℕ) (s t : Contents) : Type 0 where
  pub item : Problem
  pub read : IsProblemAt document k item
  pub next : IsNext (λ (p : Problem). p.id) MAX_PROBLEMS s.problems item
  pub is : t ≡ record s { problems = s.problems ++ item ∷ [] }

pub lanelet_is_added : (document : Document) (k : ℕ) (s t : Contents) → lanelet_step document k s ≡ Ok t → AddsLanelet document k s t
unfolding lanelet_step new_id has_id
lanelet_is_added document k s t e =
    let w = is_added MAX_LANELETS (TooMany kind.Lanelet) (λ (l : Lanelet). l.id) s.lanelets (id_attribute document k wanted.Id) (λ id. lanelet document k id s.known_ids) (λ l. record s { lanelets = s.lanelets ++ l ∷ [] }) (λ id l h. id_of_lanelet document k id s.known_ids l h) t e in
    record { item = w.item; read = record { id = w.id; content = w.content }; next = w.next; is = w.is }

pub obstacle_is_added : (document : Document) (k : ℕ) (s t : Contents) → obstacle_step document k s ≡ Ok t → AddsObstacle document k s t
unfolding obstacle_step new_id has_id
obstacle_is_added document k s t e =
    let w = is_added MAX_OBSTACLES (TooMany kind.Obstacle) (λ (o : Obstacle). o.id) s.obstacles (id_attribute document k wanted.Id) (λ id. any_obstacle document k id) (λ o. record s { obstacles = s.obstacles ++ o ∷ [] })
    (λ id o h. (obstacle_at document k id o h).0) t e in
    let is = obstacle_at document k w.item.id w.item w.content in
    record { item = w.item; read = record { id = w.id; moving = is.1; content = is.2 }; next = w.next; is = w.is }

pub problem_is_added : (document : Document) (k : ℕ) (s t : Contents) → problem_step document k s ≡ Ok t → AddsProblem document k s t
unfolding problem_step new_id has_id
problem_is_added document k s t e =
    let w = is_added MAX_PROBLEMS (TooMany kind.Problem) (λ (p : Problem). p.id) s.problems (id_attribute document k wanted.Id) (λ id. problem document k id) (λ p. record s { problems = s.problems ++ p ∷ [] }) (λ id p h. id_of_problem document k id p h) t e in
    record { item = w.item; read = record { id = w.id; content = w.content }; next = w.next; is = w.is }

pub adds_lanelet : (document : Document) (k : ℕ) (s : Contents) (l : Lanelet) → IsLaneletAt document s.known_ids k l → IsNext (λ (l : Lanelet). l.id) MAX_LANELETS s.lanelets l
    → lanelet_step document k s ≡ Ok (record s { lanelets = s.lanelets ++ l ∷ [] })
unfolding lanelet_step new_id has_id
adds_lanelet document k s l h next =
    adds MAX_LANELETS (TooMany kind.Lanelet) (λ (l : Lanelet). l.id) s.lanelets (id_attribute document k wanted.Id) (λ id. lanelet document k id s.known_ids) (λ l. record s { lanelets = s.lanelets ++ l ∷ [] }) l h.id h.content next

pub adds_obstacle : (document : Document) (k : ℕ) (s : Contents) (o : Obstacle) → IsObstacleAt document k o → IsNext (λ (o : Obstacle). o.id) MAX_OBSTACLES s.obstacles o
    → obstacle_step document k s ≡ Ok (record s { obstacles = s.obstacles ++ o ∷ [] })
unfolding obstacle_step new_id has_id any_obstacle
adds_obstacle document k s o h next =
    let content : any_obstacle document k o.id ≡ Ok o = rw h.moving h.content in
    adds MAX_OBSTACLES (TooMany kind.Obstacle) (λ (o : Obstacle). o.id) s.obstacles (id_attribute document k wanted.Id) (λ id. any_obstacle document k id) (λ o. record s { obstacles = s.obstacles ++ o ∷ [] }) o h.id content next

pub adds_problem : (document : Document) (k : ℕ) (s : Contents) (p : Problem) → IsProblemAt document k p → IsNext (λ (p : Problem). p.id) MAX_PROBLEMS s.problems p
    → problem_step document k s ≡ Ok (record s { problems = s.problems ++ p ∷ [] })
unfolding problem_step new_id has_id
adds_problem document k s p h next =
    adds MAX_PROBLEMS (TooMany kind.Problem) (λ (p : Problem). p.id) s.problems (id_attribute document k wanted.Id) (λ id. problem document k id) (λ p. record s { problems = s.problems ++ p ∷ [] }) p h.id h.content next
