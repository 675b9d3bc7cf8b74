-- Nothing that is read off the elements of a document has a fault of the markup.
use Rattle.std.proofs.Common.{◌≡◌, ℕ, Bool, true, false, cond, ◌&&◌, not, eqb, leb, ltb, List, [], ◌∷◌, length, ℤ, pos, Option, Some, None, Result, Ok, Err, refl, ap}
use Rattle.std.specs.Prelude.{codes}
use Rattle.std.specs.Str.{bytes_eq}
use Rattle.element_tree.specs.Document.{Document}
use Rattle.element_tree.specs.Tags.{value_of}
use Rattle.element_tree.specs.Trees.{name_of, attributes_of, text_of, children}
use Rattle.element_tree.specs.declared.fault.MarkupFault.{MarkupFault}
use Rattle.fixed_decimal.specs.declared.DecimalFault.{DecimalFault}
use Rattle.fixed_decimal.specs.Answers.{fixed}
use Rattle.fixed_geometry.specs.declared.limits.TheConstants.{MIN_POLYGON_CORNERS}
use Rattle.fixed_geometry.specs.declared.point.Point.{Point}
use Rattle.reading.specs.Reading.{◌>>=◌, read_all}
use Rattle.reading.specs.Words.{number_of}
use Rattle.scenario_model.specs.Scenario.{corner_count}
use Rattle.scenario_model.specs.declared.obstacle.Pose.{Pose}
use Rattle.scenario_model.specs.declared.obstacle.Shape.{Shape}
use Rattle.scenario_model.specs.declared.problem.Region.{Region}
use Rattle.scenario_xml.specs.Elements.{place, child, or_missing, wanted_child, wanted_attribute, some_number, number, wanted_number, number_or_zero, optional_number, exact_or_zero, optional_exact, id_attribute}
use Rattle.scenario_xml.specs.Faults.{word}
use Rattle.scenario_xml.specs.Goals.{span_at, span, some_span, optional_span, heading_span, speed_span, ticks, is_region, any_region, with_region, region_step, some_regions, regions_at, regions, goal, goal_step, some_goals, goals, problem}
use Rattle.scenario_xml.specs.Lanelets.{is_known, way_word, bound, reference_step, references, adjacent_at, adjacent, lanelet}
use Rattle.scenario_xml.specs.Numbers.{places, is_in_range, in_range, number_in, or_bad, id_in}
use Rattle.scenario_xml.specs.Obstacles.{obstacle_shapes, obstacle_states, obstacle_unless, obstacle, moves_as, role, moving, any_obstacle}
use Rattle.scenario_xml.specs.Shapes.{point, point_step, points, point_or_origin, center, is_extent, rectangle, circle, polygon, any_shape, with_shape, shape_step, some_shapes, shapes}
use Rattle.scenario_xml.specs.States.{position, time_at, time, heading, speed, pose, state_step, states_at, states}
use Rattle.scenario_xml.specs.declared.fault.ScenarioFault.{ScenarioFault}
use Rattle.scenario_xml.specs.declared.fault.ScenarioFault.TheVariants.{Markup}
use Rattle.scenario_xml.specs.declared.fault.Wanted.{Wanted}
use Rattle.scenario_xml.specs.declared.fault.Wanted.TheVariants as wanted
use Rattle.scenario_xml.specs.declared.goal.GoalsSoFar.{GoalsSoFar}
use Rattle.scenario_xml.specs.declared.lanelet.ReferencesSoFar.{ReferencesSoFar}
use Rattle.scenario_xml.specs.declared.lanelet.Way.{Way}
use Rattle.scenario_xml.specs.declared.lanelet.Way.TheVariants as way
use Rattle.scenario_xml.specs.declared.quantity.Quantity.{Quantity}
use Rattle.scenario_xml.specs.declared.quantity.Quantity.TheVariants as quantity
use Rattle.scenario_xml.specs.declared.region.RegionsSoFar.{RegionsSoFar}
use Rattle.scenario_xml.specs.declared.shape.ShapesSoFar.{ShapesSoFar}
use Rattle.scenario_xml.proofs.Refusals.{same_fault}
use Rattle.scenario_model.specs.declared.limits.TheConstants.{MAX_GOALS, MAX_REGIONS, MAX_BOUND_POINTS, MAX_CORNERS}
use Rattle.scenario_xml.specs.declared.limits.TheConstants.{MAX_ID_DIGITS}

-- no fault of the markup
pub record IsOwn {X : Type 0} (r : Result X ScenarioFault) : Type 0 where
  pub own : (f : MarkupFault) → r ≡ Err (Markup f) → ⊥

pub fine : {X : Type 0} (x : X) → IsOwn (Ok x)
fine x = record { own = λ f e. cc }

pub chain : {A B : Type 0} (r : Result A ScenarioFault) (f : A → Result B ScenarioFault) → IsOwn r → ((x : A) → IsOwn (f x)) → IsOwn (r >>= f)
chain (Ok x) f h k = k x
chain {B = B} (Err e) f h k = record { own = λ g same. h.own g (ap (λ (d : ScenarioFault). Err d) (same_fault {A = B} (Err e) e (Markup g) refl same)) }

pub either : {X : Type 0} (b : Bool) (x y : Result X ScenarioFault) → IsOwn x → IsOwn y → IsOwn (cond b x y)
either true x y h k = h
either false x y h k = k

pub each : {S : Type 0} (step : ℕ → S → Result S ScenarioFault) (ks : List ℕ) (s : S) → ((k : ℕ) (t : S) → IsOwn (step k t)) → IsOwn (read_all step ks s)
unfolding read_all
each step [] s h = fine s
each step (k ∷ ks) s h = chain (step k s) (read_all step ks) (h k s) (λ t. each step ks t h)

-- numbers and ids
ranged : (at : ℕ) (q : Quantity) (r : Result ℤ DecimalFault) → IsOwn (in_range at q r)
ranged at q (Err f) = record { own = λ f e. cc }
ranged at q (Ok n) = either (is_in_range q n) _ _ (fine n) (record { own = λ f e. cc })

pub own_number_in : (at : ℕ) (q : Quantity) (text : List ℕ) → IsOwn (number_in at q text)
unfolding number_in
own_number_in at q text = ranged at q (fixed text (places q))

digits : (at : ℕ) (o : Option ℕ) → IsOwn (or_bad at o)
digits at None = record { own = λ f e. cc }
digits at (Some n) = fine n

own_id_in : (at : ℕ) (text : List ℕ) → IsOwn (id_in at text)
unfolding id_in
own_id_in at text = either (ltb MAX_ID_DIGITS (length text)) _ _ (record { own = λ f e. cc }) (digits at (number_of text))

-- elements
missing : {X : Type 0} (what : Wanted) (at : ℕ) (o : Option X) → IsOwn (or_missing what at o)
missing what at None = record { own = λ f e. cc }
missing what at (Some x) = fine x

own_child : (document : Document) (k : ℕ) (what : Wanted) → IsOwn (wanted_child document k what)
unfolding wanted_child
own_child document k what = missing what (place document k) (child document k (word what))

pub own_attribute : (document : Document) (k : ℕ) (what : Wanted) → IsOwn (wanted_attribute document k what)
unfolding wanted_attribute
own_attribute document k what = missing what (place document k) (value_of (word what) (attributes_of document k))

texted : (at : ℕ) (q : Quantity) (o : Option (List ℕ)) → IsOwn (some_number at q o)
texted at q None = record { own = λ f e. cc }
texted at q (Some text) = own_number_in at q text

own_number : (document : Document) (k : ℕ) (q : Quantity) → IsOwn (number document k q)
unfolding number
own_number document k q = texted (place document k) q (text_of document k)

own_wanted : (document : Document) (k : ℕ) (what : Wanted) (q : Quantity) → IsOwn (wanted_number document k what q)
unfolding wanted_number
own_wanted document k what q = chain (wanted_child document k what) (λ c. number document c q) (own_child document k what) (λ c. own_number document c q)

zero_number : (document : Document) (q : Quantity) (o : Option ℕ) → IsOwn (number_or_zero document q o)
zero_number document q None = fine (pos 0)
zero_number document q (Some c) = own_number document c q

own_optional : (document : Document) (k : ℕ) (name : List ℕ) (q : Quantity) → IsOwn (optional_number document k name q)
unfolding optional_number
own_optional document k name q = zero_number document q (child document k name)

zero_exact : (document : Document) (q : Quantity) (o : Option ℕ) → IsOwn (exact_or_zero document q o)
zero_exact document q None = fine (pos 0)
zero_exact document q (Some c) = own_wanted document c wanted.Exact q

own_exact : (document : Document) (k : ℕ) (name : List ℕ) (q : Quantity) → IsOwn (optional_exact document k name q)
unfolding optional_exact
own_exact document k name q = zero_exact document q (child document k name)

pub own_id : (document : Document) (k : ℕ) (what : Wanted) → IsOwn (id_attribute document k what)
unfolding id_attribute
own_id document k what = chain (wanted_attribute document k what) (id_in (place document k)) (own_attribute document k what) (λ text. own_id_in (place document k) text)

-- points and shapes
own_point : (document : Document) (k : ℕ) → IsOwn (point document k)
unfolding point
own_point document k =
    chain (wanted_number document k wanted.X quantity.Coordinate) _ (own_wanted document k wanted.X quantity.Coordinate)
    (λ x. chain (wanted_number document k wanted.Y quantity.Coordinate) _ (own_wanted document k wanted.Y quantity.Coordinate) (λ y. fine _))

own_point_step : (document : Document) (k : ℕ) (ps : List Point) → IsOwn (point_step document k ps)
unfolding point_step
own_point_step document k ps = either (bytes_eq (name_of document k) (codes "point")) _ _ (chain (point document k) _ (own_point document k) (λ p. fine _)) (fine ps)

own_points : (document : Document) (k : ℕ) → IsOwn (points document k)
unfolding points
own_points document k = each (point_step document) (children document k) [] (own_point_step document)

origin : (document : Document) (o : Option ℕ) → IsOwn (point_or_origin document o)
origin document None = fine _
origin document (Some c) = own_point document c

own_center : (document : Document) (k : ℕ) → IsOwn (center document k)
unfolding center
own_center document k = origin document (child document k (codes "center"))

own_rectangle : (document : Document) (k id : ℕ) → IsOwn (rectangle document k id)
unfolding rectangle
own_rectangle document k id =
    chain (wanted_number document k wanted.Length quantity.Side) _ (own_wanted document k wanted.Length quantity.Side)
    (λ along. chain (wanted_number document k wanted.Width quantity.Side) _ (own_wanted document k wanted.Width quantity.Side)
    (λ across. chain (optional_number document k (codes "orientation") quantity.Angle) _ (own_optional document k (codes "orientation") quantity.Angle)
    (λ heading. chain (center document k) _ (own_center document k) (λ middle. either (is_extent along && is_extent across) _ _ (fine _) (record { own = λ f e. cc })))))

own_circle : (document : Document) (k id : ℕ) → IsOwn (circle document k id)
unfolding circle
own_circle document k id =
    chain (wanted_number document k wanted.Radius quantity.Side) _ (own_wanted document k wanted.Radius quantity.Side)
    (λ radius. chain (center document k) _ (own_center document k) (λ middle. either (is_extent radius) _ _ (fine _) (record { own = λ f e. cc })))

own_polygon : (document : Document) (k id : ℕ) → IsOwn (polygon document k id)
unfolding polygon
own_polygon document k id = chain (points document k) _ (own_points document k) (λ corners. either (leb MIN_POLYGON_CORNERS (length corners) && leb (length corners) MAX_CORNERS) _ _ (fine _) (record { own = λ f e. cc }))

own_shape : (document : Document) (k id : ℕ) → IsOwn (any_shape document k id)
unfolding any_shape
own_shape document k id =
    either (bytes_eq (name_of document k) (codes "rectangle")) _ _ (chain (rectangle document k id) _ (own_rectangle document k id) (λ s. fine _))
    (either (bytes_eq (name_of document k) (codes "circle")) _ _ (chain (circle document k id) _ (own_circle document k id) (λ s. fine _))
    (either (bytes_eq (name_of document k) (codes "polygon")) _ _ (chain (polygon document k id) _ (own_polygon document k id) (λ s. fine _)) (fine None)))

shape_more : (s : ShapesSoFar) (o : Option Shape) → IsOwn (with_shape s o)
shape_more s None = fine s
shape_more s (Some shape) = either (ltb s.room (corner_count shape)) _ _ (record { own = λ f e. cc }) (fine _)

own_shape_step : (document : Document) (k : ℕ) (s : ShapesSoFar) → IsOwn (shape_step document k s)
unfolding shape_step
own_shape_step document k s = chain (any_shape document k s.id) (with_shape s) (own_shape document k s.id) (shape_more s)

shapes_there : (s : ShapesSoFar) → IsOwn (some_shapes s)
shapes_there s = either (eqb (length s.shapes) 0) _ _ (record { own = λ f e. cc }) (fine s.shapes)

own_shapes : (document : Document) (k id : ℕ) → IsOwn (shapes document k id)
unfolding shapes
own_shapes document k id = chain _ some_shapes (each (shape_step document) (children document k) _ (own_shape_step document)) shapes_there

-- states
own_position : (document : Document) (k : ℕ) → IsOwn (position document k)
unfolding position
own_position document k =
    chain (wanted_child document k wanted.Position) _ (own_child document k wanted.Position)
    (λ p. chain (wanted_child document p wanted.Point) (point document) (own_child document p wanted.Point) (own_point document))

timed : (document : Document) (k : ℕ) (needed : Bool) (o : Option ℕ) → IsOwn (time_at document k needed o)
timed document k needed None = either needed _ _ (record { own = λ f e. cc }) (fine (pos 0))
timed document k needed (Some t) = own_wanted document t wanted.Exact quantity.Tick

own_time : (document : Document) (k : ℕ) (needed : Bool) → IsOwn (time document k needed)
unfolding time
own_time document k needed = chain (time_at document k needed (child document k (codes "time"))) _ (timed document k needed (child document k (codes "time"))) (λ t. fine _)

own_heading : (document : Document) (k : ℕ) → IsOwn (heading document k)
unfolding heading
own_heading document k = own_exact document k (codes "orientation") quantity.Angle

own_speed : (document : Document) (k : ℕ) → IsOwn (speed document k)
unfolding speed
own_speed document k = own_exact document k (codes "velocity") quantity.Speed

own_pose : (document : Document) (k : ℕ) (needed : Bool) → IsOwn (pose document k needed)
unfolding pose
own_pose document k needed =
    chain (position document k) _ (own_position document k)
    (λ at. chain (heading document k) _ (own_heading document k) (λ angle. chain (speed document k) _ (own_speed document k) (λ pace. chain (time document k needed) _ (own_time document k needed) (λ tick. fine _))))

own_state_step : (document : Document) (k : ℕ) (ps : List Pose) → IsOwn (state_step document k ps)
unfolding state_step
own_state_step document k ps = either (bytes_eq (name_of document k) (codes "state")) _ _ (chain (pose document k true) _ (own_pose document k true) (λ p. fine _)) (fine ps)

trajectory : (document : Document) (ps : List Pose) (o : Option ℕ) → IsOwn (states_at document ps o)
trajectory document ps None = fine ps
trajectory document ps (Some t) = each (state_step document) (children document t) ps (own_state_step document)

own_states : (document : Document) (k : ℕ) (first : Pose) → IsOwn (states document k first)
unfolding states
own_states document k first = trajectory document (first ∷ []) (child document k (codes "trajectory"))

-- obstacles
own_obstacle_shapes : (document : Document) (k id : ℕ) → IsOwn (obstacle_shapes document k id)
unfolding obstacle_shapes
own_obstacle_shapes document k id = chain (wanted_child document k wanted.Shape) _ (own_child document k wanted.Shape) (λ s. own_shapes document s id)

own_obstacle_states : (document : Document) (k : ℕ) (moves : Bool) → IsOwn (obstacle_states document k moves)
unfolding obstacle_states
own_obstacle_states document k moves =
    chain (wanted_child document k wanted.InitialState) _ (own_child document k wanted.InitialState)
    (λ i. chain (pose document i moves) _ (own_pose document i moves) (λ first. either moves _ _ (own_states document k first) (fine _)))

unless : (document : Document) (k id : ℕ) (moves : Bool) (o : Option ℕ) → IsOwn (obstacle_unless document k id moves o)
unless document k id moves (Some c) = record { own = λ f e. cc }
unless document k id moves None = chain (obstacle_shapes document k id) _ (own_obstacle_shapes document k id) (λ all. chain (obstacle_states document k moves) _ (own_obstacle_states document k moves) (λ way. fine _))

own_obstacle : (document : Document) (k id : ℕ) (moves : Bool) → IsOwn (obstacle document k id moves)
unfolding obstacle
own_obstacle document k id moves = unless document k id moves (child document k (codes "occupancySet"))

as_text : (at : ℕ) (o : Option (List ℕ)) → IsOwn (moves_as at o)
as_text at None = record { own = λ f e. cc }
as_text at (Some text) = either (bytes_eq text (codes "static")) _ _ (fine false) (either (bytes_eq text (codes "dynamic")) _ _ (fine true) (record { own = λ f e. cc }))

own_role : (document : Document) (k : ℕ) → IsOwn (role document k)
unfolding role
own_role document k = chain (wanted_child document k wanted.Role) _ (own_child document k wanted.Role) (λ r. as_text (place document r) (text_of document r))

own_moving : (document : Document) (k : ℕ) → IsOwn (moving document k)
unfolding moving
own_moving document k = either (bytes_eq (name_of document k) (codes "staticObstacle")) _ _ (fine false) (either (bytes_eq (name_of document k) (codes "dynamicObstacle")) _ _ (fine true) (own_role document k))

pub own_any_obstacle : (document : Document) (k id : ℕ) → IsOwn (any_obstacle document k id)
unfolding any_obstacle
own_any_obstacle document k id = chain (moving document k) (obstacle document k id) (own_moving document k) (own_obstacle document k id)

-- lanelets
own_bound : (document : Document) (k id : ℕ) (what : Wanted) → IsOwn (bound document k id what)
unfolding bound
own_bound document k id what =
    chain (wanted_child document k what) _ (own_child document k what)
    (λ b. chain (points document b) _ (own_points document b) (λ ps. either (leb 2 (length ps) && leb (length ps) MAX_BOUND_POINTS) _ _ (fine ps) (record { own = λ f e. cc })))

own_reference_step : (document : Document) (k : ℕ) (s : ReferencesSoFar) → IsOwn (reference_step document k s)
unfolding reference_step
own_reference_step document k s = either (bytes_eq (name_of document k) (way_word s.way)) _ _ (chain (id_attribute document k wanted.Ref) _ (own_id document k wanted.Ref) (λ id. fine _)) (fine s)

own_references : (document : Document) (k : ℕ) (known_ids : List ℕ) (side : Way) → IsOwn (references document k known_ids side)
unfolding references
own_references document k known_ids side = chain _ _ (each (reference_step document) (children document k) (record { way = side; references = [] }) (own_reference_step document)) (λ s. fine _)

beside : (document : Document) (known_ids : List ℕ) (o : Option ℕ) → IsOwn (adjacent_at document known_ids o)
beside document known_ids None = fine None
beside document known_ids (Some c) = chain (id_attribute document c wanted.Ref) _ (own_id document c wanted.Ref) (λ id. either (is_known known_ids id) _ _ (fine _) (fine None))

own_adjacent : (document : Document) (k : ℕ) (known_ids : List ℕ) (side : Way) → IsOwn (adjacent document k known_ids side)
unfolding adjacent
own_adjacent document k known_ids side = beside document known_ids (child document k (way_word side))

pub own_lanelet : (document : Document) (k id : ℕ) (known_ids : List ℕ) → IsOwn (lanelet document k id known_ids)
unfolding lanelet
own_lanelet document k id known_ids =
    chain (bound document k id wanted.LeftBound) _ (own_bound document k id wanted.LeftBound)
    (λ left. chain (bound document k id wanted.RightBound) _ (own_bound document k id wanted.RightBound)
    (λ right. chain (references document k known_ids way.Back) _ (own_references document k known_ids way.Back)
    (λ back. chain (references document k known_ids way.Ahead) _ (own_references document k known_ids way.Ahead)
    (λ ahead. chain (adjacent document k known_ids way.Left) _ (own_adjacent document k known_ids way.Left)
    (λ beside_left. chain (adjacent document k known_ids way.Right) _ (own_adjacent document k known_ids way.Right) (λ beside_right. fine _))))))

-- goals and problems
spanned : (document : Document) (k : ℕ) (q : Quantity) (o : Option ℕ) → IsOwn (span_at document k q o)
spanned document k q (Some e) = chain (number document e q) _ (own_number document e q) (λ n. fine _)
spanned document k q None =
    chain (wanted_number document k wanted.IntervalStart q) _ (own_wanted document k wanted.IntervalStart q)
    (λ low. chain (wanted_number document k wanted.IntervalEnd q) _ (own_wanted document k wanted.IntervalEnd q) (λ high. fine _))

own_span : (document : Document) (k : ℕ) (q : Quantity) → IsOwn (span document k q)
unfolding span
own_span document k q = spanned document k q (child document k (codes "exact"))

maybe_span : (document : Document) (q : Quantity) (o : Option ℕ) → IsOwn (some_span document q o)
maybe_span document q None = fine None
maybe_span document q (Some c) = chain (span document c q) _ (own_span document c q) (λ s. fine _)

own_optional_span : (document : Document) (k : ℕ) (name : List ℕ) (q : Quantity) → IsOwn (optional_span document k name q)
unfolding optional_span
own_optional_span document k name q = maybe_span document q (child document k name)

own_heading_span : (document : Document) (k : ℕ) → IsOwn (heading_span document k)
unfolding heading_span
own_heading_span document k = own_optional_span document k (codes "orientation") quantity.Angle

own_speed_span : (document : Document) (k : ℕ) → IsOwn (speed_span document k)
unfolding speed_span
own_speed_span document k = own_optional_span document k (codes "velocity") quantity.Speed

own_ticks : (document : Document) (k : ℕ) → IsOwn (ticks document k)
unfolding ticks
own_ticks document k = chain (wanted_child document k wanted.Time) _ (own_child document k wanted.Time) (λ t. own_span document t quantity.Tick)

own_region : (document : Document) (k id : ℕ) → IsOwn (any_region document k id)
unfolding any_region
own_region document k id =
    either (bytes_eq (name_of document k) (codes "lanelet")) _ _ (chain (id_attribute document k wanted.Ref) _ (own_id document k wanted.Ref) (λ lane. fine _))
    (chain (any_shape document k id) _ (own_shape document k id) (λ shape. fine _))

region_more : (s : RegionsSoFar) (o : Option Region) → IsOwn (with_region s o)
region_more s None = fine s
region_more s (Some region) = fine _

own_region_step : (document : Document) (k : ℕ) (s : RegionsSoFar) → IsOwn (region_step document k s)
unfolding region_step
own_region_step document k s =
    either (not (is_region (name_of document k))) _ _ (fine s)
    (either (leb MAX_REGIONS (length s.regions)) _ _ (record { own = λ f e. cc }) (chain (any_region document k s.id) (with_region s) (own_region document k s.id) (region_more s)))

regions_there : (at : ℕ) (s : RegionsSoFar) → IsOwn (some_regions at s)
regions_there at s = either (eqb (length s.regions) 0) _ _ (record { own = λ f e. cc }) (fine s.regions)

placed : (document : Document) (k id : ℕ) (o : Option ℕ) → IsOwn (regions_at document k id o)
placed document k id None = fine []
placed document k id (Some p) = chain _ (some_regions (place document k)) (each (region_step document) (children document p) (record { id = id; regions = [] }) (own_region_step document)) (regions_there (place document k))

own_regions : (document : Document) (k id : ℕ) → IsOwn (regions document k id)
unfolding regions
own_regions document k id = placed document k id (child document k (codes "position"))

own_goal : (document : Document) (k id : ℕ) → IsOwn (goal document k id)
unfolding goal
own_goal document k id =
    chain (ticks document k) _ (own_ticks document k)
    (λ t. chain (regions document k id) _ (own_regions document k id) (λ all. chain (heading_span document k) _ (own_heading_span document k) (λ angle. chain (speed_span document k) _ (own_speed_span document k) (λ pace. fine _))))

own_goal_step : (document : Document) (k : ℕ) (s : GoalsSoFar) → IsOwn (goal_step document k s)
unfolding goal_step
own_goal_step document k s =
    either (not (bytes_eq (name_of document k) (codes "goalState"))) _ _ (fine s)
    (either (leb MAX_GOALS (length s.goals)) _ _ (record { own = λ f e. cc }) (chain (goal document k s.id) _ (own_goal document k s.id) (λ g. fine _)))

goals_there : (at : ℕ) (s : GoalsSoFar) → IsOwn (some_goals at s)
goals_there at s = either (eqb (length s.goals) 0) _ _ (record { own = λ f e. cc }) (fine s.goals)

own_goals : (document : Document) (k id : ℕ) → IsOwn (goals document k id)
unfolding goals
own_goals document k id = chain _ (some_goals (place document k)) (each (goal_step document) (children document k) (record { id = id; goals = [] }) (own_goal_step document)) (goals_there (place document k))

pub own_problem : (document : Document) (k id : ℕ) → IsOwn (problem document k id)
unfolding problem
own_problem document k id =
    chain (wanted_child document k wanted.InitialState) _ (own_child document k wanted.InitialState)
    (λ state. chain (pose document state false) _ (own_pose document state false) (λ start. chain (goals document k id) _ (own_goals document k id) (λ all. fine _)))
