-- One shape more.
use Rattle.std.proofs.Common.{◌≡◌, ℕ, ◌+◌, ◌-◌, ◌≤◌, List, [], ◌∷◌, ◌++◌, arith}
use Rattle.std.specs.Prelude.{map, sum}
use Rattle.std.proofs.lemmas.List.{map-append}
use Rattle.std.proofs.lemmas.List.Elements.{All-push}
use Rattle.std.proofs.lemmas.List.Sums.{sum_by_push}
use Rattle.scenario_model.specs.Scenario.{corner_count, IsShape}
use Rattle.scenario_model.specs.declared.obstacle.Shape.{Shape}
use Rattle.scenario_xml.specs.Shapes.{IsSoFar}
use Rattle.scenario_xml.specs.declared.shape.ShapesSoFar.{ShapesSoFar}

corners_more : (shapes : List Shape) (shape : Shape) → sum (map corner_count (shapes ++ shape ∷ [])) ≡ sum (map corner_count shapes) + corner_count shape
corners_more shapes shape = rw (map-append corner_count shapes (shape ∷ [])) (sum_by_push (λ (x : ℕ). x) (map corner_count shapes) (corner_count shape))

pub more_shapes : (s : ShapesSoFar) (shape : Shape) → IsSoFar s → IsShape shape → corner_count shape ≤ s.room
    → IsSoFar (record s { shapes = s.shapes ++ shape ∷ []; room = s.room - corner_count shape })
more_shapes s shape h sound fits = record {
  shapes = All-push IsShape s.shapes shape h.shapes sound;
  corners = omega (arith, h.corners, fits, corners_more s.shapes shape);
}
