-- What is far from a box that holds shapes is far from the shapes.
use Rattle.std.proofs.Common.{◌≡◌, ℕ, ◌+◌, ◌<◌, Bool, true, false, List, [], ◌∷◌, ◌++◌, length, take, get_or, refl, sym, ap, subst, ◌∙◌, arith, ℤ, pos, ◌≤ℤ◌, ◌<ℤ◌}
use Rattle.std.specs.Prelude.{All, map, ◌||◌}
use Rattle.std.specs.List.{fold, list_any}
use Rattle.std.specs.Int.{int_min}
use Rattle.std.proofs.lemmas.Bool.{false_from_ne_true}
use Rattle.std.proofs.lemmas.Int.{ints, clamps}
use Rattle.std.proofs.lemmas.List.{take_more}
use Rattle.std.proofs.lemmas.List.Elements.{All-nil, All-cons, All-head, All-tail, All-append, All-weaker}
use Rattle.fixed_geometry.specs.declared.point.Point.{Point}
use Rattle.fixed_geometry.specs.declared.point.Box2.{Box2}
use Rattle.fixed_geometry.specs.Boxes.{bounds, box_gap, axis_gap}
use Rattle.fixed_geometry.specs.Polygon.{polygons_meet}
use Rattle.fixed_geometry.proofs.Inside.{polygons_share}
use Rattle.fixed_geometry.proofs.Least.{gap_shared}
use Rattle.moving_obstacles.specs.Bounds.{IsBoxIn, AreBounds}

gap_to_inner : (ego inner outer : Box2) → IsBoxIn inner outer → box_gap ego outer ≤ℤ box_gap ego inner
unfolding box_gap axis_gap
gap_to_inner ego inner outer h = omega (arith, ints, clamps, h.left, h.right, h.below, h.above)

box_in_trans : (a b c : Box2) → IsBoxIn a b → IsBoxIn b c → IsBoxIn a c
box_in_trans a b c h k = record {
  left = omega (arith, ints, h.left, k.left);
  right = omega (arith, ints, h.right, k.right);
  below = omega (arith, ints, h.below, k.below);
  above = omega (arith, ints, h.above, k.above);
}

-- one shape more
pub bounds_more : (shapes : List (List Point)) (i : ℕ) (shape : List Point) (held grown : Box2) → i < length shapes → All (λ corners. IsBoxIn (bounds corners) held) (take i shapes) → shape ≡ get_or shapes i shape → IsBoxIn held grown → IsBoxIn (bounds shape) grown → All (λ corners. IsBoxIn (bounds corners) grown) (take (i + 1) shapes)
bounds_more shapes i shape held grown h before here k new =
    let In : List Point → Type 0 = λ corners. IsBoxIn (bounds corners) grown in
    let Was : List Point → Type 0 = λ corners. IsBoxIn (bounds corners) held in
    let kept : All In (take i shapes) = All-weaker Was In (λ corners inside. box_in_trans (bounds corners) held grown inside k) (take i shapes) before in
    let more : take (i + 1) shapes ≡ take i shapes ++ shape ∷ [] = take_more shapes i shape h ∙ ap (λ (s : List Point). take i shapes ++ s ∷ []) (sym here) in
    subst (All In) (sym more) (All-append In (take i shapes) (shape ∷ []) kept (All-cons In shape [] new (All-nil In)))

least_stays : (ego box : Box2) (least : ℤ) (shapes : List (List Point)) → All (λ corners. IsBoxIn (bounds corners) box) shapes → least ≤ℤ box_gap ego box → fold int_min least (map (λ corners. box_gap ego (bounds corners)) shapes) ≡ least
least_stays ego box least [] h far = refl
least_stays ego box least (s ∷ ss) h far =
    let In : List Point → Type 0 = λ corners. IsBoxIn (bounds corners) box in
    let near = gap_to_inner ego (bounds s) box (All-head In s ss h) in
    let same : int_min least (box_gap ego (bounds s)) ≡ least = omega (arith, ints, clamps, near, far) in
    ap (λ (z : ℤ). fold int_min z (map (λ corners. box_gap ego (bounds corners)) ss)) same ∙ least_stays ego box least ss (All-tail In s ss h) far

-- no gap is below that to the box
pub least_kept : (ego box : Box2) (least : ℤ) (shapes : List (List Point)) → AreBounds shapes box → least ≤ℤ box_gap ego box → least ≡ fold int_min least (map (λ corners. box_gap ego (bounds corners)) shapes)
least_kept ego box least shapes h far = sym (least_stays ego box least shapes h.holds far)

apart : (ego shape : List Point) (box : Box2) → IsBoxIn (bounds shape) box → pos 0 <ℤ box_gap (bounds ego) box → polygons_meet ego shape ≡ true → ⊥
apart ego shape box h far meet =
    let near = gap_to_inner (bounds ego) (bounds shape) box h in
    let none = gap_shared (bounds ego) (bounds shape) (polygons_share ego shape meet) in
    omega (arith, ints, near, none, far)

none_meets : (ego : List Point) (box : Box2) (shapes : List (List Point)) → All (λ corners. IsBoxIn (bounds corners) box) shapes → pos 0 <ℤ box_gap (bounds ego) box → list_any (polygons_meet ego) shapes ≡ false
none_meets ego box [] h far = refl
none_meets ego box (s ∷ ss) h far =
    let In : List Point → Type 0 = λ corners. IsBoxIn (bounds corners) box in
    let other : polygons_meet ego s ≡ false = false_from_ne_true (polygons_meet ego s) (apart ego s box (All-head In s ss h) far) in
    ap (λ (b : Bool). b || list_any (polygons_meet ego) ss) other ∙ none_meets ego box ss (All-tail In s ss h) far

-- a polygon whose least box is apart from the box meets no shape
pub none_met : (ego : List Point) (box : Box2) (shapes : List (List Point)) → AreBounds shapes box → pos 0 <ℤ box_gap (bounds ego) box → false ≡ list_any (polygons_meet ego) shapes
none_met ego box shapes h far = sym (none_meets ego box shapes h.holds far)
