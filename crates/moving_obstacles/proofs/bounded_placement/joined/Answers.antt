use Rattle.std.proofs.Common.{rules, FitsSigned, w64, to_z-of_z}
use Rattle.moving_obstacles.proofs.bounded_placement.joined.Goals as goal

pub returns-clause-first : goal.returns-clause-first
returns-clause-first c =
    let l : FitsSigned w64 c.lesser-left.result = search rules in
    let b : FitsSigned w64 c.lesser-below.result = search rules in
    let r : FitsSigned w64 c.greater-right.result = search rules in
    let a : FitsSigned w64 c.greater-above.result = search rules in
    let left_fits : FitsSigned w64 c.args.a.low.x = search rules in
    let below_fits : FitsSigned w64 c.args.a.low.y = search rules in
    let right_fits : FitsSigned w64 c.args.a.high.x = search rules in
    let above_fits : FitsSigned w64 c.args.a.high.y = search rules in
    simp to_z-of_z (record {
      left = simp to_z-of_z at c.lesser-left.ensures.first;
      right = simp to_z-of_z at c.greater-right.ensures.first;
      below = simp to_z-of_z at c.lesser-below.ensures.first;
      above = simp to_z-of_z at c.greater-above.ensures.first;
    })

pub returns-clause-second : goal.returns-clause-second
returns-clause-second c =
    let l : FitsSigned w64 c.lesser-left.result = search rules in
    let b : FitsSigned w64 c.lesser-below.result = search rules in
    let r : FitsSigned w64 c.greater-right.result = search rules in
    let a : FitsSigned w64 c.greater-above.result = search rules in
    let left_fits : FitsSigned w64 c.args.b.low.x = search rules in
    let below_fits : FitsSigned w64 c.args.b.low.y = search rules in
    let right_fits : FitsSigned w64 c.args.b.high.x = search rules in
    let above_fits : FitsSigned w64 c.args.b.high.y = search rules in
    simp to_z-of_z (record {
      left = simp to_z-of_z at c.lesser-left.ensures.second;
      right = simp to_z-of_z at c.greater-right.ensures.second;
      below = simp to_z-of_z at c.lesser-below.ensures.second;
      above = simp to_z-of_z at c.greater-above.ensures.second;
    })

pub returns-clause-in_range : goal.returns-clause-in_range
returns-clause-in_range c =
    let l : FitsSigned w64 c.lesser-left.result = search rules in
    let b : FitsSigned w64 c.lesser-below.result = search rules in
    let r : FitsSigned w64 c.greater-right.result = search rules in
    let a : FitsSigned w64 c.greater-above.result = search rules in
    simp to_z-of_z (record {
      low = record { x = c.lesser-left.ensures.size; y = c.lesser-below.ensures.size };
      high = record { x = c.greater-right.ensures.size; y = c.greater-above.ensures.size };
    })
