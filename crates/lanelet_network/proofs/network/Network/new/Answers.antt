use Rattle.std.proofs.Common.{◌≡◌, ◌∙◌, ap, subst, map, arith, List}
use Rattle.std.proofs.lemmas.List.{take_all, length-map}
use Rattle.lanelet_network.specs.Lanes.{Lane, lane_of, lanes_of, lane_ids}
use Rattle.lanelet_network.specs.Cells.{IsGridOf}
use Rattle.lanelet_network.proofs.Ids.{ids_kept, different_lanes}
use Rattle.lanelet_network.proofs.network.Network.new.Goals as goal

pub invariant_of-result : goal.invariant_of-result
invariant_of-result c =
    let same : c.loop-lanelet.lanes.items ≡ lanes_of c.args.scenario.now = c.loop-lanelet.invariant ∙ ap (map lane_of) (take_all c.loop-lanelet.lanelet-index c.as_slice-lanelet-items.result.now c.loop-lanelet-test.false ∙ c.as_slice-lanelet-items.ensures) in
    let IsOf : List Lane → Type 0 = λ lanes. IsGridOf lanes c.in_ok-grid.grid in
    let grid = subst IsOf (c.as_slice.ensures.value ∙ same) c.in_ok-grid.ensures in
    rw same (omega (arith, c.requires.lanelet_count, length-map c.args.scenario.now.lanelets lane_of), different_lanes c.args.scenario.now.lanelets c.requires.different_lanelets, grid)

pub returns-clause-ids : goal.returns-clause-ids
returns-clause-ids c =
    let same : c.loop-lanelet.lanes.items ≡ lanes_of c.args.scenario.now = c.loop-lanelet.invariant ∙ ap (map lane_of) (take_all c.loop-lanelet.lanelet-index c.as_slice-lanelet-items.result.now c.loop-lanelet-test.false ∙ c.as_slice-lanelet-items.ensures) in
    ap lane_ids same ∙ ids_kept c.args.scenario.now.lanelets
