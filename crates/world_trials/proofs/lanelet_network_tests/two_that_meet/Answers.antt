use Rattle.std.proofs.Common.{ℕ, List, [], ◌∷◌, refl, arith, rules}
use Rattle.scenario_model.specs.Scenario.{IsKnown}
use Rattle.world_trials.proofs.Scenes.{all_of_none, all_of_one, two_each}
use Rattle.world_trials.proofs.lanelet_network_tests.two_that_meet.Goals as goal

pub network-requires-clause-each : goal.network-requires-clause-each
network-requires-clause-each c =
    let ids : List ℕ = 4 ∷ 9 ∷ [] in
    let first : IsKnown ids 4 = (0, 4, omega arith, refl, refl) in
    let second : IsKnown ids 9 = (1, 9, omega arith, refl, refl) in
    two_each _ _ _ _ _ c.new-lanelets.ensures c.in_ok-push-3.ensures.ok c.in_ok-push-4.ensures.ok
    (record {
      id = omega arith;
      left = c.in_ok-bound.ensures;
      right = c.in_ok-bound-2.ensures;
      predecessors = all_of_none (IsKnown ids) c.new.result c.new.ensures;
      successors = all_of_one (IsKnown ids) 9 c.new-successors.result c.push.new.self c.new-successors.ensures c.in_ok-push.ensures.ok second;
      adjacent_left = search rules;
      adjacent_right = search rules;
    })
    (record {
      id = omega arith;
      left = c.in_ok-bound-3.ensures;
      right = c.in_ok-bound-4.ensures;
      predecessors = all_of_one (IsKnown ids) 4 c.new-predecessors.result c.push-2.new.self c.new-predecessors.ensures c.in_ok-push-2.ensures.ok first;
      successors = all_of_none (IsKnown ids) c.new-2.result c.new-2.ensures;
      adjacent_left = search rules;
      adjacent_right = search rules;
    })
