use Rattle.std.proofs.Common.{rules, ℕ, ◌+◌, ◌<◌, List, [], Bor, map, length, sym, ap, arith, codes, Some}
use Rattle.std.proofs.lemmas.List.{length-map, get_or-map}
use Rattle.violation_measures.specs.Scenes.{features_of}
use Rattle.violation_measures.specs.SceneSources.{scene_of as source_scene}
use Rattle.maneuver_lattice.specs.Moves.{scene_of}
use Rattle.command_outcome.specs.declared.outcome.Role.TheVariants as role
use Rattle.command_outcome.specs.Inputs.{told}
use Rattle.command_outcome.specs.Outcome.{fault_at}
use Rattle.rulebook_commands.specs.MoveList.{moves_told}
use Rattle.bound_scene.proofs.Binding.{refusing_stops}
use Rattle.rulebook_commands.proofs.Walks.{tells_more, tells_where, walked_to}
use Rattle.rulebook_commands.proofs.walking.walk_names.Goals as goal

pub choice_named-requires : goal.choice_named-requires
choice_named-requires c =
    let g = c.args.graph.now in
    let w = c.loop-place.walked in
    walked_to (scene_of g.moves) (features_of (source_scene g.source.now)) g.bound.now g.bound_to w.choices w.state w.vector c.loop-place.invariant.0.reaches

pub returns-in-None-clause-tests : goal.returns-in-None-clause-tests
returns-in-None-clause-tests c =
    let scene = scene_of c.args.graph.now.moves in
    let items = c.args.names.now in
    let place = c.loop-place.place in
    let within : place < length items = search rules in
    let names = map (λ (n : Bor (List ℕ)). n.now) items in
    let inside : place < length names = omega (arith, within, length-map items (λ (n : Bor (List ℕ)). n.now)) in
    refusing_stops role.List (moves_told scene names) (fault_at (codes "no-such-move") (place + 1)) c.refuse_at.result
    (ap (told (λ k. Some (fault_at (codes "no-such-move") k))) (tells_where scene names c.loop-place.walked.choices c.loop-place.walked.state place _ inside (get_or-map (λ (n : Bor (List ℕ)). n.now) items place _ [] within) c.loop-place.invariant.1 (sym c.in-None.ensures.value))) c.refuse_at.ensures

pub loop-place-preserved : goal.loop-place-preserved
loop-place-preserved c =
    let scene = scene_of c.args.graph.now.moves in
    let items = c.args.names.now in
    let place = c.loop-place.place in
    let within : place < length items = search rules in
    let names = map (λ (n : Bor (List ℕ)). n.now) items in
    let inside : place < length names = omega (arith, within, length-map items (λ (n : Bor (List ℕ)). n.now)) in
    let longer = c.in_ok-walked-in-Some.walked in (
      c.in_ok-walked-in-Some.ensures.reaches,
      tells_more scene names c.loop-place.walked.choices c.loop-place.walked.state place _ inside (get_or-map (λ (n : Bor (List ℕ)). n.now) items place _ [] within) c.loop-place.invariant.1 c.in-Some.choice longer.choices longer.state (sym c.in-Some.ensures.value) c.in_ok-walked-in-Some.ensures.choices c.in_ok-walked-in-Some.ensures.state,
    )
