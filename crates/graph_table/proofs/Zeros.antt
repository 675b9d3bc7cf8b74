-- Zeros, to which a step or an end is added.
use Rattle.std.proofs.Common.{◌≡◌, ℕ, ◌<◌, ◌+◌, ◌*◌, ◌^◌, replicate, arith}
use Rattle.std.proofs.lemmas.List.Elements.{All-replicate}
use Rattle.rulebook_order.specs.Graph.{Graph, IsStateOf}
use Rattle.rulebook_order.specs.StepGraph.{IsStepGraph, HasRoom, ticks_passed}
use Rattle.rulebook_order.specs.Sums.{sums}
use Rattle.rulebook_order.proofs.Reached.{width_reached}
use Rattle.rulebook_order.proofs.Room.{room_to_extend, sums-zeros}

module _ {S : Type 0} (g : Graph S) (laws : IsStepGraph g) (s : S) (r : IsStateOf g s) where
  -- where a vector of the width has room for an amount, zeros have
  room_in_zeros : (amount : ℕ) → HasRoom amount r.0 → HasRoom amount (replicate g.width 0)
  room_in_zeros amount room =
      let wide = laws.width.0 in
      let long = width_reached g laws s r.0 r.1 in
      let first = room 0 0 (omega arith) in
      All-replicate (λ x. x + amount < 2 ^ 64) g.width 0 (omega arith)

  pub room_for_choice : (c : ℕ) → c < g.choices s → HasRoom (g.step_limit * ticks_passed g s c) (replicate g.width 0)
  room_for_choice c below = room_in_zeros (g.step_limit * ticks_passed g s c) (room_to_extend g laws s r.0 c r.1 below)

  -- so just what is added is there
  pub cost_in_zeros : (c : ℕ) → c < g.choices s → sums (replicate g.width 0) (g.cost s c) ≡ g.cost s c
  cost_in_zeros c below = sums-zeros g.width (g.cost s c) (laws.cost s c r below).width

  pub finish_in_zeros : sums (replicate g.width 0) (g.finish s) ≡ g.finish s
  finish_in_zeros = sums-zeros g.width (g.finish s) (laws.finish s r).width
