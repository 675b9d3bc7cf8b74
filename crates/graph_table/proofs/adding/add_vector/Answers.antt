use Rattle.std.proofs.Common.{◌≡◌, ◌<◌, ◌≤◌, ◌∙◌, ap, arith, length, rules}
use Rattle.std.specs.Prelude.{slice_index}
use Rattle.graph_table.proofs.Added.{added_there, added_one, same_length, all_added}
use Rattle.graph_table.proofs.adding.add_vector.Goals as goal

pub add_at-requires-clause-in_range : goal.add_at-requires-clause-in_range
add_at-requires-clause-in_range c =
    let within : c.loop-i.i < length c.as_slice-amount-items.result.now = search rules in
    omega (arith, c.requires.width, same_length c.loop-i.cost c.args.cost.now c.args.vector.now c.loop-i.i c.loop-i.invariant, ap length c.as_slice-amount-items.ensures.value)

pub add_at-requires-clause-fits : goal.add_at-requires-clause-fits
add_at-requires-clause-fits c =
    let within : c.loop-i.i < length c.as_slice-amount-items.result.now = search rules in
    let same = c.as_slice-amount-items.ensures.value in
    let here : slice_index c.loop-i.cost c.loop-i.i ≡ slice_index c.args.cost.now c.loop-i.i = ap (λ xs. slice_index xs c.loop-i.i) c.loop-i.invariant ∙ added_there c.loop-i.i c.args.cost.now c.args.vector.now in
    let there : slice_index c.as_slice-amount-items.result.now c.loop-i.i ≡ slice_index c.args.vector.now c.loop-i.i = ap (λ xs. slice_index xs c.loop-i.i) same in
    let inside : c.loop-i.i < length c.args.cost.now = omega (arith, c.requires.width, ap length same) in
    let fits = c.requires.fits c.loop-i.i inside in
    omega (arith, here, there, fits)

pub loop-i-preserved : goal.loop-i-preserved
loop-i-preserved c =
    let within : c.loop-i.i < length c.as_slice-amount-items.result.now = search rules in
    let same = c.as_slice-amount-items.ensures.value in
    let inside : c.loop-i.i < length c.args.cost.now = omega (arith, c.requires.width, ap length same) in
    let there : slice_index c.as_slice-amount-items.result.now c.loop-i.i ≡ slice_index c.args.vector.now c.loop-i.i = ap (λ xs. slice_index xs c.loop-i.i) same in
    added_one c.loop-i.cost c.args.cost.now c.args.vector.now c.add_at.new.self c.loop-i.i _ c.loop-i.invariant inside (omega (arith, ap length same)) there c.add_at.ensures

pub returns : goal.returns
returns c =
    let far : length c.as_slice-amount-items.result.now ≤ c.loop-i.i = search rules in
    all_added c.loop-i.cost c.args.cost.now c.args.vector.now c.loop-i.i c.loop-i.invariant (omega (arith, c.requires.width)) (omega (arith, c.requires.width, ap length c.as_slice-amount-items.ensures.value))
