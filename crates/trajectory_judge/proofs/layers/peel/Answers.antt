use Rattle.std.proofs.Common.{◌≡◌, ℕ, ◌+◌, ◌<◌, sym, ◌∙◌, refl, arith, length, ap, List, [], Bool}
use Rattle.std.specs.Prelude.{All}
use Rattle.rulebook_order.specs.VectorOrder.{IsVectorOrder}
use Rattle.std.specs.Prelude.{slice_index}
use Rattle.trajectory_judge.specs.declared.judged.Judged.{Judged}
use Rattle.trajectory_judge.specs.Peeling.{AreAlike, layers_of, raised, vectors_of}
use Rattle.trajectory_judge.proofs.Chains.{layer_tested}
use Rattle.trajectory_judge.proofs.JudgedRuns.{alike_size, layer_of, same_size, wide_alike, wide_at}
use Rattle.trajectory_judge.proofs.Rounds.{IsPeeled, left_count, left_falls, left_few, peeled_all, peeled_more, peeled_none}
use Rattle.trajectory_judge.proofs.layers.peel.Goals as goal

no_run : Judged
no_run = record { name = []; layer = 0; vector = [] }

pub loop-round-init : goal.loop-round-init
loop-round-init g c =
    let runs = c.args.runs.now in (
      peeled_none (g.O.VectorOrder.no_worse c.args.order.now) (vectors_of runs) (layers_of runs)
          (λ i inside. let within : i < length runs = omega (arith, inside, same_size runs) in layer_of runs i no_run within ∙ c.requires.first i no_run within),
      record { names = refl; vectors = refl },
      omega (arith, left_few (length (vectors_of runs)) 0 (layers_of runs)),
    )

pub raise-requires-clause-width : goal.raise-requires-clause-width
raise-requires-clause-width g c = wide_alike c.args.runs.now c.loop-round.runs _ c.loop-round.invariant.1 c.requires.width

-- a round that raised some leaves fewer
fewer : (no_worse : List ℕ → List ℕ → Bool) (width round : ℕ) (order : IsVectorOrder width no_worse) (old new : List Judged) → IsPeeled no_worse (vectors_of old) round (layers_of old) → AreAlike old new
    → All (λ (run : Judged). length run.vector ≡ width) old
    → ((i : ℕ) → i < length old → slice_index (layers_of new) i ≡ raised no_worse (vectors_of old) (layers_of old) round i)
    → ((i : ℕ) × (i < length old) × (slice_index (layers_of old) i ≡ round))
    → left_count (length (vectors_of new)) (round + 1) (layers_of new) < left_count (length (vectors_of old)) round (layers_of old)
fewer no_worse width round order old new peeled alike wide is some =
    rw (alike.vectors)
    (left_falls no_worse (vectors_of old) round (layers_of old) peeled width order (wide_at old width wide) (layers_of new) (λ i inside. is i (omega (arith, inside, same_size old))) some.0 (omega (arith, some.1, same_size old)) some.2)

more : (no_worse : List ℕ → List ℕ → Bool) (round : ℕ) (old new : List Judged) → IsPeeled no_worse (vectors_of old) round (layers_of old) → AreAlike old new
    → ((i : ℕ) → i < length old → slice_index (layers_of new) i ≡ raised no_worse (vectors_of old) (layers_of old) round i)
    → IsPeeled no_worse (vectors_of new) (round + 1) (layers_of new)
more no_worse round old new peeled alike is =
    rw (alike.vectors) (peeled_more no_worse (vectors_of old) round (layers_of old) peeled (layers_of new) (λ i inside. is i (omega (arith, inside, same_size old))))

pub loop-round-smaller : goal.loop-round-smaller
loop-round-smaller g c =
    let old = c.loop-round.runs in
    let wide = wide_alike c.args.runs.now old _ c.loop-round.invariant.1 c.requires.width in
    fewer (g.O.VectorOrder.no_worse c.args.order.now) _ c.loop-round.round (g.met.O.VectorOrder.laws c.args.order.now) old c.raise.new.runs c.loop-round.invariant.0 c.raise.ensures.alike wide c.raise.ensures.raised (c.raise.ensures.some c.loop-round-test.true)

pub loop-round-preserved : goal.loop-round-preserved
loop-round-preserved g c =
    let nw = g.O.VectorOrder.no_worse c.args.order.now in
    let old = c.loop-round.runs in
    let new = c.raise.new.runs in
    let alike = c.raise.ensures.alike in
    let wide = wide_alike c.args.runs.now old _ c.loop-round.invariant.1 c.requires.width in
    let less = fewer nw _ c.loop-round.round (g.met.O.VectorOrder.laws c.args.order.now) old new c.loop-round.invariant.0 alike wide c.raise.ensures.raised (c.raise.ensures.some c.loop-round-test.true) in (
      more nw c.loop-round.round old new c.loop-round.invariant.0 alike c.raise.ensures.raised,
      record { names = alike.names ∙ c.loop-round.invariant.1.names; vectors = alike.vectors ∙ c.loop-round.invariant.1.vectors },
      omega (arith, less, c.loop-round.invariant.2, ap (length {A = List ℕ}) alike.vectors),
    )

pub returns-clause-layers : goal.returns-clause-layers
returns-clause-layers g c i inside =
    let nw = g.O.VectorOrder.no_worse c.args.order.now in
    let old = c.loop-round.runs in
    let new = c.raise.new.runs in
    let alike = c.raise.ensures.alike in
    let same : layers_of new ≡ layers_of old = c.raise.ensures.none c.loop-round-test.false in
    let within : i < length (vectors_of old) = omega (arith, inside, same_size old, alike_size c.args.runs.now old c.loop-round.invariant.1) in
    let is : (k : ℕ) → k < length (vectors_of old) → slice_index (layers_of old) k ≡ raised nw (vectors_of old) (layers_of old) c.loop-round.round k =
    λ k h. sym (ap (λ (layers : List ℕ). slice_index layers k) same) ∙ c.raise.ensures.raised k (omega (arith, h, same_size old)) in
    rw (alike.vectors, same) (layer_tested nw (vectors_of old) i (slice_index (layers_of old) i) (peeled_all nw (vectors_of old) c.loop-round.round (layers_of old) c.loop-round.invariant.0 is i within))
