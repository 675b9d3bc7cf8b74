use Rattle.std.proofs.Common.{◌<◌, length}
use Rattle.std.specs.Prelude.{All, Contains}
use Rattle.std.specs.List.Sorted.{IsPermutation}
use Rattle.std.proofs.lemmas.List.Elements.{All-weaker}
use Rattle.std.proofs.lemmas.List.Sorted.{All-permutation, Contains-permutation, IsPermutation-sym}
use Rattle.std.proofs.lemmas.Result.{IfOk-weaker}
use Rattle.label_search.specs.Index.{items_at}
use Rattle.label_search.specs.Settling.{IsInGroup, AreFrom, IsKept, KeepsPlace, IsAtPlace, CoversPlace}
use Rattle.label_search.proofs.Groups.{covers_places, at_places}
use Rattle.label_search.proofs.settling.settle.Goals as goal

pub group_all-requires-clause-places : goal.group_all-requires-clause-places
group_all-requires-clause-places g c = rw c.as_slice.ensures.value (All-permutation (λ place. place < length c.args.arrivals.now) c.args.places.now c.in_ok-sorted.sorted.items (c.in_ok-sorted.ensures {u = tt}) c.requires.places)

pub returns-clause-from : goal.returns-clause-from
returns-clause-from g c =
    let candidates = items_at g.G.State.PartialEq.eq c.in_ok-groups.groups in
    IfOk-weaker c.kept_of.result (λ kept. All (IsKept c.args.arrivals.now c.args.places.now candidates) kept.items) (λ kept. All (IsAtPlace c.args.arrivals.now c.args.places.now) kept.items)
    (λ kept h. at_places c.args.arrivals.now c.args.places.now candidates kept.items h) c.kept_of.ensures.from

pub returns-clause-covers : goal.returns-clause-covers
returns-clause-covers g c =
    let candidates = items_at g.G.State.PartialEq.eq c.in_ok-groups.groups in
    let no_worse = g.O.VectorOrder.no_worse c.args.order.now in
    let grouped = c.in_ok-groups.ensures {u = tt} in
    let places = c.args.places.now in
    let sorted = c.as_slice.result.now in
    let back : IsPermutation sorted places = IsPermutation-sym places sorted (rw c.as_slice.ensures.value (c.in_ok-sorted.ensures {u = tt})) in
    let from : AreFrom places candidates = λ s. All-weaker (λ x. Contains sorted x.number) (λ x. Contains places x.number) (λ x h. Contains-permutation sorted places x.number back h) (candidates s) (grouped.from s) in
    let covers = All-permutation (IsInGroup no_worse c.args.arrivals.now candidates) sorted places back grouped.covers in
    IfOk-weaker c.kept_of.result (λ kept. All (KeepsPlace c.args.arrivals.now candidates kept.items) c.args.places.now) (λ kept. All (CoversPlace no_worse c.args.arrivals.now kept.items) c.args.places.now)
    (λ kept h. covers_places no_worse c.args.arrivals.now candidates grouped.groups c.args.places.now from kept.items covers h) c.kept_of.ensures.all
