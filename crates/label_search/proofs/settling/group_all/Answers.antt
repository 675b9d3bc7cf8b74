use Rattle.std.proofs.Common.{◌≡◌, length, take, sym, subst, inl, inr, arith}
use Rattle.std.specs.Prelude.{All, Contains}
use Rattle.std.proofs.lemmas.List.{take_all}
use Rattle.std.proofs.lemmas.List.Elements.{All-nil, All-more, All-weaker, All-contains, All-contains_itself, Contains-get_or}
use Rattle.rulebook_order.proofs.Lists.{Contains-from_slice_get}
use Rattle.label_search.specs.Index.{items_at}
use Rattle.label_search.specs.Settling.{IsInGroup}
use Rattle.label_search.specs.Stairs.{AreStairs}
use Rattle.label_search.proofs.Groups.{AreGroups-none, items_at-empty}
use Rattle.label_search.proofs.settling.group_all.Goals as goal

pub loop-place-init : goal.loop-place-init
loop-place-init g c =
    let eq = g.G.State.PartialEq.eq in
    let no_worse = g.O.VectorOrder.no_worse c.args.order.now in
    let none = items_at-empty eq c.new-groups.result c.new-groups.ensures.empty in
    record {
      groups = AreGroups-none no_worse c.args.arrivals.now (items_at eq c.new-groups.result) none;
      from = λ s. subst (λ xs. All (λ x. Contains c.args.places.now x.number) xs) (sym (none s)) (All-nil (λ x. Contains c.args.places.now x.number));
      stairs = λ t. record { trade = c.is_trade_off-stairs.ensures t; stairs = λ s. subst (λ xs. AreStairs xs) (sym (none s)) (λ i j d below inside. absurd (omega arith)) };
      covers = All-nil (IsInGroup no_worse c.args.arrivals.now (items_at eq c.new-groups.result));
    }

pub put_in_group-requires-clause-place : goal.put_in_group-requires-clause-place
put_in_group-requires-clause-place g c = c.requires.places c.loop-place.place-index 0 c.loop-place-test.true

pub loop-place-preserved : goal.loop-place-preserved
loop-place-preserved g c =
    let eq = g.G.State.PartialEq.eq in
    let no_worse = g.O.VectorOrder.no_worse c.args.order.now in
    let arrivals = c.args.arrivals.now in
    let places = c.args.places.now in
    let i = c.loop-place.place-index in
    let old = items_at eq c.loop-place.groups in
    let new = items_at eq c.put_in_group.new.groups in
    let put = c.in_ok-stairs.ensures {u = tt} in
    let from = c.loop-place.invariant.from in
    record {
      groups = put.groups;
      from = λ s. All-weaker (Contains (new s)) (λ x. Contains places x.number)
          (λ x h. elim (put.from s x h) [ inl before ↦ All-contains (λ x. Contains places x.number) (old s) x (from s) before | inr e ↦ subst (Contains places) (sym e) (Contains-get_or places i 0 c.loop-place-test.true) ])
          (new s) (All-contains_itself (new s));
      stairs = put.stairs;
      covers = All-more (IsInGroup no_worse arrivals new) places i 0 c.loop-place-test.true
          (All-weaker (IsInGroup no_worse arrivals old) (IsInGroup no_worse arrivals new)
          (λ place h x at. put.keeps x.state x.vector (All-contains (λ y. length y.vector ≡ g.O.VectorOrder.rules c.args.order.now) arrivals x c.requires.widths (Contains-from_slice_get arrivals place x at)) (h x at))
          (take i places) c.loop-place.invariant.covers)
          put.covers;
    }

pub returns-clause-covers : goal.returns-clause-covers
returns-clause-covers g c = let all = take_all c.loop-place.place-index c.args.places.now c.loop-place-test.false in rw all at c.loop-place.invariant.covers
