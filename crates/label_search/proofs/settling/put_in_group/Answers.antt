use Rattle.std.proofs.Common.{◌≡◌, List, length, refl, sym, ap, ◌∙◌, subst, inl, inr, ◌⊎◌}
use Rattle.std.specs.Prelude.{All, Contains}
use Rattle.std.proofs.lemmas.Option.{same_Some, slice_get_read}
use Rattle.std.proofs.lemmas.List.Elements.{All-contains}
use Rattle.rulebook_order.proofs.Lists.{Contains-from_slice_get}
use Rattle.label_search.specs.declared.candidate.Candidate.{Candidate}
use Rattle.label_search.specs.Candidates.{IsCovered, StandApart}
use Rattle.label_search.specs.Index.{items_at}
use Rattle.label_search.specs.Settling.{IsArrival}
use Rattle.label_search.specs.Stairs.{AreStairs, ComesNext}
use Rattle.label_search.proofs.StairSteps.{stairs_push}
use Rattle.label_search.proofs.Groups.{at_each, widths_at, arrivals_left}
use Rattle.label_search.specs.declared.arrival.Arrival.{Arrival}
use Rattle.label_search.proofs.settling.put_in_group.Given.{Over}
use Rattle.label_search.proofs.settling.put_in_group.Goals as goal

pub comes_next-next-requires-clause-stairs : goal.comes_next-next-requires-clause-stairs
comes_next-next-requires-clause-stairs g c = λ t. rw (c.as_slice.ensures.value, c.take_items-group.ensures.items) (record { trade = (c.requires.stairs t).trade; stairs = (c.requires.stairs t).stairs c.index-arrivals-place.result.state })

pub comes_next-next-requires-clause-widths : goal.comes_next-next-requires-clause-widths
comes_next-next-requires-clause-widths g c =
    let key = c.index-arrivals-place.result.state in
    rw (c.as_slice.ensures.value, c.take_items-group.ensures.items) (widths_at c.args.arrivals.now key (g.O.VectorOrder.rules c.args.order.now) (items_at g.G.State.PartialEq.eq c.args.groups.now key) c.requires.widths (c.requires.groups.arrivals_at key))

pub stay_stairs-still-requires-clause-widths : goal.stay_stairs-still-requires-clause-widths
stay_stairs-still-requires-clause-widths g c =
    let key = c.index-arrivals-place.result.state in
    rw (c.as_slice-2.ensures.value, c.take_items-group.ensures.items) (widths_at c.args.arrivals.now key (g.O.VectorOrder.rules c.args.order.now) (items_at g.G.State.PartialEq.eq c.args.groups.now key) c.requires.widths (c.requires.groups.arrivals_at key))

pub put_in_turn-requires-clause-widths : goal.put_in_turn-requires-clause-widths
put_in_turn-requires-clause-widths g c =
    let key = c.index-arrivals-place.result.state in
    rw c.take_items-group.ensures.items (widths_at c.args.arrivals.now key (g.O.VectorOrder.rules c.args.order.now) (items_at g.G.State.PartialEq.eq c.args.groups.now key) c.requires.widths (c.requires.groups.arrivals_at key))

pub put_in_turn-requires-clause-width : goal.put_in_turn-requires-clause-width
put_in_turn-requires-clause-width g c =
    let arrivals = c.args.arrivals.now in
    let x = c.index-arrivals-place.result in
    let at = slice_get_read arrivals (length arrivals) c.args.place x refl c.requires.place c.index-arrivals-place.is in
    rw (c.in_ok-copy_of.ensures.ok, c.as_slice-vector.ensures.value) (All-contains (λ y. length y.vector ≡ g.O.VectorOrder.rules c.args.order.now) arrivals x c.requires.widths (Contains-from_slice_get arrivals c.args.place x at))

pub put_in_turn-requires-clause-apart : goal.put_in_turn-requires-clause-apart
put_in_turn-requires-clause-apart g c = rw c.take_items-group.ensures.items (c.requires.groups.apart c.index-arrivals-place.result.state)

at_state : (g : Over) (c : goal.In_ok-set_items g) → (P : g.row.G-State.Denot → List Candidate → Type 0) → P c.index-arrivals-place.result.state c.in_ok-group.group.items → ((q : g.row.G-State.Denot) → P q (items_at g.G.State.PartialEq.eq c.args.groups.now q)) → (q : g.row.G-State.Denot) → P q (items_at g.G.State.PartialEq.eq c.set_items.new.map q)
at_state g c P here there =
    at_each g.G.State.PartialEq.eq g.met.G.StepGraph.same_states (items_at g.G.State.PartialEq.eq c.args.groups.now) (items_at g.G.State.PartialEq.eq c.set_items.new.map) c.index-arrivals-place.result.state c.in_ok-group.group.items
    (c.in_ok-set_items.ensures {u = tt}).set (λ q f. (c.in_ok-set_items.ensures {u = tt}).others q f ∙ c.take_items-group.ensures.others q f) P here there

new_is : (g : Over) (c : goal.In_ok-set_items g) → IsArrival c.args.arrivals.now c.index-arrivals-place.result.state (record { vector = c.in_ok-copy_of.field-0; number = c.args.place })
new_is g c =
    let x = c.index-arrivals-place.result in
    record {
      arrival = x;
      arrival_is = slice_get_read c.args.arrivals.now (length c.args.arrivals.now) c.args.place x refl c.requires.place c.index-arrivals-place.is;
      state_is = refl;
      vector_is = sym ((c.in_ok-copy_of.ensures {u = tt}).ok ∙ c.as_slice-vector.ensures.value);
    }

pub returns-clause-groups : goal.returns-clause-groups
returns-clause-groups g c =
    let key = c.index-arrivals-place.result.state in
    let taken = c.take_items-group.ensures.items in
    let put = c.in_ok-group.ensures {u = tt} in
    record {
      arrivals_at = at_state g c (λ s items. All (IsArrival c.args.arrivals.now s) items)
          (arrivals_left c.args.arrivals.now key c.take_items-group.result.items c.in_ok-group.group.items _ (rw taken (c.requires.groups.arrivals_at key)) (new_is g c) put.from)
          c.requires.groups.arrivals_at;
      apart = at_state g c (λ s items. StandApart (g.O.VectorOrder.no_worse c.args.order.now) items) put.apart c.requires.groups.apart;
    }

pub returns-clause-covers : goal.returns-clause-covers
unfolding new_is
returns-clause-covers g c = λ x at.
    let no_worse = g.O.VectorOrder.no_worse c.args.order.now in
    let eq = g.G.State.PartialEq.eq in
    let new = new_is g c in
    let is : new.arrival ≡ x = same_Some _ _ (sym new.arrival_is ∙ at) in
    let put = c.in_ok-group.ensures {u = tt} in
    let covered : IsCovered no_worse c.in_ok-group.group.items new.arrival.vector = rw new.vector_is put.covers in
    let there : items_at eq c.set_items.new.map new.arrival.state ≡ c.in_ok-group.group.items = (c.in_ok-set_items.ensures {u = tt}).set new.arrival.state (g.met.G.State.Eq.laws.refl new.arrival.state) in
    subst (λ (y : Arrival g.row.G-State.Denot). IsCovered no_worse (items_at eq c.set_items.new.map y.state) y.vector) is (subst (λ items. IsCovered no_worse items new.arrival.vector) (sym there) covered)

pub returns-clause-keeps : goal.returns-clause-keeps
returns-clause-keeps g c = λ s v wide.
    let no_worse = g.O.VectorOrder.no_worse c.args.order.now in
    let put = c.in_ok-group.ensures {u = tt} in
    at_state g c (λ q items. IsCovered no_worse (items_at g.G.State.PartialEq.eq c.args.groups.now q) v → IsCovered no_worse items v)
    (λ h. put.keeps v wide (rw c.take_items-group.ensures.items h)) (λ q h. h) s

pub returns-clause-from : goal.returns-clause-from
returns-clause-from g c = λ s x.
    let put = c.in_ok-group.ensures {u = tt} in
    at_state g c (λ q items. Contains items x → Contains (items_at g.G.State.PartialEq.eq c.args.groups.now q) x ⊎ (x.number ≡ c.args.place))
    (λ h. elim (put.from x h) [ inl old ↦ inl (rw c.take_items-group.ensures.items at old) | inr e ↦ inr (ap (λ (y : Candidate). y.number) (sym e)) ])
    (λ q h. inl h) s

pub returns-clause-stairs : goal.returns-clause-stairs
returns-clause-stairs g c = λ t.
    let no_worse = g.O.VectorOrder.no_worse c.args.order.now in
    let f = c.stay_stairs-still.ensures t in
    let was = c.requires.stairs f.0 in
    let put = c.in_ok-group.ensures {u = tt} in
    let group = c.take_items-group.result.items in
    let new : Candidate = record { vector = c.in_ok-copy_of.field-0; number = c.args.place } in
    let copied : new.vector ≡ c.as_slice-vector.result.now = (c.in_ok-copy_of.ensures {u = tt}).ok in
    let before : AreStairs group = rw c.take_items-group.ensures.items (was.stairs c.index-arrivals-place.result.state) in
    record {
      trade = was.trade;
      stairs = at_state g c (λ s items. AreStairs items)
          (elim f.1 [
            | inl next ↦ rw (put.pushed next) (stairs_push group new before (subst (λ v. ComesNext group v) (sym copied) (subst (λ xs. ComesNext xs c.as_slice-vector.result.now) c.as_slice.ensures.value (c.comes_next-next.ensures next).1)))
            | inr covered ↦ rw (put.same (subst (λ v. IsCovered no_worse group v) (sym copied) (subst (λ xs. IsCovered no_worse xs c.as_slice-vector.result.now) c.as_slice-2.ensures.value covered))) before
          ])
          was.stairs;
    }
