use Rattle.std.proofs.Common.{◌≡◌, [], ◌∷◌, ◌++◌, length, refl, sym, ap, ◌∙◌, subst, arith, inl, inr, length-append}
use Rattle.std.specs.Prelude.{slice_get}
use Rattle.std.proofs.lemmas.Bool.{cases_order}
use Rattle.std.proofs.lemmas.Option.{slice_get_read, slice_get_within, same_Some}
use Rattle.label_search.specs.declared.arrival.Arrival.{Arrival}
use Rattle.label_search.specs.Index.{items_at}
use Rattle.label_search.specs.Linking.{IsCoveredBy, IsTold}
use Rattle.label_search.proofs.Links.{linked-still, linked-now}
use Rattle.label_search.proofs.linking.links_to.Goals as goal

pub loop-place-init : goal.loop-place-init
loop-place-init g c = rw c.new-links.ensures (record { count = refl; covers = λ j x below. absurd (omega arith) })

pub link_to-found-requires-clause-told : goal.link_to-found-requires-clause-told
link_to-found-requires-clause-told g c = subst (IsTold c.args.labels.now) (sym c.index-arrivals-place.is) (c.requires.told c.loop-place.place c.index-arrivals-place.result c.loop-place-test.true)

pub loop-place-preserved : goal.loop-place-preserved
loop-place-preserved g c =
    let no_worse = g.O.VectorOrder.no_worse c.args.order.now in
    let candidates = items_at g.G.State.PartialEq.eq c.args.index.now in
    let arrivals = c.args.arrivals.now in
    let i = c.loop-place.place in
    let item = c.index-arrivals-place.result in
    let links = c.loop-place.links in
    let link = c.link_to-found.result.0 in
    let was = c.loop-place.invariant in
    let pushed = (c.in_ok-push.ensures {u = tt}).ok in
    let at = slice_get_read arrivals (length arrivals) i item refl c.loop-place-test.true c.index-arrivals-place.is in
    let found = c.link_to-found.ensures in
    rw pushed (record {
      count = omega (arith, length-append links (link ∷ []), was.count);
      covers = λ j x below x_at. elim (cases_order j i) [
        | inl now ↦ (let e : item ≡ x = same_Some _ _ (sym at ∙ (ap (slice_get arrivals) (sym now) ∙ x_at)) in
            subst (λ (y : Arrival g.row.G-State.Denot). IsCoveredBy no_worse (candidates y.state) (links ++ link ∷ []) j y.vector) e (linked-now no_worse links link (candidates item.state) j item.vector (now ∙ sym was.count) found.0 found.1))
        | inr (inl less) ↦ linked-still no_worse links link (candidates x.state) j x.vector (was.covers j x less x_at)
        | inr (inr more) ↦ absurd (omega arith)
      ];
    })

pub returns : goal.returns
returns g c =
    let was = c.loop-place.invariant in
    record { count = omega (arith, was.count); covers = λ j x at. was.covers j x (let h = slice_get_within c.args.arrivals.now j x at in omega arith) at }
