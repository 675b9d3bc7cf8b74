use Rattle.std.proofs.Common.{◌≡◌, [], ◌∷◌, ◌++◌, length, get_or, refl, arith}
use Rattle.std.proofs.lemmas.Bool.{iff_false}
use Rattle.std.proofs.lemmas.List.{take_all}
use Rattle.std.proofs.lemmas.Option.{slice_get_read}
use Rattle.std.proofs.lemmas.List.Elements.{All-nil}
use Rattle.label_search.specs.Index.{items_at}
use Rattle.label_search.specs.Settling.{IsKept, KeepsPlace, HasNumber}
use Rattle.label_search.proofs.Groups.{from_push, from_skip, all_push, all_skip, apart_push}
use Rattle.label_search.proofs.settling.kept_of.Goals as goal
use Rattle.label_search.proofs.settling.kept_of.Goals.{then-has_number+in_ok-copy_of+in_ok-push, else-has_number}

pub loop-place-init : goal.loop-place-init
loop-place-init g c =
    let candidates = items_at g.G.State.PartialEq.eq c.args.groups.now in
    rw c.new-kept.ensures.items (record {
      from = All-nil (IsKept c.args.arrivals.now [] candidates);
      all = All-nil (KeepsPlace c.args.arrivals.now candidates []);
      apart = λ i j d below inside. absurd (omega arith);
    })

pub loop-place-preserved : goal.loop-place-preserved
loop-place-preserved g c =
    let candidates = items_at g.G.State.PartialEq.eq c.args.groups.now in
    let no_worse = g.O.VectorOrder.no_worse c.args.order.now in
    let arrivals = c.args.arrivals.now in
    let places = c.args.places.now in
    let k = c.loop-place.place-index in
    let inside = c.loop-place-test.true in
    let x = c.index-arrivals-place.result in
    let kept = c.loop-place.kept.items in
    let was = c.loop-place.invariant in
    let at = slice_get_read arrivals (length arrivals) (get_or places k 0) x refl (c.requires.places k 0 inside) c.index-arrivals-place.is in
    let number = rw c.items_of.ensures at c.has_number.ensures in
    elim c.if-has_number.branch [
      | then-has_number+in_ok-copy_of+in_ok-push w ↦
          let mine : HasNumber (candidates x.state) (get_or places k 0) = number.0 w.if-has_number.true in
          let items : c.if-has_number.kept.items ≡ kept ++ x ∷ [] = rw (w.kept-is, w.in_ok-push.ensures.items, w.in_ok-copy_of.ensures {u = tt}) refl in
          rw items (record {
            from = from_push no_worse arrivals candidates c.requires.groups places c.requires.rising k inside kept was.from was.all was.apart x at mine;
            all = all_push no_worse arrivals candidates c.requires.groups places c.requires.rising k inside kept was.from was.all was.apart x at;
            apart = apart_push no_worse arrivals candidates c.requires.groups places c.requires.rising k inside kept was.from was.all was.apart x at mine;
          })
      | else-has_number w ↦
          let none : HasNumber (candidates x.state) (get_or places k 0) → ⊥ = iff_false number w.if-has_number.false in
          rw w.kept-is (record {
            from = from_skip no_worse arrivals candidates c.requires.groups places c.requires.rising k inside kept was.from was.all was.apart x at;
            all = all_skip no_worse arrivals candidates c.requires.groups places c.requires.rising k inside kept was.from was.all was.apart x at none;
            apart = was.apart;
          })
    ]

pub returns : goal.returns
returns g c =
    let all = take_all c.loop-place.place-index c.args.places.now c.loop-place-test.false in
    record { from = rw all at c.loop-place.invariant.from; all = rw all at c.loop-place.invariant.all; apart = c.loop-place.invariant.apart }
