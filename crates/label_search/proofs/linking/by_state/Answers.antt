use Rattle.std.proofs.Common.{length, refl, sym, ◌∙◌, subst, arith}
use Rattle.std.specs.Prelude.{All}
use Rattle.std.proofs.lemmas.Option.{slice_get_read, slice_get_within}
use Rattle.std.proofs.lemmas.List.Elements.{All-nil}
use Rattle.label_search.specs.Index.{items_at}
use Rattle.label_search.specs.Settling.{IsArrival}
use Rattle.label_search.proofs.Groups.{items_at-empty}
use Rattle.label_search.proofs.Links.{from_more, all_more}
use Rattle.label_search.proofs.linking.by_state.Goals as goal

pub loop-number-init : goal.loop-number-init
loop-number-init g c =
    let eq = g.G.State.PartialEq.eq in
    let none = items_at-empty eq c.new-index.result c.new-index.ensures.empty in
    record {
      from = λ s. subst (λ xs. All (IsArrival c.args.arrivals.now s) xs) (sym (none s)) (All-nil (IsArrival c.args.arrivals.now s));
      all = λ k x below. absurd (omega arith);
    }

pub loop-number-preserved : goal.loop-number-preserved
loop-number-preserved g c =
    let eq = g.G.State.PartialEq.eq in
    let arrivals = c.args.arrivals.now in
    let n = c.loop-number.number in
    let x = c.index-arrivals-number.result in
    let at = slice_get_read arrivals (length arrivals) n x refl c.loop-number-test.true c.index-arrivals-number.is in
    let vector = (c.in_ok-vector.ensures {u = tt}).ok ∙ c.as_slice.ensures.value in
    let item = c.in_ok-add_item.ensures {u = tt} in
    let before = items_at eq c.loop-number.index in
    let after = items_at eq c.add_item.new.map in
    let was = c.loop-number.invariant in
    record {
      from = from_more eq g.met.G.State.Eq.laws g.met.G.StepGraph.same_states arrivals n x at (record { vector = c.in_ok-vector.vector; number = n }) (sym vector) refl before after item.added item.others was.from;
      all = all_more eq g.met.G.State.Eq.laws g.met.G.StepGraph.same_states arrivals n x at (record { vector = c.in_ok-vector.vector; number = n }) (sym vector) refl before after item.added item.others was.all;
    }

pub returns : goal.returns
returns g c =
    let was = c.loop-number.invariant in
    record { from = was.from; all = λ k x at. was.all k x (let h = slice_get_within c.args.arrivals.now k x at in omega arith) at }
