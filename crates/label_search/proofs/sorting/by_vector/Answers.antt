use Rattle.std.proofs.Common.{◌≡◌, map, ◌∙◌}
use Rattle.std.specs.List.Sorted.{IsPermutation}
use Rattle.std.proofs.lemmas.List.{take_all}
use Rattle.std.proofs.lemmas.List.Sorted.{IsPermutation-map}
use Rattle.std.proofs.lemmas.Result.{IfOk-weaker}
use Rattle.label_search.specs.declared.candidate.Candidate.{Candidate}
use Rattle.label_search.proofs.sorting.by_vector.Goals as goal

pub returns : goal.returns
returns g c =
    let all = take_all c.loop-place.place-index c.args.places.now c.loop-place-test.false in
    let before : map (λ (x : Candidate). x.number) c.loop-place.keyed.items ≡ c.args.places.now = c.loop-place.invariant ∙ all in
    let moved = rw before at (IsPermutation-map (λ (x : Candidate). x.number) c.loop-place.keyed.items c.sort_by.new.self.items c.sort_by.ensures.permutation) in
    IfOk-weaker c.numbers.result (λ numbers. numbers.items ≡ map (λ (x : Candidate). x.number) c.as_slice-2.result.now) (λ numbers. IsPermutation c.args.places.now numbers.items)
    (λ numbers e. rw (e, c.as_slice-2.ensures.value) moved) c.numbers.ensures
