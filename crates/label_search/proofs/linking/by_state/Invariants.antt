use Rattle.std.proofs.Common.{◌≡◌, ℕ, ◌<◌}
use Rattle.std.specs.Prelude.{All, Some, slice_get}
use Rattle.label_search.specs.Index.{items_at}
use Rattle.label_search.specs.Settling.{IsArrival, HasNumber}
use Rattle.label_search.proofs.linking.by_state.Given as goal

abbrev pub invariant-loop-number : goal.invariant-loop-number
invariant-loop-number g l =
    let candidates = items_at g.G.State.PartialEq.eq l.index in
    record {
      from : (s : _) → All (IsArrival l.arrivals s) (candidates s);
      all : (k : ℕ) (x : _) → k < l.number → slice_get l.arrivals k ≡ Some x → HasNumber (candidates x.state) k;
    }
