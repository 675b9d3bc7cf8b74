-- What a list ends as, once a `&mut` into it has ended.
use Rattle.std.specs.Prelude.{ℕ, List, slice_set}
use Rattle.std.specs.Borrow.{Fml, RattleType, MutBor, Lends}
use Rattle.preorder.specs.contracts.list.List.{the_row}

-- the list ends with the item at i as the last value behind r
abbrev pub lends_item : (R : RattleType) → MutBor (List R.Denot) → ℕ → MutBor R.Denot → Fml
lends_item R xs i r = Lends (the_row R) R xs r (slice_set xs.now i)
