-- A search through items, at place i.
use Rattle.std.proofs.Common.{◌≡◌, ℕ, ◌+◌, ◌<◌, ◌≤◌, List, length, get_or, drop, Option, Some, None, refl, add-one, drop-cons}
use Rattle.std.proofs.lemmas.List.{drop_all}
use Rattle.scenario_xml.specs.Scenarios.{first_in}

pub found_in : {X Y : Type 0} (f : X → Option Y) (xs : List X) (i : ℕ) (d : X) (y : Y) → i < length xs → f (get_or xs i d) ≡ Some y → first_in f (drop i xs) ≡ Some y
unfolding first_in
found_in f xs i d y lt h = rw (drop-cons xs i d lt, h) refl

pub none_in : {X Y : Type 0} (f : X → Option Y) (xs : List X) (i : ℕ) (d : X) → i < length xs → f (get_or xs i d) ≡ None → first_in f (drop i xs) ≡ first_in f (drop (i + 1) xs)
unfolding first_in
none_in f xs i d lt h = rw (add-one, drop-cons xs i d lt, h) refl

pub no_more : {X Y : Type 0} (f : X → Option Y) (xs : List X) (i : ℕ) → length xs ≤ i → first_in f (drop i xs) ≡ None
unfolding first_in
no_more f xs i le = rw (drop_all i xs le) refl
