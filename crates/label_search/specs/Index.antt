-- A map from keys to lists of items, seen as the items of each key.
use Rattle.std.specs.Prelude.{Bool, List, [], Vec, Option, Some, None}
use Rattle.std.specs.declared.alloc.Global.{Global}
use Rattle.indexmap.specs.IndexMap.{IndexMap, get}

abbrev pub items_in : {T : Type 0} → Option (Vec T Global) → List T
items_in None = []
items_in (Some items) = items.items

-- the items of a key; none where it has no entry
abbrev pub items_at : {K T H : Type 0} → (K → K → Bool) → IndexMap K (Vec T Global) H → K → List T
items_at eq map key = items_in (get eq map key)
