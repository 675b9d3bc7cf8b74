use Rattle.std.proofs.Common.{◌≡◌, take}
use Rattle.std.specs.Prelude.{map}
use Rattle.table_search.specs.Relabeled.{relabeled}
use Rattle.table_search.proofs.relabeling.labels_at.Given as goal

abbrev pub invariant-loop-label : goal.invariant-loop-label
invariant-loop-label g l = (other : g.row.S.Denot) → l.at ≡ map (relabeled l.table.states other) (take l.label-index l.labels)
