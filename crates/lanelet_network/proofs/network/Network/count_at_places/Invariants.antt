use Rattle.std.proofs.Common.{◌≡◌, ◌≤◌, take}
use Rattle.std.specs.Prelude.{count_by}
use Rattle.lanelet_network.specs.Lanes.{holds_at}
use Rattle.lanelet_network.proofs.network.Network.count_at_places.Given as goal

abbrev pub invariant-loop-place : goal.invariant-loop-place
invariant-loop-place l = (l.count ≡ count_by (λ place. holds_at l.self place l.point) (take l.place-index l.places)) × (l.count ≤ l.place-index)
