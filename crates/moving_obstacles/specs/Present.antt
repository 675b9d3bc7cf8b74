-- What is present at a tick, listed by itself: this project's own.
use Rattle.std.specs.Prelude.{◌≡◌, ◌<◌, ℕ, List, [], length, map, All, Option, Some, IfSome}
use Rattle.std.specs.Prelude.{slice_get, slice_index_or, option_and_then}
use Rattle.std.specs.List.{filter_map}
use Rattle.fixed_geometry.specs.Boxes.{IsBoxInRange}
use Rattle.moving_obstacles.specs.Bounds.{AreBounds}
use Rattle.moving_obstacles.specs.Tracks.{placement_in}
use Rattle.moving_obstacles.specs.declared.presence.Presence.{Presence}
use Rattle.moving_obstacles.specs.declared.track.Placement.{Placement}
use Rattle.moving_obstacles.specs.declared.track.Track.{Track}

-- the placement at the tick of the track at the place
unfoldable pub placement_there : List Track → ℕ → ℕ → Option Placement
placement_there tracks tick place =
    option_and_then (λ (t : Track). placement_in t tick) (slice_get tracks place)

-- the placements at the tick, in the order of the tracks
unfoldable pub placements_at : List Track → ℕ → List Placement
placements_at tracks tick = filter_map (λ (t : Track). placement_in t tick) tracks

-- the presence has the placement's pose, and a box that holds its shapes
pub record IsPresenceOf (placement : Placement) (presence : Presence) : Type 0 where
  pub bounds : AreBounds placement.shapes presence.bounds
  pub pose : presence.pose ≡ placement.pose

-- the presence is that of the placement at the tick of the track at its place
pub record IsPresent (tracks : List Track) (tick : ℕ) (presence : Presence) : Type 0 where
  pub in_range : IsBoxInRange presence.bounds
  pub placement : IfSome (placement_there tracks tick presence.place)
      (λ placement. IsPresenceOf placement presence)

-- the presences are those of all placements at the tick, in order
pub record ArePresent (tracks : List Track) (tick : ℕ) (present : List Presence) : Type 0 where
  pub placements : map (λ (p : Presence). placement_there tracks tick p.place) present
      ≡ map Some (placements_at tracks tick)
  pub each : All (IsPresent tracks tick) present

-- at the place of each tick stands what is present then
abbrev pub AreMoments : List Track → List (List Presence) → Type 0
AreMoments tracks moments = (tick : ℕ) → tick < length moments
    → ArePresent tracks tick (slice_index_or moments tick [])
