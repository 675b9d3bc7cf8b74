-- When the placements of a track can be found by their places.
use Rattle.std.specs.Prelude.{◌≡◌, ℕ, suc, true, List, [], ◌∷◌}
use Rattle.moving_obstacles.specs.declared.track.Placement.{Placement}
use Rattle.moving_obstacles.specs.declared.track.Track.{Track}

-- the ticks rise by one, from the tick on
abbrev pub RiseFrom : ℕ → List Placement → Type 0
RiseFrom tick [] = Unit {0}
RiseFrom tick (p ∷ ps) = (p.pose.tick ≡ tick) × RiseFrom (suc tick) ps

-- the obstacle moves, and the ticks of its states rise by one
pub record RisesFrom (tick : ℕ) (track : Track) : Type 0 where
  pub moving : track.moving ≡ true
  pub placements : RiseFrom tick track.placements
