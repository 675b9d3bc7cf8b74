-- Which phase of its cycle a light is in. This project's own.
use Rattle.std.specs.Prelude.{ℕ, ◌+◌, ◌-◌, ◌-ℤ◌, Bool, false, not, List, [], ◌∷◌, pos}
use Rattle.std.specs.Prelude.{unsigned_abs, nat_lt, Option, Some, None, if◌then◌else◌}
use Rattle.std.specs.Int.{int_rem_euclid}
use Rattle.std.specs.List.{position, range_with_len, sum_by}
use Rattle.std.specs.Option.{option_map, option_map_or}
use Rattle.signal_features.specs.declared.limits.TheConstants.{MAX_WAIT}
use Rattle.signal_features.specs.declared.signals.Light.{Light}
use Rattle.signal_features.specs.declared.signals.Phase.{Phase}

-- how long the phases last together
abbrev pub cycle : List Phase → ℕ
cycle phases = sum_by (λ (p : Phase). p.ticks) phases

-- the phase is red that holds this place of the cycle, counted in ticks from 0
unfoldable pub is_red_at : List Phase → ℕ → Bool
is_red_at [] place = false
is_red_at (p ∷ phases) place =
    if nat_lt place p.ticks then p.red else is_red_at phases (place - p.ticks)

-- the place of its cycle that a light is at: the ticks since its offset, modulo the cycle
unfoldable pub place_at : Light → ℕ → ℕ
place_at light tick =
    unsigned_abs (int_rem_euclid (pos tick -ℤ pos light.offset) (pos (cycle light.phases)))

-- the light is red at the tick
unfoldable pub is_red : Light → ℕ → Bool
is_red light tick = is_red_at light.phases (place_at light tick)

-- the least number of ticks, from 0, after which the light is not red; `MAX_WAIT` where it is red
-- through all its cycle
unfoldable pub green_in : Light → ℕ → ℕ
green_in light tick =
    option_map_or (λ n. n) (position (λ n. not (is_red light (tick + n)))
    (range_with_len 0 (cycle light.phases))) MAX_WAIT

-- ---- as it is found, phase by phase

-- how long it takes from a place of the phases to one that is not red, if there is one
unfoldable pub wait_from : List Phase → ℕ → Option ℕ
wait_from [] place = None
wait_from (p ∷ phases) place =
    if nat_lt place p.ticks then
    (if p.red then option_map (λ n. p.ticks - place + n) (wait_from phases 0) else Some 0)
    else wait_from phases (place - p.ticks)
