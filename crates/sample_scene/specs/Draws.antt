-- Pseudo-random numbers: the linear congruential sequence of the C standard's example, with the
-- upper bits of each state. The start is this project's own.
use Rattle.std.specs.Prelude.{ℕ, zero, suc, ◌+◌, ◌*◌, ◌/◌, ◌%◌, ◌^◌}

-- the state that follows another
unfoldable pub following : ℕ → ℕ
following state = (1103515245 * state + 12345) % 2 ^ 31

-- the state after so many draws, where the first state is a number
unfoldable pub state_after : ℕ → ℕ → ℕ
state_after number zero = number
state_after number (suc draws) = following (state_after number draws)

-- what a state gives, from 0 to 32767
abbrev pub given_by : ℕ → ℕ
given_by state = state / 65536

-- draw i, counted from 0, where the first state is a number
abbrev pub draw : ℕ → ℕ → ℕ
draw number i = given_by (state_after number (i + 1))
