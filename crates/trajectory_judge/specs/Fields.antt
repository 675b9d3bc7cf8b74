-- What a row of a file of recordings says: a name and a step. The columns and their limits are this
-- project's own.
use Rattle.std.specs.Prelude.{ℕ, ◌&&◌, List, [], ◌∷◌, length, ℤ, pos, int_le, unsigned_abs, nat_le}
use Rattle.std.specs.Prelude.{Option, Some, None, Result, Ok, Err, ◌==◌, if◌then◌else◌}
use Rattle.std.specs.List.{position}
use Rattle.std.specs.Str.{bytes_eq}
use Rattle.fixed_decimal.specs.Answers.{fixed}
use Rattle.fixed_decimal.specs.declared.DecimalFault.{DecimalFault}
use Rattle.preorder.specs.Name.{is_name}
use Rattle.reading.specs.Reading.{◌>>=◌}
use Rattle.violation_measures.specs.declared.step.Step.{Step}
use Rattle.trajectory_judge.specs.Rows.{Row}
use Rattle.trajectory_judge.specs.declared.fault.RecordFault.{RecordFault}
use Rattle.trajectory_judge.specs.declared.fault.RecordFault.TheVariants.{Csv, BadName, BadNumber}
use Rattle.trajectory_judge.specs.declared.fault.RecordFault.TheVariants.{UnknownManeuver}
use Rattle.trajectory_judge.specs.declared.limits.TheConstants.{MAX_RECORDED_TICK}
use Rattle.trajectory_judge.specs.declared.limits.TheConstants.{MAX_RECORDED_COORDINATE}
use Rattle.trajectory_judge.specs.declared.limits.TheConstants.{MAX_RECORDED_HEADING}
use Rattle.trajectory_judge.specs.declared.limits.TheConstants.{MAX_RECORDED_SPEED}
use Rattle.trajectory_judge.specs.declared.limits.TheConstants.{MAX_RECORDED_TURN}

-- the name in row n
unfoldable pub name_in : ℕ → List ℕ → Result (List ℕ) RecordFault
name_in n text = if is_name text then Ok text else Err (BadName n)

abbrev pub at_most : ℕ → ℕ → Result ℤ DecimalFault → Result ℤ RecordFault
at_most n limit (Err fault) = Err (BadNumber n)
at_most n limit (Ok v) = if nat_le (unsigned_abs v) limit then Ok v else Err (BadNumber n)

-- the decimal in row n as a whole number of so many places, of at most this size
unfoldable pub measure : ℕ → ℕ → ℕ → List ℕ → Result ℤ RecordFault
measure n places limit text = at_most n limit (fixed text places)

abbrev pub from_zero : ℕ → Result ℤ DecimalFault → Result ℕ RecordFault
from_zero n (Err fault) = Err (BadNumber n)
from_zero n (Ok v) =
    if int_le (pos 0) v && nat_le (unsigned_abs v) MAX_RECORDED_TICK then Ok (unsigned_abs v)
    else Err (BadNumber n)

-- the tick in row n
unfoldable pub tick_in : ℕ → List ℕ → Result ℕ RecordFault
tick_in n text = from_zero n (fixed text 0)

-- where the vehicle is in row n and how it drives, without its maneuver: metres, radians, metres a
-- second, metres a second squared, radians a second
unfoldable pub drive_in : ℕ → List ℕ → List ℕ → List ℕ → List ℕ → List ℕ → List ℕ → List ℕ
    → Result Step RecordFault
drive_in n tick x y heading speed accel turn =
    tick_in n tick >>= λ tick.
    measure n 4 MAX_RECORDED_COORDINATE x >>= λ x.
    measure n 4 MAX_RECORDED_COORDINATE y >>= λ y.
    measure n 6 MAX_RECORDED_HEADING heading >>= λ heading.
    measure n 3 MAX_RECORDED_SPEED speed >>= λ speed.
    measure n 3 MAX_RECORDED_SPEED accel >>= λ accel.
    measure n 6 MAX_RECORDED_TURN turn >>= λ turn.
    Ok (record {
      tick = tick;
      x = x;
      y = y;
      heading = heading;
      speed = speed;
      accel = accel;
      turn = turn;
      maneuver = None;
    })

abbrev pub or_unknown : ℕ → Option ℕ → Result (Option ℕ) RecordFault
or_unknown n None = Err (UnknownManeuver n)
or_unknown n (Some place) = Ok (Some place)

-- the maneuver in row n: none where the field is empty, and else the place of the maneuver of this
-- name
unfoldable pub maneuver_in : ℕ → List (List ℕ) → List ℕ → Result (Option ℕ) RecordFault
maneuver_in n maneuvers text =
    if length text == 0 then Ok None else or_unknown n
    (position (λ name. bytes_eq name text) maneuvers)

-- the step with this maneuver
abbrev pub by_maneuver : Step → Option ℕ → Step
by_maneuver step maneuver = record step { maneuver = maneuver }

-- what row n says, by its fields
unfoldable pub said_by : List (List ℕ) → ℕ → List ℕ → List ℕ → List ℕ → List ℕ → List ℕ → List ℕ
    → List ℕ → List ℕ → List ℕ → Result (List ℕ × Step) RecordFault
said_by maneuvers n name tick x y heading speed accel turn maneuver =
    name_in n name >>= λ name.
    drive_in n tick x y heading speed accel turn >>= λ step.
    maneuver_in n maneuvers maneuver >>= λ maneuver.
    Ok (name, by_maneuver step maneuver)

-- what row n says, which has to have nine fields
abbrev pub said : List (List ℕ) → ℕ → Row → Result (List ℕ × Step) RecordFault
said maneuvers n (name ∷ tick ∷ x ∷ y ∷ heading ∷ speed ∷ accel ∷ turn ∷ maneuver ∷ []) =
    said_by maneuvers n name tick x y heading speed accel turn maneuver
said maneuvers n _ = Err (Csv n)
